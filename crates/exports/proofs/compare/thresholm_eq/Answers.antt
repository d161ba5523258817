use mathlib.Core.Path.{ap₂}
use Rattle.std.proofs.Common.{rules}
use Rattle.masks.specs.declared.shape.Shape.{Shape}
use Rattle.arithmetic.specs.Compare.{YesNo, equals}
use Rattle.exports.specs.Numbers.{yes_number}
use Rattle.exports.proofs.ReportsLaws.{same_reported}
use Rattle.exports.proofs.compare.thresholm_eq.Goals as goal

pub returns : goal.returns
returns c =
    let given = c.args in
    same_reported (λ (o : YesNo). o.number) (λ (o : YesNo). o.yes) yes_number _ _ _ _ (ap₂ (λ (s : Shape) (t : Shape). equals s t given.a.now given.b.now) c.shape_from.ensures c.shape_from-2.ensures) c.eq-answer.ensures (λ b p. search rules) c.report.ensures
