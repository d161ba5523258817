use mathlib.Core.Path.{ap₂}
use Rattle.std.proofs.Common.{rules}
use Rattle.masks.specs.declared.shape.Shape.{Shape}
use Rattle.arithmetic.specs.Compare.{Ordered, compared}
use Rattle.exports.specs.Numbers.{order_number}
use Rattle.exports.proofs.ReportsLaws.{same_reported}
use Rattle.exports.proofs.compare.thresholm_cmp.Goals as goal

pub returns : goal.returns
returns c =
    let given = c.args in
    same_reported (λ (o : Ordered). o.number) (λ (o : Ordered). o.order) order_number _ _ _ _ (ap₂ (λ (s : Shape) (t : Shape). compared s t given.a.now given.b.now) c.shape_from.ensures c.shape_from-2.ensures) c.cmp-answer.ensures (λ o p. search rules) c.report.ensures
