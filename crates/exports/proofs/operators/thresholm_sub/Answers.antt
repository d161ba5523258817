use mathlib.Core.Path.{ap₂}
use lib.ListN.{length}
use Rattle.std.proofs.Common.{rules}
use Rattle.masks.specs.declared.shape.Shape.{Shape}
use Rattle.arithmetic.specs.Operators.{Minus, addition}
use Rattle.exports.proofs.ReportsLaws.{value_reported}
use Rattle.exports.proofs.operators.thresholm_sub.Goals as goal

pub returns : goal.returns
returns c =
    let given = c.args in
    value_reported (ap₂ (λ (s : Shape) (t : Shape). addition Minus s t given.a.now given.b.now (length given.out.now)) c.shape_from.ensures c.shape_from-2.ensures) c.sub-answer.ensures (λ s p. search rules) c.report.ensures
