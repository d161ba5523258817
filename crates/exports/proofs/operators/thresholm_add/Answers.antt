use mathlib.Core.Path.{ap₂}
use lib.ListN.{length}
use Rattle.std.proofs.Common.{rules}
use Rattle.masks.specs.declared.shape.Shape.{Shape}
use Rattle.arithmetic.specs.Operators.{Plus, addition}
use Rattle.exports.proofs.ReportsLaws.{value_reported}
use Rattle.exports.proofs.operators.thresholm_add.Goals as goal

pub returns : goal.returns
returns c =
    let given = c.args in
    value_reported (ap₂ (λ (s : Shape) (t : Shape). addition Plus s t given.a.now given.b.now (length given.out.now)) c.shape_from.ensures c.shape_from-2.ensures) c.add-answer.ensures (λ s p. search rules) c.report.ensures
