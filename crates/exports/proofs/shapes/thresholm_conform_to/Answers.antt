use mathlib.Core.Path.{ap₂}
use lib.ListN.{length}
use Rattle.std.proofs.Common.{rules}
use Rattle.masks.specs.declared.shape.Shape.{Shape}
use Rattle.masks.specs.Shape.{conform_to}
use Rattle.exports.proofs.ReportsLaws.{value_reported}
use Rattle.exports.proofs.shapes.thresholm_conform_to.Goals as goal

pub returns : goal.returns
returns c =
    let given = c.args in
    value_reported (ap₂ (λ (s : Shape) (t : Shape). conform_to s t given.a.now (length given.out.now)) c.shape_from.ensures c.shape_from-2.ensures) c.conform_to-answer.ensures (λ s p. search rules) c.report.ensures
