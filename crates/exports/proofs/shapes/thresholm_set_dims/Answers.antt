use mathlib.Core.Path.{ap}
use lib.ListN.{length}
use Rattle.std.proofs.Common.{rules}
use Rattle.masks.specs.declared.shape.Shape.{Shape}
use Rattle.masks.specs.Shape.{set_dims}
use Rattle.exports.proofs.ReportsLaws.{value_reported}
use Rattle.exports.proofs.shapes.thresholm_set_dims.Goals as goal

pub returns : goal.returns
returns c =
    let given = c.args in
    value_reported (ap (λ (s : Shape). set_dims s given.new_dims given.a.now (length given.out.now)) c.shape_from.ensures) c.set_dims-answer.ensures (λ s p. search rules) c.report.ensures
