use mathlib.Core.Path.{ap}
use lib.ListN.{length}
use Rattle.std.proofs.Common.{rules}
use Rattle.masks.specs.declared.shape.Shape.{Shape}
use Rattle.masks.specs.Build.{scalar}
use Rattle.exports.proofs.ReportsLaws.{value_reported}
use Rattle.exports.proofs.build.thresholm_scalar.Goals as goal

pub returns : goal.returns
returns c =
    let given = c.args in
    value_reported (ap (λ (s : Shape). scalar s.dims given.x s.flavor (length given.out.now)) c.shape_from-stated.ensures) c.scalar-answer.ensures (λ s p. search rules) c.report.ensures
