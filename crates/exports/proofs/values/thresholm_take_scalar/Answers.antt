use mathlib.Core.Path.{ap}
use lib.ListN.{length}
use Rattle.std.proofs.Common.{rules}
use Rattle.masks.specs.declared.shape.Shape.{Shape}
use Rattle.arithmetic.specs.Kept.{take_scalar}
use Rattle.exports.proofs.ReportsLaws.{taken_reported}
use Rattle.exports.proofs.values.thresholm_take_scalar.Goals as goal

pub returns : goal.returns
returns c =
    let given = c.args in
    taken_reported (ap (λ (s : Shape). take_scalar s given.a.now (length given.out.now)) c.shape_from.ensures) c.take_scalar-taken.ensures (λ x p. search rules) c.report_two.ensures
