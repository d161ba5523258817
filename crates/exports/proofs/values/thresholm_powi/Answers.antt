use mathlib.Core.Path.{ap₂}
use lib.IntN.{ℤ}
use lib.ListN.{length}
use mir.Syntax.{w32}
use mir.ValLaws.{to_z-of_z}
use Rattle.std.proofs.Common.{rules}
use Rattle.masks.specs.declared.shape.Shape.{Shape}
use Rattle.arithmetic.specs.Power.{power}
use Rattle.exports.proofs.ReportsLaws.{value_reported}
use Rattle.exports.proofs.values.thresholm_powi.Goals as goal

pub returns : goal.returns
returns c =
    let given = c.args in
    value_reported (ap₂ (λ (s : Shape) (y : ℤ). power s y given.a.now (length given.out.now)) c.shape_from.ensures (to_z-of_z w32 given.exponent c.ranges.exponent)) c.powi-answer.ensures (λ s p. search rules) c.report.ensures
