use mathlib.Core.Path.{ap}
use lib.ListN.{length}
use Rattle.std.proofs.Common.{rules}
use Rattle.masks.specs.declared.shape.Shape.{Shape}
use Rattle.arithmetic.specs.Scale.{mul_f64}
use Rattle.exports.proofs.ReportsLaws.{value_reported}
use Rattle.exports.proofs.operators.thresholm_mul_f64.Goals as goal

pub returns : goal.returns
returns c =
    let given = c.args in
    value_reported (ap (λ (s : Shape). mul_f64 s given.f given.a.now (length given.out.now)) c.shape_from.ensures) c.mul_f64-answer.ensures (λ s p. search rules) c.report.ensures
