use mathlib.Core.Path.{ap}
use lib.ListN.{length}
use Rattle.std.proofs.Common.{rules}
use Rattle.masks.specs.declared.shape.Shape.{Shape}
use Rattle.arithmetic.specs.Scale.{negation}
use Rattle.exports.proofs.ReportsLaws.{value_reported}
use Rattle.exports.proofs.operators.thresholm_neg.Goals as goal

pub returns : goal.returns
returns c =
    let given = c.args in
    value_reported (ap (λ (s : Shape). negation s given.a.now (length given.out.now)) c.shape_from.ensures) c.neg-answer.ensures (λ s p. search rules) c.report.ensures
