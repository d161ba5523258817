use mathlib.Core.Path.{ap}
use lib.ListN.{length}
use Rattle.std.proofs.Common.{rules}
use Rattle.masks.specs.declared.flavor.Flavor.{Flavor}
use Rattle.masks.specs.Build.{vector}
use Rattle.exports.proofs.ReportsLaws.{value_reported}
use Rattle.exports.proofs.build.thresholm_vector.Goals as goal

pub returns : goal.returns
returns c =
    let given = c.args in
    value_reported (ap (λ (f : Flavor). vector given.v.now f (length given.out.now)) c.flavor_in.ensures) c.vector-answer.ensures (λ s p. search rules) c.report.ensures
