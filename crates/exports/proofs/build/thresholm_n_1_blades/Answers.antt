use mathlib.Core.Path.{ap}
use lib.ListN.{length}
use Rattle.std.proofs.Common.{rules}
use Rattle.masks.specs.declared.flavor.Flavor.{Flavor}
use Rattle.masks.specs.Build.{n_1_blades}
use Rattle.exports.proofs.ReportsLaws.{value_reported}
use Rattle.exports.proofs.build.thresholm_n_1_blades.Goals as goal

pub returns : goal.returns
returns c =
    let given = c.args in
    value_reported (ap (λ (f : Flavor). n_1_blades given.v.now f (length given.out.now)) c.flavor_in.ensures) c.n_1_blades-answer.ensures (λ s p. search rules) c.report.ensures
