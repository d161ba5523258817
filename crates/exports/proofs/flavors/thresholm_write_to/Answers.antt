use mathlib.Core.Path.{ap}
use lib.ListN.{length}
use Rattle.std.proofs.Common.{rules}
use Rattle.masks.specs.declared.flavor.Flavor.{Flavor}
use Rattle.masks.specs.Text.{write_flavor}
use Rattle.exports.proofs.ReportsLaws.{list_reported}
use Rattle.exports.proofs.flavors.thresholm_write_to.Goals as goal

pub returns : goal.returns
returns c =
    let given = c.args in
    list_reported (ap (λ (f : Flavor). write_flavor f (length given.out.now)) c.flavor_in.ensures) c.write_to.ensures (λ k p. search rules) c.report.ensures
