use mathlib.Core.Path.{ap₂}
use lib.ListN.{length}
use Rattle.std.proofs.Common.{rules}
use Rattle.masks.specs.declared.shape.Shape.{Shape}
use Rattle.masks.specs.declared.flavor.Flavor.{Flavor}
use Rattle.masks.specs.Shape.{set_flavor}
use Rattle.exports.proofs.ReportsLaws.{value_reported}
use Rattle.exports.proofs.shapes.thresholm_set_flavor.Goals as goal

pub returns : goal.returns
returns c =
    let given = c.args in
    value_reported (ap₂ (λ (s : Shape) (g : Flavor). set_flavor s g given.a.now (length given.out.now)) c.shape_from.ensures c.flavor_in.ensures) c.set_flavor-answer.ensures (λ s p. search rules) c.report.ensures
