use mathlib.Core.Path.{ap, ◌∙◌}
use Rattle.masks.specs.declared.flavor.Flavor.{Flavor}
use Rattle.masks.specs.Flavor.{added_dims}
use Rattle.exports.proofs.flavors.thresholm_added_dims.Goals as goal

pub returns : goal.returns
returns c = c.added_dims.ensures ∙ (ap (λ (f : Flavor). added_dims f) c.flavor_in.ensures)
