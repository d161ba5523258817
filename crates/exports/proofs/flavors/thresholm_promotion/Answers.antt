use mathlib.Core.Path.{ap₂, ◌∙◌}
use Rattle.masks.specs.declared.flavor.Flavor.{Flavor}
use Rattle.masks.specs.Shape.{promotes}
use Rattle.exports.proofs.flavors.thresholm_promotion.Goals as goal

pub returns : goal.returns
returns c = c.promotion.ensures ∙ (ap₂ (λ (f : Flavor) (g : Flavor). promotes f g) c.flavor_in.ensures c.flavor_in-2.ensures)
