use mathlib.Core.Path.{◌≡◌, refl, ◌∙◌}
use Rattle.masks.specs.declared.flavor.Flavor.{Flavor}
use Rattle.masks.specs.declared.flavor.Flavor.TheVariants.{Vanilla, Projective, Cl}
use Rattle.masks.specs.Flavor.{added_dims}
use Rattle.masks.specs.Shape.{promotes}
use Rattle.masks.proofs.shape.promotion.Goals as goal

-- Vanilla is promoted by the dimensions that a flavor adds
from_vanilla : (g : Flavor) → added_dims g ≡ promotes Vanilla g
unfolding added_dims promotes
from_vanilla Vanilla = refl
from_vanilla Projective = refl
from_vanilla (Cl p n z) = refl

pub returns-in-Vanilla : goal.returns-in-Vanilla
returns-in-Vanilla c = c.added_dims.ensures ∙ rw c.in-Vanilla.is (from_vanilla c.args.g)

pub returns-in-Projective : goal.returns-in-Projective
unfolding promotes
returns-in-Projective c = rw c.in-Projective.is

pub returns-in-Cl : goal.returns-in-Cl
unfolding promotes
returns-in-Cl c = rw c.in-Cl.is
