use Rattle.masks.specs.Flavor.{added_dims}
use Rattle.masks.proofs.flavor.Flavor.added_dims.Goals as goal

pub returns-in-Vanilla : goal.returns-in-Vanilla
unfolding added_dims
returns-in-Vanilla c = rw c.in-Vanilla.is

pub returns-in-Projective : goal.returns-in-Projective
unfolding added_dims
returns-in-Projective c = rw c.in-Projective.is

pub returns-in-Cl : goal.returns-in-Cl
unfolding added_dims
returns-in-Cl c = rw c.in-Cl.is
