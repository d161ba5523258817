use mathlib.Core.Path.{refl}
use Rattle.masks.proofs.shape_bytes.shape_bytes.Goals as goal

pub returns-in-Vanilla : goal.returns-in-Vanilla
returns-in-Vanilla c = rw c.in-Vanilla.is refl

pub returns-in-Projective : goal.returns-in-Projective
returns-in-Projective c = rw c.in-Projective.is refl

pub returns-in-Cl : goal.returns-in-Cl
returns-in-Cl c = rw c.in-Cl.is refl
