use Rattle.arithmetic.proofs.MagnitudeLaws.{squares_vanilla, squares_projective, squares_cl}
use Rattle.arithmetic.proofs.magnitude.squares_of.Goals as goal

pub returns-in-Vanilla : goal.returns-in-Vanilla
returns-in-Vanilla c i h = rw c.in-Vanilla.is (squares_vanilla i)

pub returns-in-Projective : goal.returns-in-Projective
returns-in-Projective c i h = rw c.in-Projective.is (squares_projective i)

pub returns-in-Cl : goal.returns-in-Cl
returns-in-Cl c i h =
    let f = c.in-Cl in
    rw (f.is, c.low_bits.ensures, c.low_bits-in-Cl.ensures) (squares_cl f.field-0 f.n f.z i h)
