use native.Mathlib.Omega.{arith}
use Rattle.masks.proofs.OrderLaws.{blades_le}
use Rattle.arithmetic.proofs.quotient.mul_inverse.Goals as goal

pub mul_inverse_in-requires-2-clause-room : goal.mul_inverse_in-requires-2-clause-room
mul_inverse_in-requires-2-clause-room c = (omega (arith, c.args.right.counted, blades_le _ c.args.right.small), omega arith)
