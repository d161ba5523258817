use native.Mathlib.Omega.{arith}
use Rattle.masks.proofs.OrderLaws.{blades_le}
use Rattle.arithmetic.proofs.inverse.test_square.Goals as goal

pub test_square_in-requires-2-clause-room : goal.test_square_in-requires-2-clause-room
test_square_in-requires-2-clause-room c = let v = c.args.value in (omega (arith, v.counted, blades_le _ v.small), omega arith)
