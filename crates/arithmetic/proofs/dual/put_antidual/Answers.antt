use native.Mathlib.Omega.{arith}
use Rattle.masks.proofs.OrderLaws.{blades_le}
use Rattle.arithmetic.proofs.dual.put_antidual.Goals as goal

pub put_antidual_in-requires-else-value-le64-clause-room : goal.put_antidual_in-requires-else-value-le64-clause-room
put_antidual_in-requires-else-value-le64-clause-room c = let v = c.args.value.now in (omega (arith, v.counted, blades_le _ v.small), c.requires.room, omega arith)
