use native.Mathlib.Omega.{arith}
use mir.Syntax.{w32}
use mir.ValLaws.{to_z-of_z}
use Rattle.masks.proofs.OrderLaws.{blades_le}
use Rattle.arithmetic.proofs.OrderPassed.{passed_none}
use Rattle.arithmetic.proofs.power.put_power.Goals as goal

pub put_power_by-requires-clause-in_order : goal.put_power_by-requires-clause-in_order
put_power_by-requires-clause-in_order c = passed_none _

pub put_power_in-requires-else-value-le64-clause-room : goal.put_power_in-requires-else-value-le64-clause-room
put_power_in-requires-else-value-le64-clause-room c =
    (rw (to_z-of_z w32 c.args.power c.ranges.power) c.requires.room, omega (arith, c.args.value.counted, blades_le _ c.args.value.small), omega arith)
