use native.Mathlib.Omega.{arith}
use Rattle.arithmetic.proofs.OrderPassed.{array_room, order_put, passed_put}
use Rattle.arithmetic.proofs.power.put_power_in.Goals as goal

pub unwrap-requires : goal.unwrap-requires
unwrap-requires g c = order_put c.put_order.ensures c.args.value.small (array_room _ (omega (arith, c.args.value.counted, c.requires.room.1)))

pub put_power_by-requires-clause-in_order : goal.put_power_by-requires-clause-in_order
put_power_by-requires-clause-in_order g c = passed_put c.put_order.ensures c.args.value.small (array_room _ (omega (arith, c.args.value.counted, c.requires.room.1)))
