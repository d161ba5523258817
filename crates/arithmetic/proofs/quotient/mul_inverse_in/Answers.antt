use native.Mathlib.Nat.{le_refl}
use native.Mathlib.Omega.{arith}
use Rattle.arithmetic.proofs.OrderPassed.{array_room, order_put, passed_part, right_meets}
use Rattle.arithmetic.proofs.quotient.mul_inverse_in.Goals as goal

pub unwrap-requires : goal.unwrap-requires
unwrap-requires g c = order_put c.put_order.ensures c.args.right.small (array_room _ (omega (arith, c.args.right.counted, c.requires.room.0)))

pub put_inverse-requires-clause-in_order : goal.put_inverse-requires-clause-in_order
put_inverse-requires-clause-in_order g c =
    let v = c.args.right in
    passed_part c.put_order.ensures v.small (array_room _ (omega (arith, v.counted, c.requires.room.0))) _ _ (le_refl _) v.counted

pub mul_by-requires : goal.mul_by-requires
mul_by-requires g c =
    let v = c.args.right in
    passed_part c.put_order.ensures v.small (array_room _ (omega (arith, v.counted, c.requires.room.0))) _ _ (right_meets c.args.left c.args.right.shape) v.counted
