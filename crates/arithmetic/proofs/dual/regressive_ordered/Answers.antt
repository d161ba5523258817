use mathlib.Core.Path.{◌≡◌, subst}
use Prim.Native.Nat.{ℕ, ◌^◌, ◌≤◌}
use lib.ListN.{length, replicate}
use Rattle.arithmetic.specs.inner.Given.{InOrder}
use Rattle.arithmetic.proofs.OrderPassed.{array_room, order_put, passed_put}
use Rattle.arithmetic.proofs.dual.regressive_ordered.Goals as goal

-- An array of N masks has room for the order of a value of no more numbers.
room : (n m d : ℕ) → m ≤ n → m ≡ 2 ^ d → 2 ^ d ≤ length {A = ℕ} (replicate n 0)
room n m d l e = array_room {A = ℕ} 0 (subst (λ (k : ℕ). k ≤ n) e l)

pub unwrap-requires : goal.unwrap-requires
unwrap-requires g c = let v = c.args.left.now in order_put c.put_order.ensures v.small (room _ _ _ c.requires.room.0 v.counted)

pub regressive_joined-requires-clause-in_order : goal.regressive_joined-requires-clause-in_order
regressive_joined-requires-clause-in_order g c =
    let v = c.args.left.now in
    let o = passed_put c.put_order.ensures v.small (room _ _ _ c.requires.room.0 v.counted) in
    (o, subst (InOrder c.put_order.new.out) c.if-left-right.true o)

pub unwrap-requires-2 : goal.unwrap-requires-2
unwrap-requires-2 g c = let v = c.args.right.now in order_put c.put_order-2.ensures v.small (room _ _ _ c.requires.room.1 v.counted)

pub regressive_joined-requires-2-clause-in_order : goal.regressive_joined-requires-2-clause-in_order
regressive_joined-requires-2-clause-in_order g c =
    let v = c.args.left.now in
    let w = c.args.right.now in
    (passed_put c.put_order.ensures v.small (room _ _ _ c.requires.room.0 v.counted), passed_put c.put_order-2.ensures w.small (room _ _ _ c.requires.room.1 w.counted))
