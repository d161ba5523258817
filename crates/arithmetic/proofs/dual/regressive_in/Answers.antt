use mathlib.Core.Path.{◌≡◌, sym, ap, ◌∙◌, subst}
use Prim.Native.Nat.{ℕ, ◌^◌, ◌≤◌}
use native.Mathlib.Omega.{arith}
use lib.ListN.{length}
use lib.Seq.{length-take-le}
use Rattle.masks.proofs.OrderLaws.{none_counted}
use Rattle.masks.specs.Order.{blades_or_none}
use Rattle.masks.specs.Shape.{meeting_dims}
use Rattle.arithmetic.specs.inner.Given.{InOrder}
use Rattle.arithmetic.proofs.DualRegressive.{Meets, meeting_shape, never_refused, gives_regressive}
use Rattle.arithmetic.proofs.OrderPassed.{array_room}
use Rattle.arithmetic.proofs.dual.regressive_in.Goals.{Start, In_ok-p}
use Rattle.arithmetic.proofs.dual.regressive_in.Goals as goal

-- What the call rests on.
met : {g : _} (c : Start g) → let a = c.args in Meets a.left.now.shape a.right.now.shape a.left.now.numbers.now a.right.now.numbers.now (length a.out.now)
met c =
    let a = c.args in
    let m = c.requires.meeting in
    record { small = a.left.now.small; small_right = a.right.now.small; result = m.0; counted = a.left.now.counted; counted_right = a.right.now.counted; roomy = m.1 }

-- The product's dimensions are those that the values meet in.
same : {g : _} (c : In_ok-p g) → let a = c.args in Meets a.left.now.shape a.right.now.shape a.left.now.numbers.now a.right.now.numbers.now (length a.out.now) → c.in_ok-p.p.shape.dims ≡ meeting_dims a.left.now.shape a.right.now.shape
same c m =
    let a = c.args in
    meeting_shape a.left.now.shape a.right.now.shape a.left.now.numbers.now a.right.now.numbers.now (length a.out.now) m a.joined.now c.requires.in_order.2 _ _ _ _ _ _ (array_room _ c.requires.room.2) c.put_dual.ensures c.put_dual-2.ensures c.in_ok-p.p c.in_ok-p.ensures

-- The product's dimensions d are the n that the values meet in, so the product has m numbers, and the third array room for them.
module _ (d n m : ℕ) (e : d ≡ n) (h : n ≤ 9) (k : m ≡ blades_or_none d) where
  small : d ≤ 9
  small = omega (arith, e)

  counted : m ≡ 2 ^ d
  counted = none_counted k small

  within : (room : ℕ) → 2 ^ n ≤ room → m ≤ room
  within room l = omega (arith, counted, ap (λ (i : ℕ). 2 ^ i) e)

pub returns-in_err-p : goal.returns-in_err-p
returns-in_err-p g c =
    let a = c.args in
    let s = a.left.now.shape in
    let t = a.right.now.shape in
    let x = a.left.now.numbers.now in
    let y = a.right.now.numbers.now in
    absurd (never_refused s t x y (length a.out.now) (met (goal.at.returns-in_err-p g c).Start) a.joined.now c.requires.in_order.2 _ _ _ _ _ _ (array_room _ c.requires.room.2) c.put_dual.ensures c.put_dual-2.ensures c.in_err-p.field-0.0 c.in_err-p.ensures)

pub shared_whole_as_front-numbers : goal.shared_whole_as_front-numbers
shared_whole_as_front-numbers g c =
    let at = goal.at.shared_whole_as_front-numbers g c in
    let d = same at.In_ok-p (met at.Start) in
    (within _ _ _ d c.requires.meeting.0 c.blades_or_none.ensures _ c.requires.room.2, omega (arith, c.requires.room.4))

pub put_antidual-requires-clause-in_order : goal.put_antidual-requires-clause-in_order
put_antidual-requires-clause-in_order g c =
    let at = goal.at.put_antidual-requires-clause-in_order g c in
    subst (InOrder c.args.joined.now) (sym (same at.In_ok-p (met at.Start))) c.requires.in_order.2

pub invariant_of-put_antidual : goal.invariant_of-put_antidual
invariant_of-put_antidual g c =
    let at = goal.at.invariant_of-put_antidual g c in
    let d = same at.In_ok-p (met at.Start) in
    let k = counted _ _ _ d c.requires.meeting.0 c.blades_or_none.ensures in
    record {
      small = small _ _ _ d c.requires.meeting.0 c.blades_or_none.ensures;
      counted = length-take-le _ _ (rw c.multiply.auto.out (array_room _ (within _ _ _ d c.requires.meeting.0 c.blades_or_none.ensures _ c.requires.room.2))) ∙ k;
    }

pub put_antidual-requires-clause-room : goal.put_antidual-requires-clause-room
put_antidual-requires-clause-room g c =
    let at = goal.at.put_antidual-requires-clause-room g c in
    let d = same at.In_ok-p (met at.Start) in
    omega (arith, ap (λ (i : ℕ). 2 ^ i) d, c.requires.meeting.1)

pub returns : goal.returns
returns g c =
    let a = c.args in
    let at = goal.at.returns g c in
    let s = a.left.now.shape in
    let t = a.right.now.shape in
    let x = a.left.now.numbers.now in
    let y = a.right.now.numbers.now in
    let d = same at.In_ok-p (met at.Start) in
    gives_regressive s t x y (length a.out.now) (met at.Start) a.joined.now c.requires.in_order.2 _ _ _ _ _ _ (array_room _ c.requires.room.2) c.put_dual.ensures c.put_dual-2.ensures c.in_ok-p.p c.in_ok-p.ensures c.blades_or_none.result a.out.now _ (counted _ _ _ d c.requires.meeting.0 c.blades_or_none.ensures) c.put_antidual.ensures
