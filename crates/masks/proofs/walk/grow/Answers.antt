use mathlib.Core.Path.{◌≡◌, refl, sym, ap, ◌∙◌}
use mathlib.Core.List.{List, map}
use Prim.Native.Nat.{ℕ, suc, ◌+◌, ◌-◌, ◌%◌, ◌^◌, ◌<◌}
use native.Mathlib.Omega.{arith}
use lib.Ieee.{Float, nan, of_bits, of_fields}
use lib.ListN.{get_or, set}
use lib.Pow.{pow_pos}
use Rattle.masks.specs.Order.{order}
use Rattle.masks.specs.Outcome.{nought}
use Rattle.masks.specs.Shape.{coef}
use Rattle.masks.proofs.EndsLaws.{Filled, filled_none, filled_front, filled_back, filled_from, filled_all}
use Rattle.masks.proofs.OrderKept.{kept_before}
use Rattle.masks.proofs.ShapeLaws.{ordered_length}
use Rattle.masks.proofs.WalkLaws.{Walking, walking_first, walking_small, walking_done, not_last, front_kept, front_dropped, back_kept, back_dropped, back_more, back_same, walking_next, grown_kept, grown_dropped}
use Rattle.masks.proofs.walk.grow.Goals.{Joined-x-low-eq0, Joined-last-x-eq0, then-x-low-eq0, else-x-low-eq0, then-last-x-eq0, else-last-x-eq0}
use Rattle.masks.proofs.walk.grow.Goals as goal

-- ---- one turn, before the middle
module _ {d n last low k x i e : ℕ} (w : Walking d n last low k x i e) (h : k + k < last) where
  -- a number is left where one is taken
  taken : x % low ≡ 0 → i < 2 ^ d
  taken z = omega (arith, w.front, (front_kept w h z).room)

  -- and so from the back
  taken_back : (last - x) % low ≡ 0 → (kept_before d n (last - k) < 2 ^ d) × (e ≡ kept_before d n (last - k) + 1)
  taken_back z = let q = back_kept w h z in (q.room, back_more w h q)

  -- what holds once a number is written from the front
  module _ (a was out : List Float) (f : Filled nan (map (coef d a) (order n)) was out k (2 ^ n - k)) where
    abbrev FrontDone : List Float → ℕ → Type 0
    FrontDone out' i' = Filled nan (map (coef d a) (order n)) was out' (k + 1) (2 ^ n - k) × (i' ≡ kept_before d n (suc k))

    put_front : (y : Float) → y ≡ get_or (map (coef d a) (order n)) k nan → Filled nan (map (coef d a) (order n)) was (set out k y) (k + 1) (2 ^ n - k)
    put_front y q = filled_front _ was out k (2 ^ n - k) k y f (omega (arith, ordered_length (coef d a) n, w.whole)) q refl

    front_taken : x % low ≡ 0 → FrontDone (set out k (get_or a i nan)) (i + 1)
    front_taken z =
        let q = front_kept w h z in
        let l : k < 2 ^ n = omega (arith, w.whole) in (
          put_front _ (ap (λ (i : ℕ). get_or a i nan) w.front ∙ grown_kept d n k a l q),
          ap (λ (i : ℕ). i + 1) w.front ∙ sym q.more,
        )

    front_left : (x % low ≡ 0 → ⊥) → FrontDone (set out k nought) i
    front_left z =
        let q = front_dropped w h z in
        let l : k < 2 ^ n = omega (arith, w.whole) in
        (put_front _ (grown_dropped d n k a l q), w.front ∙ sym q.same)

  -- and what holds once one is written from the back
  module _ (a was out : List Float) (f : Filled nan (map (coef d a) (order n)) was out (k + 1) (2 ^ n - k)) where
    abbrev BackDone : List Float → ℕ → Type 0
    BackDone out' e' = Filled nan (map (coef d a) (order n)) was out' (k + 1) (2 ^ n - (k + 1)) × (e' ≡ kept_before d n (last - k))

    put_back : (y : Float) → y ≡ get_or (map (coef d a) (order n)) (last - k) nan → Filled nan (map (coef d a) (order n)) was (set out (last - k) y) (k + 1) (2 ^ n - (k + 1))
    put_back y q =
        filled_from (omega (arith, w.whole))
        (filled_back _ was out (k + 1) (2 ^ n - k) (last - k) y f (omega (arith, ordered_length (coef d a) n, w.whole)) q (omega (arith, w.whole)))

    back_taken : (last - x) % low ≡ 0 → BackDone (set out (last - k) (get_or a (e - 1) nan)) (e - 1)
    back_taken z =
        let q = back_kept w h z in
        let l : last - k < 2 ^ n = omega (arith, w.whole) in
        let s : e - 1 ≡ kept_before d n (last - k) = omega (arith, back_more w h q) in
        (put_back _ (ap (λ (i : ℕ). get_or a i nan) s ∙ grown_kept d n (last - k) a l q), s)

    back_left : ((last - x) % low ≡ 0 → ⊥) → BackDone (set out (last - k) nought) e
    back_left z =
        let q = back_dropped w h z in
        let l : last - k < 2 ^ n = omega (arith, w.whole) in
        (put_back _ (grown_dropped d n (last - k) a l q), back_same w h q)

pub loop-k-init : goal.loop-k-init
loop-k-init c =
    let f = coef c.args.value.dims c.args.value.numbers.now in
    let n = c.args.n in (
      walking_first c.args.value.dims n (c.blades-last.result - 1) c.bit-low.result c.blades-end.result c.requires.0 c.requires.1 (omega (arith, c.blades-last.ensures, pow_pos n)) c.bit-low.ensures c.blades-end.ensures,
      filled_none (map f (order n)) c.args.out.now (2 ^ n - 0) (omega (arith, ordered_length f n)) (omega (arith, ordered_length f n)),
    )

-- ---- from the front
pub offset_bounds-numbers-i : goal.offset_bounds-numbers-i
offset_bounds-numbers-i c =
    omega (arith, taken c.loop-k.invariant.0 (omega (arith, c.loop-k-test.true)) c.if-x-low-eq0.true, walking_small c.loop-k.invariant.0, c.loop-k.invariant.0.less, c.args.value.counted)

pub bounds-numbers-i : goal.bounds-numbers-i
bounds-numbers-i c = omega (arith, taken c.loop-k.invariant.0 (omega (arith, c.loop-k-test.true)) c.if-x-low-eq0.true, c.args.value.counted)

pub overflow_add-i : goal.overflow_add-i
overflow_add-i c = omega (arith, taken c.loop-k.invariant.0 (omega (arith, c.loop-k-test.true)) c.if-x-low-eq0.true)

-- whether one is taken or not
front_done : (c : Joined-x-low-eq0) → FrontDone c.loop-k.invariant.0 (omega (arith, c.loop-k-test.true)) c.args.value.numbers.now c.args.out.now c.loop-k.out c.loop-k.invariant.1 c.if-x-low-eq0.out c.if-x-low-eq0.i
unfolding of_bits of_fields
front_done c =
    let h : c.loop-k.k + c.loop-k.k < c.blades-last.result - 1 = omega (arith, c.loop-k-test.true) in
    elim c.if-x-low-eq0.branch [
      | then-x-low-eq0 v ↦ rw (v.out-is, v.i-is) (front_taken c.loop-k.invariant.0 h c.args.value.numbers.now c.args.out.now c.loop-k.out c.loop-k.invariant.1 v.if-x-low-eq0.true)
      | else-x-low-eq0 v ↦ rw (v.out-is, v.i-is) (front_left c.loop-k.invariant.0 h c.args.value.numbers.now c.args.out.now c.loop-k.out c.loop-k.invariant.1 v.if-x-low-eq0.false)
    ]

-- ---- from the back
pub overflow_sub-last-in-loop-k : goal.overflow_sub-last-in-loop-k
overflow_sub-last-in-loop-k c = omega (arith, not_last c.loop-k.invariant.0 (omega (arith, c.loop-k-test.true)), c.loop-k.invariant.0.whole)

pub overflow_sub-end : goal.overflow_sub-end
overflow_sub-end c = omega (arith, taken_back c.loop-k.invariant.0 (omega (arith, c.loop-k-test.true)) c.if-last-x-eq0.true)

pub offset_bounds-numbers-end : goal.offset_bounds-numbers-end
offset_bounds-numbers-end c = omega (arith, taken_back c.loop-k.invariant.0 (omega (arith, c.loop-k-test.true)) c.if-last-x-eq0.true, c.args.value.counted)

pub bounds-numbers-end : goal.bounds-numbers-end
bounds-numbers-end c = omega (arith, taken_back c.loop-k.invariant.0 (omega (arith, c.loop-k-test.true)) c.if-last-x-eq0.true, c.args.value.counted)

-- ---- one place on
pub next_backwards-x-requires : goal.next_backwards-x-requires
next_backwards-x-requires c = (c.requires.1, not_last c.loop-k.invariant.0 (omega (arith, c.loop-k-test.true)))

pub loop-k-preserved : goal.loop-k-preserved
unfolding of_bits of_fields
loop-k-preserved c =
    let w = c.loop-k.invariant.0 in
    let h : c.loop-k.k + c.loop-k.k < c.blades-last.result - 1 = omega (arith, c.loop-k-test.true) in
    let f = front_done (goal.at.loop-k-preserved c).Joined-x-low-eq0 in
    elim c.if-last-x-eq0.branch [
      | then-last-x-eq0 v ↦
          let b = back_taken w h c.args.value.numbers.now c.args.out.now c.if-x-low-eq0.out f.0 v.if-last-x-eq0.true in
          rw (v.out-is, v.end-is) (walking_next w h _ _ _ c.next_backwards-x.ensures f.1 b.1, b.0)
      | else-last-x-eq0 v ↦
          let b = back_left w h c.args.value.numbers.now c.args.out.now c.if-x-low-eq0.out f.0 v.if-last-x-eq0.false in
          rw (v.out-is, v.end-is) (walking_next w h _ _ _ c.next_backwards-x.ensures f.1 b.1, b.0)
    ]

pub returns : goal.returns
returns c =
    let xs = map (coef c.args.value.dims c.args.value.numbers.now) (order c.args.n) in
    filled_all xs c.args.out.now c.loop-k.out c.loop-k.k (2 ^ c.args.n - c.loop-k.k) (walking_done c.loop-k.invariant.0 (omega (arith, c.loop-k-test.false))) c.loop-k.invariant.1
