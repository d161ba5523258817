use mathlib.Core.Path.{◌≡◌, refl, sym, ap, ◌∙◌}
use mathlib.Core.List.{List, map}
use Prim.Native.Nat.{ℕ, suc, ◌+◌, ◌-◌, ◌%◌, ◌^◌, ◌<◌}
use native.Mathlib.Omega.{arith}
use lib.Ieee.{Float, nan}
use lib.ListN.{get_or, set}
use lib.Pow.{pow_pos}
use Rattle.masks.specs.Order.{order}
use Rattle.masks.specs.Shape.{coef}
use Rattle.masks.proofs.EndsLaws.{Filled, filled_none, filled_front, filled_back, filled_all}
use Rattle.masks.proofs.OrderKept.{kept_before}
use Rattle.masks.proofs.OrderLaws.{blades_le}
use Rattle.masks.proofs.ShapeLaws.{ordered_length}
use Rattle.masks.proofs.WalkLaws.{Walking, walking_first, walking_met, not_last, front_kept, front_dropped, back_kept, back_dropped, back_more, back_same, walking_next, shrunk_kept}
use Rattle.masks.proofs.walk.shrink.Goals.{Joined-x-low-eq0, then-x-low-eq0, else-x-low-eq0, then-last-x-eq0, else-last-x-eq0}
use Rattle.masks.proofs.walk.shrink.Goals as goal

-- ---- one turn, before the middle
module _ {d n last low k x i e : ℕ} (w : Walking d n last low k x i e) (h : k + k < last) where
  -- there is room where a number is kept
  kept_fits : x % low ≡ 0 → i < 2 ^ d
  kept_fits z = omega (arith, w.front, (front_kept w h z).room)

  -- the place of the number that is kept from the back
  kept_back : (last - x) % low ≡ 0 → (kept_before d n (last - k) < 2 ^ d) × (e ≡ kept_before d n (last - k) + 1)
  kept_back z = let q = back_kept w h z in (q.room, back_more w h q)

  -- what holds once the number at k is met
  module _ (a was out : List Float) (f : Filled nan (map (coef n a) (order d)) was out i e) where
    abbrev FrontDone : List Float → ℕ → Type 0
    FrontDone out' i' = Filled nan (map (coef n a) (order d)) was out' i' e × (i' ≡ kept_before d n (suc k))

    front_taken : x % low ≡ 0 → FrontDone (set out i (get_or a k nan)) (i + 1)
    front_taken z =
        let q = front_kept w h z in
        let l : k < 2 ^ n = omega (arith, w.whole) in
        let y : get_or a k nan ≡ get_or (map (coef n a) (order d)) i nan =
        shrunk_kept d n k a l q ∙ ap (λ (i : ℕ). get_or (map (coef n a) (order d)) i nan) (sym w.front) in (
          filled_front _ was out i e i _ f (omega (arith, ordered_length (coef n a) d, w.front, q.room)) y refl,
          ap (λ (i : ℕ). i + 1) w.front ∙ sym q.more,
        )

    front_left : (x % low ≡ 0 → ⊥) → FrontDone out i
    front_left z = let q = front_dropped w h z in (f, w.front ∙ sym q.same)

  -- and what holds once the one at its complement is met
  module _ (a was out : List Float) (i' : ℕ) (f : Filled nan (map (coef n a) (order d)) was out i' e) where
    abbrev BackDone : List Float → ℕ → Type 0
    BackDone out' e' = Filled nan (map (coef n a) (order d)) was out' i' e' × (e' ≡ kept_before d n (last - k))

    back_taken : (last - x) % low ≡ 0 → BackDone (set out (e - 1) (get_or a (last - k) nan)) (e - 1)
    back_taken z =
        let q = back_kept w h z in
        let m = back_more w h q in
        let l : last - k < 2 ^ n = omega (arith, w.whole) in
        let s : e - 1 ≡ kept_before d n (last - k) = omega arith in
        let y : get_or a (last - k) nan ≡ get_or (map (coef n a) (order d)) (e - 1) nan =
        shrunk_kept d n (last - k) a l q ∙ ap (λ (i : ℕ). get_or (map (coef n a) (order d)) i nan) (sym s) in
        (filled_back _ was out i' e (e - 1) _ f (omega (arith, ordered_length (coef n a) d, q.room)) y (omega arith), s)

    back_left : ((last - x) % low ≡ 0 → ⊥) → BackDone out e
    back_left z = let q = back_dropped w h z in (f, back_same w h q)

pub loop-k-init : goal.loop-k-init
loop-k-init c =
    let d = c.args.dims in
    let n = c.args.value.dims in
    let f = coef n c.args.value.numbers.now in (
      walking_first d n (c.blades-last.result - 1) c.bit-low.result c.blades-end.result c.requires.0 c.args.value.small (omega (arith, c.blades-last.ensures, pow_pos n)) c.bit-low.ensures c.blades-end.ensures,
      filled_none (map f (order d)) c.args.out.now c.blades-end.result (omega (arith, ordered_length f d)) (c.blades-end.ensures ∙ sym (ordered_length f d)),
    )

-- ---- from the front
pub offset_bounds-out-at : goal.offset_bounds-out-at
offset_bounds-out-at c = omega (arith, kept_fits c.loop-k.invariant.0 (omega (arith, c.loop-k-test.true)) c.if-x-low-eq0.true, blades_le c.args.dims (omega arith))

pub bounds-out-at : goal.bounds-out-at
bounds-out-at c = omega (arith, kept_fits c.loop-k.invariant.0 (omega (arith, c.loop-k-test.true)) c.if-x-low-eq0.true)

pub overflow_add-at : goal.overflow_add-at
overflow_add-at c = omega (arith, kept_fits c.loop-k.invariant.0 (omega (arith, c.loop-k-test.true)) c.if-x-low-eq0.true, blades_le c.args.dims (omega arith))

-- whether it is kept or not
front_done : (c : Joined-x-low-eq0) → FrontDone c.loop-k.invariant.0 (omega (arith, c.loop-k-test.true)) c.args.value.numbers.now c.args.out.now c.loop-k.out c.loop-k.invariant.1 c.if-x-low-eq0.out c.if-x-low-eq0.at
front_done c =
    let w = c.loop-k.invariant.0 in
    let h : c.loop-k.k + c.loop-k.k < c.blades-last.result - 1 = omega (arith, c.loop-k-test.true) in
    elim c.if-x-low-eq0.branch [
      | then-x-low-eq0 v ↦ rw (v.out-is, v.at-is) (front_taken w h c.args.value.numbers.now c.args.out.now c.loop-k.out c.loop-k.invariant.1 v.if-x-low-eq0.true)
      | else-x-low-eq0 v ↦ rw (v.out-is, v.at-is) (front_left w h c.args.value.numbers.now c.args.out.now c.loop-k.out c.loop-k.invariant.1 v.if-x-low-eq0.false)
    ]

-- ---- from the back
pub overflow_sub-last-in-loop-k : goal.overflow_sub-last-in-loop-k
overflow_sub-last-in-loop-k c = omega (arith, not_last c.loop-k.invariant.0 (omega (arith, c.loop-k-test.true)), c.loop-k.invariant.0.whole)

pub overflow_sub-end : goal.overflow_sub-end
overflow_sub-end c = omega (arith, kept_back c.loop-k.invariant.0 (omega (arith, c.loop-k-test.true)) c.if-last-x-eq0.true)

pub offset_bounds-out-end : goal.offset_bounds-out-end
offset_bounds-out-end c = omega (arith, kept_back c.loop-k.invariant.0 (omega (arith, c.loop-k-test.true)) c.if-last-x-eq0.true, blades_le c.args.dims (omega arith))

pub bounds-out-end : goal.bounds-out-end
bounds-out-end c = omega (arith, kept_back c.loop-k.invariant.0 (omega (arith, c.loop-k-test.true)) c.if-last-x-eq0.true)

-- ---- one place on
pub next_backwards-x-requires : goal.next_backwards-x-requires
next_backwards-x-requires c = (c.args.value.small, not_last c.loop-k.invariant.0 (omega (arith, c.loop-k-test.true)))

pub loop-k-preserved : goal.loop-k-preserved
loop-k-preserved c =
    let w = c.loop-k.invariant.0 in
    let h : c.loop-k.k + c.loop-k.k < c.blades-last.result - 1 = omega (arith, c.loop-k-test.true) in
    let f = front_done (goal.at.loop-k-preserved c).Joined-x-low-eq0 in
    elim c.if-last-x-eq0.branch [
      | then-last-x-eq0 v ↦
          let b = back_taken w h c.args.value.numbers.now c.args.out.now c.if-x-low-eq0.out c.if-x-low-eq0.at f.0 v.if-last-x-eq0.true in
          rw (v.out-is, v.end-is) (walking_next w h _ _ _ c.next_backwards-x.ensures f.1 b.1, b.0)
      | else-last-x-eq0 v ↦
          let b = back_left w h c.args.value.numbers.now c.args.out.now c.if-x-low-eq0.out c.if-x-low-eq0.at f.0 v.if-last-x-eq0.false in
          rw (v.out-is, v.end-is) (walking_next w h _ _ _ c.next_backwards-x.ensures f.1 b.1, b.0)
    ]

pub returns : goal.returns
returns c =
    let xs = map (coef c.args.value.dims c.args.value.numbers.now) (order c.args.dims) in
    filled_all xs c.args.out.now c.loop-k.out c.loop-k.at c.loop-k.end (walking_met c.loop-k.invariant.0 (omega (arith, c.loop-k-test.false))) c.loop-k.invariant.1
