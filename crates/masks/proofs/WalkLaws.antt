-- A walk through the order of n dimensions from both ends, which counts the masks that d of them have. Assumes nothing.
use mathlib.Core.Path.{◌≡◌, sym, ap, ◌∙◌}
use mathlib.Core.Logic.{⊎_elim}
use mathlib.Core.List.{List, map}
use Prim.Native.Nat.{ℕ, zero, suc, ◌+◌, ◌-◌, ◌%◌, ◌^◌, ◌≤◌, ◌<◌}
use native.Mathlib.Nat.{pow-suc, sub-zero, not-suc-le-zero}
use native.Mathlib.Numerals.{add-one}
use native.Mathlib.Omega.{arith}
use lib.Ieee.{Float, nan}
use lib.ListN.{get_or}
use lib.Pow.{pow_pos}
use Rattle.masks.specs.Order.{order, place}
use Rattle.masks.specs.Outcome.{nought}
use Rattle.masks.specs.Shape.{coef}
use Rattle.masks.specs.inner.Walk.{backwards, next_backwards}
use Rattle.masks.proofs.ListLaws.{split, get_d_map}
use Rattle.masks.proofs.OrderLaws.{length_order, order_first, order_at, blades_le}
use Rattle.masks.proofs.OrderMirror.{order_mirror, below_last}
use Rattle.masks.proofs.OrderKept.{kept_before, kept_first, kept_last, Kept, kept_here, Dropped, dropped_here}
use Rattle.masks.proofs.OrderBackwards.{backwards_zero, backwards_none, backwards_mirror, kept_ends, ends_kept, next_backwards_lem}
use Rattle.masks.proofs.ShapeLaws.{coef_inside, coef_outside}

-- ---- the walk

-- At place k of the order of n dimensions, not past the middle: x is the mask there, backwards; of the masks of d dimensions i stand before it, and e before
-- the place behind its complement. `last` is the last place, and the masks of d dimensions have no bit below `low`.
pub record Walking (d n last low k x i e : ℕ) : Type 0 where
  pub less : d < n
  pub few : n ≤ 9
  pub whole : last + 1 ≡ 2 ^ n
  pub step : low ≡ 2 ^ (n - d)
  pub begun : k + k ≤ 2 ^ n
  pub mask : x ≡ backwards n (get_or (order n) k 0)
  pub front : i ≡ kept_before d n k
  pub back : e ≡ kept_before d n (2 ^ n - k)

pub walking_first : (d n last low e : ℕ) → d < n → n ≤ 9 → last + 1 ≡ 2 ^ n → low ≡ 2 ^ (n - d) → e ≡ 2 ^ d → Walking d n last low 0 0 0 e
walking_first d n last low e l f w s h = record {
  less = l;
  few = f;
  whole = w;
  step = s;
  begun = omega arith;
  mask = sym (ap (backwards n) (order_first n) ∙ backwards_zero n);
  front = sym (kept_first d n);
  back = h ∙ sym (ap (kept_before d n) (sub-zero (2 ^ n)) ∙ kept_last d n (omega arith));
}

module _ {d n last low k x i e : ℕ} (w : Walking d n last low k x i e) where
  pub walking_small : 2 ^ n ≤ 512
  walking_small = blades_le n w.few

  pub low_pos : 0 < low
  low_pos = omega (arith, w.step, pow_pos (n - d))

  -- an even number of masks is half met at the middle
  pub walking_done : last ≤ k + k → 2 ^ n - k ≤ k
  walking_done h = go n w.less w.whole
    where
      go : (n : ℕ) → d < n → last + 1 ≡ 2 ^ n → 2 ^ n - k ≤ k
      go zero l q = absurd (not-suc-le-zero l)
      go (suc n) l q = omega (arith, pow-suc 2 n)

  -- and as many are kept before it from either end
  pub walking_met : last ≤ k + k → e ≤ i
  walking_met h =
      let q : 2 ^ n - k ≡ k = omega (arith, walking_done h, w.begun) in
      omega (arith, w.front, w.back, ap (kept_before d n) q)

  kept_by : (p y : ℕ) → p ≤ last → backwards n (get_or (order n) p 0) ≡ y → y % low ≡ 0 → Kept d n p
  kept_by p y l q z =
      let o = order_at n p (omega (arith, w.whole)) in
      kept_here d n p (omega (arith, w.less)) (omega (arith, w.whole))
      (ends_kept d (n - d) n (get_or (order n) p 0) (omega (arith, w.less)) o.low (rw (← w.step) (ap (λ (y : ℕ). y % low) q ∙ z)))

  dropped_by : (p y : ℕ) → p ≤ last → backwards n (get_or (order n) p 0) ≡ y → (y % low ≡ 0 → ⊥) → Dropped d n p
  dropped_by p y l q z =
      dropped_here d n p (omega (arith, w.whole))
      (⊎_elim
      (λ (h : get_or (order n) p 0 < 2 ^ d).
      absurd (z (ap (λ (y : ℕ). y % low) (sym q) ∙ rw w.step (kept_ends d (n - d) n (get_or (order n) p 0) (omega (arith, w.less)) h))))
      (λ (h : 2 ^ d ≤ get_or (order n) p 0). h) (split (get_or (order n) p 0) (2 ^ d)))

  -- before the middle
  module _ (half : k + k < last) where
    -- the place of the complement
    abbrev j : ℕ
    j = last - k

    opposite : backwards n (get_or (order n) j 0) ≡ last - x
    opposite =
        omega
        (arith, w.mask, w.whole, backwards_mirror n (get_or (order n) k 0) (get_or (order n) j 0) (order_mirror n k j (omega (arith, w.whole))))

    pub not_last : x + 1 < 2 ^ n
    not_last =
        let m : ℕ = get_or (order n) k 0 in
        let c : ℕ = 2 ^ n - 1 - m in
        let l = below_last n k (omega (arith, w.whole)) in
        ⊎_elim (λ (q : 0 < backwards n c). omega (arith, w.mask, backwards_mirror n m c (omega arith)))
        (λ (q : backwards n c ≤ 0). absurd (omega (arith, backwards_none n c (omega arith) (omega arith))))
        (split 0 (backwards n c))

    pub front_kept : x % low ≡ 0 → Kept d n k
    front_kept z = kept_by k x (omega arith) (sym w.mask) z

    pub front_dropped : (x % low ≡ 0 → ⊥) → Dropped d n k
    front_dropped z = dropped_by k x (omega arith) (sym w.mask) z

    pub back_kept : (last - x) % low ≡ 0 → Kept d n j
    back_kept z = kept_by j (last - x) (omega arith) opposite z

    pub back_dropped : ((last - x) % low ≡ 0 → ⊥) → Dropped d n j
    back_dropped z = dropped_by j (last - x) (omega arith) opposite z

    behind : 2 ^ n - k ≡ suc j
    behind = omega (arith, w.whole)

    -- with the complement kept, one less is before it; else as many
    pub back_more : Kept d n j → e ≡ kept_before d n j + 1
    back_more t = w.back ∙ ap (kept_before d n) behind ∙ t.more

    pub back_same : Dropped d n j → e ≡ kept_before d n j
    back_same t = w.back ∙ ap (kept_before d n) behind ∙ t.same

    -- one place on
    pub walking_next : (x' i' e' : ℕ) → x' ≡ next_backwards n x → i' ≡ kept_before d n (suc k) → e' ≡ kept_before d n j → Walking d n last low (k + 1) x' i' e'
    walking_next x' i' e' g f b =
        let s : 2 ^ n - (k + 1) ≡ j = omega (arith, w.whole) in
        let q = w.whole in
        record {
          less = w.less;
          few = w.few;
          whole = w.whole;
          step = w.step;
          begun = ⊎_elim (λ (r : k + k + 1 < last). omega arith) (λ (r : last ≤ k + k + 1). omega arith) (split (k + k + 1) last);
          mask = g ∙ ap (next_backwards n) w.mask ∙ next_backwards_lem n k w.few (omega arith) ∙ rw (add-one k);
          front = f ∙ rw (add-one k);
          back = b ∙ ap (kept_before d n) (sym s);
        }

-- ---- the numbers that are met

-- where a mask is kept, its place in the smaller order is known
kept_place : (d n p : ℕ) → Kept d n p → place d (get_or (order n) p 0) ≡ kept_before d n p
kept_place d n p t = ap (place d) (sym t.there) ∙ (order_at d (kept_before d n p) t.room).back

module _ (d n p : ℕ) (a : List Float) (h : p < 2 ^ n) where
  grown_at : get_or (map (coef d a) (order n)) p nan ≡ coef d a (get_or (order n) p 0)
  grown_at = get_d_map (coef d a) (order n) p 0 nan (omega (arith, length_order n))

  pub grown_kept : Kept d n p → get_or a (kept_before d n p) nan ≡ get_or (map (coef d a) (order n)) p nan
  grown_kept t =
      sym (grown_at ∙ coef_inside d (get_or (order n) p 0) a t.low ∙ ap (λ (q : ℕ). get_or a q nan) (kept_place d n p t))

  pub grown_dropped : Dropped d n p → nought ≡ get_or (map (coef d a) (order n)) p nan
  grown_dropped t = sym (grown_at ∙ coef_outside d (get_or (order n) p 0) a t.high)

  pub shrunk_kept : Kept d n p → get_or a p nan ≡ get_or (map (coef n a) (order d)) (kept_before d n p) nan
  shrunk_kept t =
      let o = order_at n p h in
      sym
      (get_d_map (coef n a) (order d) (kept_before d n p) 0 nan (omega (arith, length_order d, t.room))
      ∙ ap (coef n a) t.there ∙ coef_inside n (get_or (order n) p 0) a o.low ∙ ap (λ (q : ℕ). get_or a q nan) o.back)
