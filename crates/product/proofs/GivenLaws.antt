-- The product of values by given masks: where these are the order's masks it is the product of specs/Pairwise; which masks are used. Assumes nothing.
use mathlib.Core.Path.{◌≡◌, refl, sym, ap, ◌∙◌}
use mathlib.Core.Bool.{Bool, true, false, cond}
use mathlib.Core.List.{List}
use mathlib.Core.Logic.{◌≢◌}
use Prim.Native.Nat.{ℕ, zero, suc, ◌%◌, ◌^◌, ◌<◌, ◌≤◌}
use native.Mathlib.Nat.{le_refl, le_of_lt, mod-eq_of_lt}
use native.Mathlib.Omega.{arith}
use lib.Arith.{lt_of_le-ne}
use lib.Bits.{bit_xor}
use lib.Dec.{eqb}
use lib.Ieee.{Float, nan, Format, add, mul, of_int}
use lib.IntN.{ℤ}
use lib.ListN.{length, get_or, drop, get_or-append}
use borrow.Author.Tests.{eqb-true, eqb-false, le-ltb, lt-ltb}
use Rattle.clifford.specs.Pairs.{nonzero}
use Rattle.rounding.specs.Operation.{signed_one}
use Rattle.rounding.specs.Snap.{snap}
use Rattle.rounding.specs.Terms.{Term, run}
use Rattle.masks.specs.declared.flavor.Flavor.{Flavor}
use Rattle.masks.specs.Order.{order, place}
use Rattle.masks.specs.Outcome.{laid}
use Rattle.masks.proofs.ListLaws.{laid_length}
use Rattle.masks.proofs.OrderLaws.{length_order, order_at, order_place, place_lt}
use Rattle.product.specs.declared.mode.Mode.{Mode}
use Rattle.product.specs.Mode.{pair_metric}
use Rattle.product.specs.Pairwise.{mask_at, product}
use Rattle.product.specs.Given.{given_mask, at_mask, term_by, sum_by, product_by}
use Rattle.product.specs.inner.Pairwise.{negative, partner, term_of, gathered, sum_at}
use Rattle.product.specs.inner.Sums.{low_mask}
use Rattle.product.proofs.ListLaws.{places_length, places_ext}
use Rattle.product.proofs.MetricSigns.{metric_sign}
use Rattle.product.proofs.PairwiseLaws.{product_gathered}
use Rattle.product.proofs.PairwiseNegated.{run_same}
use Rattle.product.proofs.PairwisePartners.{partner_low}

-- ---- a sum by masks is a run of terms

-- The pair of b's place j that goes to mask m.
abbrev pub pair_by : (ℕ → ℕ) → ℕ → Mode → Flavor → List Float → List Float → ℕ → ℕ → Term
pair_by μ d mode flavor a b m j = term_of (pair_metric mode flavor d (bit_xor (μ j) m) (μ j)) (at_mask μ d a (2 ^ d) (bit_xor (μ j) m)) (get_or b j nan)

module _ (μ : ℕ → ℕ) (d : ℕ) (mode : Mode) (flavor : Flavor) (f : Format) (a b : List Float) where
  pub sum_run : (n m : ℕ) → sum_by μ d mode flavor f a b n m ≡ run f (pair_by μ d mode flavor a b m) n
  unfolding sum_by term_by
  sum_run zero m = refl
  sum_run (suc j) m = rw (sum_run j m) (go (nonzero metric) refl)
    where
      metric : ℤ
      metric = pair_metric mode flavor d (bit_xor (μ j) m) (μ j)

      x : Float
      x = at_mask μ d a (2 ^ d) (bit_xor (μ j) m)

      s : Float
      s = run f (pair_by μ d mode flavor a b m) j

      go : (t : Bool) → nonzero metric ≡ t
          → cond t (add f s (mul f (mul f (of_int f metric) x) (get_or b j nan))) s ≡ cond t (add f s (mul f (mul f (signed_one (negative metric)) x) (get_or b j nan))) s
      go true e = rw (metric_sign mode flavor d (bit_xor (μ j) m) (μ j) f e)
      go false e = refl

  pub by_length : length (product_by μ d mode flavor f a b) ≡ 2 ^ d
  unfolding product_by
  by_length = places_length (2 ^ d) _

-- ---- masks that are the same below 2^d

module _ (μ ν : ℕ → ℕ) (d : ℕ) (same : (i : ℕ) → i < 2 ^ d → μ i ≡ ν i) where
  at_equal : (a : List Float) (n m : ℕ) → n ≤ 2 ^ d → at_mask μ d a n m ≡ at_mask ν d a n m
  unfolding at_mask
  at_equal a zero m h = refl
  at_equal a (suc i) m h = rw (same i h, at_equal a i m (le_of_lt h))

  module _ (mode : Mode) (flavor : Flavor) (f : Format) (a b : List Float) where
    sum_equal : (n m : ℕ) → n ≤ 2 ^ d → sum_by μ d mode flavor f a b n m ≡ sum_by ν d mode flavor f a b n m
    unfolding sum_by term_by
    sum_equal zero m h = refl
    sum_equal (suc j) m h = rw (same j h, sum_equal j m (le_of_lt h), at_equal a (2 ^ d) (bit_xor (ν j) m) (le_refl (2 ^ d)))

    -- The product depends on the masks of the 2^d places alone.
    pub mask_equal : product_by μ d mode flavor f a b ≡ product_by ν d mode flavor f a b
    unfolding product_by
    mask_equal =
        places_ext (2 ^ d) _ _ (λ k h. ap (λ (x : Float). snap f x) (sum_equal (2 ^ d) (μ k) (le_refl (2 ^ d)) ∙ ap (sum_by ν d mode flavor f a b (2 ^ d)) (same k h)))

-- ---- the masks of the order

-- One place has the mask m.
at_place : (d : ℕ) (a : List Float) (n m : ℕ) → m < 2 ^ d → n ≤ 2 ^ d → place d m < n → at_mask (mask_at d) d a n m ≡ get_or a (place d m) nan
unfolding at_mask
at_place d a zero m low h l = absurd (omega arith)
at_place d a (suc i) m low h l = go (eqb (mask_at d i) m) refl (at_place d a i m low (le_of_lt h))
  where
    go : (t : Bool) → eqb (mask_at d i) m ≡ t → (place d m < i → at_mask (mask_at d) d a i m ≡ get_or a (place d m) nan)
        → cond t (get_or a i nan) (at_mask (mask_at d) d a i m) ≡ get_or a (place d m) nan
    go true e ih = ap (λ (k : ℕ). get_or a k nan) (sym (order_at d i h).back ∙ ap (place d) (eqb-true _ _ e))
    go false e ih =
        let other : place d m ≢ i = λ q. eqb-false _ _ e (ap (mask_at d) (sym q) ∙ order_place d m low) in
        ih (lt_of_le-ne (omega arith) other)

module _ (d : ℕ) (mode : Mode) (flavor : Flavor) (f : Format) (a b : List Float) where
  sum_at_lem : (k : ℕ) → k < 2 ^ d → sum_by (mask_at d) d mode flavor f a b (2 ^ d) (mask_at d k) ≡ sum_at mode flavor d a b f k (2 ^ d)
  unfolding sum_at gathered
  sum_at_lem k h =
      sum_run (mask_at d) d mode flavor f a b (2 ^ d) (mask_at d k)
      ∙ run_same f (gathered mode flavor d a b k) (pair_by (mask_at d) d mode flavor a b (mask_at d k)) (2 ^ d) (λ j l. refl)
      (λ j l e. let m = partner_low d j k l h in rw (at_place d a (2 ^ d) (partner d j k) m (le_refl (2 ^ d)) (place_lt d (partner d j k) m)))

  by_order : product_by (mask_at d) d mode flavor f a b ≡ product mode flavor d f a b
  unfolding product_by
  by_order = places_ext (2 ^ d) _ _ (λ k h. ap (λ (x : Float). snap f x) (sum_at_lem k h)) ∙ sym (product_gathered mode flavor d f a b)

-- Values whose places have the masks of the order have the product.
pub by_masks : (μ : ℕ → ℕ) (d : ℕ) → ((i : ℕ) → i < 2 ^ d → μ i ≡ mask_at d i) → (mode : Mode) (flavor : Flavor) (f : Format) (a b : List Float)
    → product_by μ d mode flavor f a b ≡ product mode flavor d f a b
by_masks μ d same mode flavor f a b = mask_equal μ (mask_at d) d same mode flavor f a b ∙ by_order d mode flavor f a b

-- ---- the masks that are given

module _ (given : List ℕ) (d i : ℕ) where
  -- Where enough are given these are the masks.
  pub given_enough : 2 ^ d ≤ length given → low_mask given d i ≡ given_mask given d i
  unfolding given_mask
  given_enough h = rw (le-ltb (length given) (2 ^ d) h)

  -- Where too few are given the masks are the order's.
  pub given_few : length given < 2 ^ d → mask_at d i ≡ given_mask given d i
  unfolding given_mask
  given_few h = rw (lt-ltb (length given) (2 ^ d) h)

-- What `put_order` writes has the masks of the order.
module _ (d : ℕ) (before : List ℕ) (i : ℕ) where
  pub order_given_lem : i < 2 ^ d → low_mask (laid (order d) before) d i ≡ mask_at d i
  order_given_lem h =
      ap (λ (m : ℕ). m % 2 ^ d) (get_or-append (order d) (drop (length (order d)) before) 0 i (omega (arith, length_order d)))
      ∙ mod-eq_of_lt (order_at d i h).low

  pub given_order : 2 ^ d ≤ length before → i < 2 ^ d → given_mask (laid (order d) before) d i ≡ mask_at d i
  given_order l h =
      let e = laid_length (order d) before (omega (arith, length_order d)) in
      sym (given_enough (laid (order d) before) d i (omega arith)) ∙ order_given_lem h

-- The product by the masks that are read, those given or those that `put_order` wrote, is that by the masks meant.
module _ (given : List ℕ) (d : ℕ) (mode : Mode) (flavor : Flavor) (f : Format) (a b : List Float) where
  pub by_enough : 2 ^ d ≤ length given → product_by (low_mask given d) d mode flavor f a b ≡ product_by (given_mask given d) d mode flavor f a b
  by_enough h = mask_equal (low_mask given d) (given_mask given d) d (λ i l. given_enough given d i h) mode flavor f a b

  pub by_few : length given < 2 ^ d → product_by (mask_at d) d mode flavor f a b ≡ product_by (given_mask given d) d mode flavor f a b
  by_few h = mask_equal (mask_at d) (given_mask given d) d (λ i l. given_few given d i h) mode flavor f a b

  pub by_laid : product_by (low_mask (laid (order d) given) d) d mode flavor f a b ≡ product_by (mask_at d) d mode flavor f a b
  by_laid = mask_equal (low_mask (laid (order d) given) d) (mask_at d) d (λ i l. order_given_lem d given i l) mode flavor f a b
