-- The sums by masks of specs/inner/Sums make the product by masks. Assumes nothing.
use mathlib.Core.Path.{◌≡◌, refl, sym, ap, ap₂, ◌∙◌}
use mathlib.Core.Bool.{Bool, true, false, ◌&&◌, cond}
use mathlib.Core.List.{List, map}
use Prim.Native.Nat.{ℕ, zero, suc, ◌^◌, ◌<◌, ◌≤◌}
use native.Mathlib.Nat.{lt_of_lt_of_le}
use native.Mathlib.Omega.{arith}
use lib.Bits.{bit_xor, xor_comm, xor_lt}
use lib.Dec.{T, eqb, ltb}
use lib.Ieee.{Float, nan, Format, binary64, add, sub, mul, neg, fits}
use lib.Ieee.Fits.{cond-fits, neg-fits}
use lib.ListN.{length, get_or, set, length-replicate, get_or-replicate}
use lib.Pow.{pow_mono}
use lib.Seq.{get_or-set_same, get_or-set_other}
use borrow.Author.Tests.{eqb-true, eqb-false, ne_eqb, ltb-true, ltb-false}
use Rattle.clifford.specs.Blade.{◌⊻◌}
use Rattle.clifford.specs.Pairs.{nonzero}
use Rattle.clifford.proofs.BladeLaws.{xor_cancel}
use Rattle.rounding.specs.Operation.{signed_one}
use Rattle.rounding.specs.Snap.{snap}
use Rattle.rounding.specs.Terms.{Term, prod, run}
use Rattle.rounding.proofs.NegatedLaws.{neg_neg, mul_neg_left, mul_neg_right, one_times, prod_signed}
use Rattle.masks.specs.declared.flavor.Flavor.{Flavor}
use Rattle.masks.specs.Order.{up_from}
use Rattle.masks.specs.Outcome.{nought}
use Rattle.product.specs.declared.mode.Mode.{Mode}
use Rattle.product.specs.declared.metric.Squares.{Squares}
use Rattle.product.specs.Mode.{flavor_for, pair_metric}
use Rattle.product.specs.Given.{at_mask, sum_by, product_by}
use Rattle.product.specs.inner.Metric.{squares_below, blade_of}
use Rattle.product.specs.inner.Pairwise.{negative}
use Rattle.product.specs.inner.Sums.{meets, flipped, with_pairs, turned_mask, turned_number, turned_at, rows_below}
use Rattle.product.proofs.GivenLaws.{pair_by, sum_run}
use Rattle.product.proofs.ListLaws.{places_length, places_at, places_ext}
use Rattle.product.proofs.MetricLaws.{is_turned, pair_live, pair_minus}
use Rattle.product.proofs.PairwiseNegated.{run_same, run_negated}

-- ---- signs of products

-- A number, negated where t says so.
abbrev signed : Bool → Float → Float
signed t x = cond t (neg x) x

signed_xor : (s t : Bool) (x : Float) → signed (s ⊻ t) x ≡ signed s (signed t x)
signed_xor true true x = sym (neg_neg x)
signed_xor true false x = refl
signed_xor false t x = refl

module _ (f : Format) where
  signed_fits : (t : Bool) (x : Float) → T (fits f x) → T (fits f (signed t x))
  signed_fits t x h = cond-fits f t (neg x) x (neg-fits f x h) h

  signed_left : (t : Bool) (x y : Float) → mul f (signed t x) y ≡ signed t (mul f x y)
  signed_left true x y = mul_neg_left f x y
  signed_left false x y = refl

  signed_right : (t : Bool) (x y : Float) → mul f x (signed t y) ≡ signed t (mul f x y)
  signed_right true x y = mul_neg_right f x y
  signed_right false x y = refl

  -- (metric x a) x b, by the sign of the metric.
  signed_prod : (t : Bool) (x y : Float) → T (fits f x) → mul f (mul f (signed_one t) x) y ≡ signed t (mul f x y)
  signed_prod t x y h = ap (λ (z : Float). mul f z y) (one_times f t x h) ∙ signed_left t x y

  -- Both factors turned and the product turned bring their signs out of the metric.
  turned_prod : (flip m q c : Bool) (x y : Float) → T (fits f x)
      → mul f (mul f (signed_one flip) (signed m x)) (signed q y) ≡ signed c (mul f (mul f (signed_one (flip ⊻ (m ⊻ q ⊻ c))) x) y)
  turned_prod flip m q c x y h =
      signed_prod flip (signed m x) (signed q y) (signed_fits m x h)
      ∙ ap (signed flip) (signed_left m x (signed q y) ∙ ap (signed m) (signed_right q x y) ∙ sym (signed_xor m q (mul f x y)))
      ∙ sym (signed_xor flip (m ⊻ q) (mul f x y))
      ∙ ap (λ (t : Bool). signed t (mul f x y)) (sym (again c flip (m ⊻ q)))
      ∙ signed_xor c (flip ⊻ (m ⊻ q ⊻ c)) (mul f x y)
      ∙ ap (signed c) (sym (signed_prod (flip ⊻ (m ⊻ q ⊻ c)) x y h))
    where
      again : (c s t : Bool) → c ⊻ (s ⊻ (t ⊻ c)) ≡ s ⊻ t
      again true true true = refl
      again true true false = refl
      again true false true = refl
      again true false false = refl
      again false true true = refl
      again false true false = refl
      again false false true = refl
      again false false false = refl

-- ---- lists by masks

-- What a list has where it is changed at the turned mask.
turned_at_lem : (change : Float → Float) (turn : ℕ) (xs : List Float) (m : ℕ) → m < length xs
    → get_or (turned_at change turn xs) m nan ≡ cond (eqb m turn) (change (get_or xs m nan)) (get_or xs m nan)
turned_at_lem change turn xs m h = go (ltb turn (length xs)) refl (eqb m turn) refl
  where
    go : (t : Bool) → ltb turn (length xs) ≡ t → (u : Bool) → eqb m turn ≡ u
        → get_or (cond t (set xs turn (change (get_or xs turn nan))) xs) m nan ≡ cond u (change (get_or xs m nan)) (get_or xs m nan)
    go true e true g =
        let q : m ≡ turn = eqb-true _ _ g in
        rw q (get_or-set_same xs turn (change (get_or xs turn nan)) nan (ltb-true _ _ e))
    go true e false g = get_or-set_other xs turn m _ nan (eqb-false _ _ g)
    go false e true g = absurd (omega (arith, eqb-true m turn g, ltb-false turn (length xs) e))
    go false e false g = refl

-- ---- a sum of the rows is a run of terms

module _ (n : ℕ) (μ : ℕ → ℕ) (turn : ℕ) (mode : Mode) (s : Squares) (am b : List Float) where
  -- The pair of b's place j that goes to mask c, by the signs that the code has.
  abbrev plain : ℕ → ℕ → Term
  plain c j =
      record {
        live = meets mode (blade_of s (μ j)) (bit_xor c (μ j));
        minus = flipped (blade_of s (μ j)) (bit_xor c (μ j));
        left = get_or am (bit_xor c (μ j)) nan;
        right = turned_number turn (μ j) (get_or b j nan);
      }

  rows_length : (j : ℕ) → length (rows_below n μ turn mode s am b j) ≡ n
  unfolding rows_below with_pairs
  rows_length zero = length-replicate n nought
  rows_length (suc j) = places_length (length (rows_below n μ turn mode s am b j)) _ ∙ rows_length j

  rows_run : (c : ℕ) → c < n → (k : ℕ) → ((j : ℕ) → j < k → T (fits binary64 (get_or am (bit_xor c (μ j)) nan)))
      → get_or (rows_below n μ turn mode s am b k) c nan ≡ run binary64 (plain c) k
  unfolding rows_below with_pairs blade_of
  rows_run c h zero fit = get_or-replicate n c nought nan h
  rows_run c h (suc j) fit =
      places_at (length (rows_below n μ turn mode s am b j)) _ c (omega (arith, rows_length j))
      ∙ ap₂ (λ (x y : Float). cond (plain c j).live (add binary64 x y) x)
      (rows_run c h j (λ i l. fit i (omega arith))) (sym (prod_signed binary64 (plain c j) (fit j (omega arith))))

-- ---- the turned mask

turned_test : (d m : ℕ) → m < 512 → is_turned d m ≡ eqb m (turned_mask d)
turned_test d m h = go (eqb d 3)
  where
    go : (t : Bool) → (t && eqb m 5) ≡ eqb m (cond t 5 512)
    go true = refl
    go false = sym (ne_eqb m 512 (λ e. omega arith))

-- ---- the product

-- a's numbers by mask, with the turned one negated.
abbrev pub left_by_mask : (ℕ → ℕ) → ℕ → List Float → List Float
left_by_mask μ d a = turned_at neg (turned_mask d) (map (at_mask μ d a (2 ^ d)) (up_from 0 (2 ^ d)))

-- The sums by mask, with the turned one taken from 0.
abbrev pub sums_by_mask : (ℕ → ℕ) → ℕ → Mode → Flavor → List Float → List Float → List Float
sums_by_mask μ d mode flavor a b =
    turned_at (sub binary64 nought) (turned_mask d)
    (rows_below (2 ^ d) μ (turned_mask d) mode (squares_below 9 (flavor_for mode flavor)) (left_by_mask μ d a) b (2 ^ d))

module _ (μ : ℕ → ℕ) (d : ℕ) (l : d ≤ 9) (low : (i : ℕ) → i < 2 ^ d → μ i < 2 ^ d) (mode : Mode) (flavor : Flavor) (a b : List Float)
    (fit : (i : ℕ) → T (fits binary64 (get_or a i nan))) where
  at_fits : (n m : ℕ) → T (fits binary64 (at_mask μ d a n m))
  unfolding at_mask
  at_fits zero m = unfold fits in tt
  at_fits (suc i) m = cond-fits binary64 (eqb (μ i) m) (get_or a i nan) (at_mask μ d a i m) (fit i) (at_fits i m)

  left_at : (m : ℕ) → m < 2 ^ d → get_or (left_by_mask μ d a) m nan ≡ signed (eqb m (turned_mask d)) (at_mask μ d a (2 ^ d) m)
  left_at m h =
      let g = at_mask μ d a (2 ^ d) in
      turned_at_lem neg (turned_mask d) (map g (up_from 0 (2 ^ d))) m (omega (arith, places_length (2 ^ d) g)) ∙ ap (signed (eqb m (turned_mask d))) (places_at (2 ^ d) g m h)

  left_fits : (m : ℕ) → m < 2 ^ d → T (fits binary64 (get_or (left_by_mask μ d a) m nan))
  left_fits m h = rw (left_at m h) (signed_fits binary64 (eqb m (turned_mask d)) (at_mask μ d a (2 ^ d) m) (at_fits (2 ^ d) m))

  -- The terms of the code, and those of the product.
  abbrev coded : ℕ → ℕ → Term
  coded = plain (2 ^ d) μ (turned_mask d) mode (squares_below 9 (flavor_for mode flavor)) (left_by_mask μ d a) b

  abbrev meant : ℕ → ℕ → Term
  meant = pair_by μ d mode flavor a b

  module _ (c j : ℕ) (hc : c < 2 ^ d) (hj : j < 2 ^ d) where
    other_lt : bit_xor c (μ j) < 2 ^ d
    other_lt = xor_lt d c (μ j) hc (low j hj)

    turned_as : (m : ℕ) → m < 2 ^ d → is_turned d m ≡ eqb m (turned_mask d)
    turned_as m h = turned_test d m (lt_of_lt_of_le h (pow_mono l))

    same_live : (coded c j).live ≡ (meant c j).live
    unfolding blade_of
    same_live = sym (pair_live mode flavor d (bit_xor c (μ j)) (μ j) other_lt l) ∙ ap (λ (m : ℕ). nonzero (pair_metric mode flavor d m (μ j))) (xor_comm c (μ j))

    -- Where the pair counts, the signs differ by those of the turned masks.
    same_minus : (coded c j).live ≡ true
        → (meant c j).minus ≡ (coded c j).minus ⊻ (eqb (bit_xor c (μ j)) (turned_mask d) ⊻ eqb (μ j) (turned_mask d) ⊻ eqb c (turned_mask d))
    unfolding blade_of
    same_minus e =
        let m = bit_xor c (μ j) in
        let back : bit_xor m (μ j) ≡ c = xor_comm m (μ j) ∙ xor_cancel d c (μ j) hc (low j hj) in
        ap (λ (k : ℕ). negative (pair_metric mode flavor d k (μ j))) (xor_comm (μ j) c)
        ∙ pair_minus mode flavor d m (μ j) other_lt l e
        ∙ rw (back, turned_as m other_lt, turned_as (μ j) (low j hj), turned_as c hc)

    same_prod : (coded c j).live ≡ true → prod binary64 (coded c j) ≡ signed (eqb c (turned_mask d)) (prod binary64 (meant c j))
    same_prod e =
        let m = bit_xor c (μ j) in
        let turn = turned_mask d in
        rw (left_at m other_lt, same_minus e, xor_comm (μ j) c)
        (turned_prod binary64 (coded c j).minus (eqb m turn) (eqb (μ j) turn) (eqb c turn) (at_mask μ d a (2 ^ d) m) (get_or b j nan) (at_fits (2 ^ d) m))

  sums_at : (c : ℕ) → c < 2 ^ d → get_or (sums_by_mask μ d mode flavor a b) c nan ≡ sum_by μ d mode flavor binary64 a b (2 ^ d) c
  sums_at c h =
      let s = squares_below 9 (flavor_for mode flavor) in
      let am = left_by_mask μ d a in
      let turn = turned_mask d in
      turned_at_lem (sub binary64 nought) turn (rows_below (2 ^ d) μ turn mode s am b (2 ^ d)) c (omega (arith, rows_length (2 ^ d) μ turn mode s am b (2 ^ d)))
      ∙ ap (λ (x : Float). cond (eqb c turn) (sub binary64 nought x) x)
      (rows_run (2 ^ d) μ turn mode s am b c h (2 ^ d) (λ j k. left_fits (bit_xor c (μ j)) (other_lt c j h k)))
      ∙ go (eqb c turn) refl
      ∙ sym (sum_run μ d mode flavor binary64 a b (2 ^ d) c)
    where
      go : (t : Bool) → eqb c (turned_mask d) ≡ t
          → cond t (sub binary64 nought (run binary64 (coded c) (2 ^ d))) (run binary64 (coded c) (2 ^ d)) ≡ run binary64 (meant c) (2 ^ d)
      go true e = run_negated binary64 (meant c) (coded c) (2 ^ d) (λ j k. same_live c j h k) (λ j k t. same_prod c j h k t ∙ rw e)
      go false e = run_same binary64 (meant c) (coded c) (2 ^ d) (λ j k. same_live c j h k) (λ j k t. same_prod c j h k t ∙ rw e)

  -- The sums at the places' masks, snapped, are the product.
  pub rows_product : map (λ k. snap binary64 (get_or (sums_by_mask μ d mode flavor a b) (μ k) nan)) (up_from 0 (2 ^ d)) ≡ product_by μ d mode flavor binary64 a b
  unfolding product_by
  rows_product = places_ext (2 ^ d) _ _ (λ k h. ap (λ (x : Float). snap binary64 x) (sums_at (μ k) (low k h)))
