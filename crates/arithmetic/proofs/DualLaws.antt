-- What `dual` and then `antidual` give: the value itself, each grade with a sign. Assumes nothing.
use mathlib.Core.Path.{◌≡◌, refl, sym, ap, ap₂, subst, ◌∙◌}
use mathlib.Core.Bool.{Bool, true, false, not, cond, and-false}
use mathlib.Core.Logic.{◌⊎◌, inl, inr, ◌≢◌}
use mathlib.Core.List.{List, [], ◌∷◌}
use Prim.Native.Nat.{ℕ, zero, suc, ◌+◌, ◌-◌, ◌*◌, ◌^◌, ◌/◌, ◌%◌, ◌≤◌, ◌<◌}
use native.Mathlib.Nat.{pow-suc, le_refl, le_trans, zero-add, add-zero, mul-zero, mul-one, mod-lt, zero-lt-suc}
use native.Mathlib.Decide.{ℕ_discrete}
use native.Mathlib.Omega.{arith}
use borrow.Author.Tests.{eq-eqb, ne_eqb}
use lib.Bits.{bit_xor, xor_comm, xor_lt}
use lib.Count.{ones, ones_in, ones-ones}
use lib.Dec.{T, eqb, lit≤}
use lib.Ieee.{Float, nan, fin, binary64, eq, neg, fits}
use lib.Ieee.Fits.{cond-fits}
use lib.IntN.{ℤ, pos, negsuc, neg_ℤ, ◌*ℤ◌, nat_abs, pow, one, zero-*ℤ}
use lib.ListN.{length, get_or}
use lib.Pow.{pow_pos}
use Rattle.clifford.specs.Blade.{Blade, has, ◌⊻◌, ◌⊕◌, count}
use Rattle.clifford.specs.Sign.{sign}
use Rattle.clifford.specs.Metric.{turned, metric}
use Rattle.clifford.specs.Product.{multiply}
use Rattle.clifford.specs.Sum.{total, δ}
use Rattle.clifford.specs.Pairs.{nonzero}
use Rattle.clifford.proofs.Ring as Ring
use Rattle.clifford.proofs.Ring.{product, mul_assoc, mul_cross, neg_mul, one_mul}
use Rattle.clifford.proofs.BladeLaws.{has_zero, has_suc, has_xor, xor_cancel}
use Rattle.clifford.proofs.CountLaws.{count_le, count_ones}
use Rattle.clifford.proofs.SignLaws.{sign_add, sign_square, sign_even, sign_odd}
use Rattle.clifford.proofs.Sigma.{when, parity, sigma, factor, parity-⊕, parity_is, sigma_ext}
use Rattle.clifford.proofs.MetricLaws.{orient, metric_is}
use Rattle.clifford.proofs.SumLaws.{sum_ext, sum_at_lem, total_ext, δ_same, δ_other}
use Rattle.clifford.proofs.Twisted.{weighed, times, basis_times, times_basis}
use Rattle.rounding.specs.Value.{sign_of, size_in, Whole}
use Rattle.masks.specs.declared.flavor.Flavor.{Flavor}
use Rattle.masks.specs.declared.flavor.Flavor.TheVariants.{Vanilla}
use Rattle.masks.specs.declared.shape.Shape.{Shape}
use Rattle.masks.specs.Flavor.{metric_of}
use Rattle.masks.specs.Outcome.{shape_of, nought}
use Rattle.masks.specs.Order.{grade, grades_below, order, place, start}
use Rattle.masks.specs.Shape.{negated_if}
use Rattle.masks.specs.Build.{at_grade}
use Rattle.masks.proofs.OrderLaws.{rank, place_ranked, order_at, order_place, place_lt, grade_has, start_all, blades_le}
use Rattle.masks.proofs.BuildLaws.{padded_at, padded_before, size_last}
use Rattle.product.specs.declared.mode.Mode.TheVariants.{All}
use Rattle.product.specs.Mode.{takes, flavor_for, pair_metric}
use Rattle.product.specs.Pairwise.{mask_at, metric_at, place_at}
use Rattle.product.specs.Products.{Counted}
use Rattle.product.specs.Whole.{whole}
use Rattle.product.specs.Reverse.{reversed}
use Rattle.product.specs.Accuracy as Accuracy
use Rattle.product.specs.Accuracy.{Fitting, Holds, Multiples, ExactCase, IsExactly, EqualNumbers, value_in, exact_size_at, exact_value_at, contributes, exact_sizes, exact_sum}
use Rattle.product.proofs.MetricSigns.{metric_unital}
use Rattle.product.proofs.PairsTotal.{total_pick}
use Rattle.product.proofs.ProductsLaws.{multiplied_same}
use Rattle.product.proofs.AccuracyExact.{exact_sum_whole}
use Rattle.product.proofs.AccuracyGrouping.{times_holds, times_exact}
use Rattle.product.proofs.AccuracyUnits.{whole_ext, equal_numbers}
use Rattle.product.proofs.ReverseLaws.{whole_negated, value_negated, reversed_size, reversed_sizes}
use Rattle.arithmetic.specs.Scale.{unity}
use Rattle.arithmetic.specs.Dual.{ample, pseudo_unit, dual_of, dual, antidual_of, antidual}
use Rattle.arithmetic.proofs.KeptLaws.{Accepted, kept_value}
use Rattle.arithmetic.proofs.DualRegressive.{unit_length, dual_length}
use Rattle.arithmetic.proofs.AccuracyLaws.{star_exact}

-- The sign that grade g gets, as a number of sign changes: I a I is a, g (d - 1) + d (d - 1) / 2 times negated.
abbrev pub turns_back : ℕ → ℕ → ℕ
turns_back d g = g * (d - 1) + d * (d - 1) / 2

-- ---- the sign, over blades

-- Every vector squares to 1.
abbrev g : ℕ → ℤ
g = metric_of Vanilla

-- The pseudo unit holds every vector.
abbrev all : Blade
all i = true

parity_all : (d : ℕ) → parity d all ≡ sign d
unfolding parity sign pow one
parity_all zero = refl
parity_all (suc d) = ap (λ z. z *ℤ negsuc 0) (parity_all d)

-- One vector more, held where x says so, passes the g vectors of a, those below it, and if it is held those below it once more.
turns_step : (d g : ℕ) (x : Bool) → g ≤ d → turns_back (suc d) (g + cond x 1 0) ≡ turns_back d g + (g + d + cond x d 0)
turns_step zero g true h = omega arith
turns_step zero g false h = omega arith
turns_step (suc d) g x h = rw (sub_one (suc d), sub_one d) (go x)
  where
    sub_one : (n : ℕ) → suc n - 1 ≡ n
    sub_one n = omega arith

    go : (x : Bool) → (g + cond x 1 0) * suc d + suc (suc d) * suc d / 2 ≡ g * d + suc d * d / 2 + (g + suc d + cond x (suc d) 0)
    go true = omega arith
    go false = omega arith

-- The factors that it brings to the two products.
factors : (x : Bool) (s t : ℤ) → factor true (not x) (s *ℤ t) (pos 1) *ℤ factor x true s (pos 1) ≡ t *ℤ s *ℤ when x s
factors true s t = simp (product, Ring.mul_one)
factors false s t = simp (product, Ring.mul_one)

sign_all : (g d : ℕ) (x : Bool) → sign (g + d + cond x d 0) ≡ sign g *ℤ sign d *ℤ when x (sign d)
unfolding sign pow one
sign_all g d true = sign_add (g + d) d ∙ ap (λ z. z *ℤ sign d) (sign_add g d)
sign_all g d false = sign_add (g + d) 0 ∙ ap (λ z. z *ℤ pos 1) (sign_add g d)

-- All vectors times those not in a, and a times all vectors.
around : (d : ℕ) (a : Blade) → sigma g d all (all ⊕ a) *ℤ sigma g d a all ≡ sign (turns_back d (count d a))
unfolding sigma count metric_of sign pow one
around zero a = refl
around (suc d) a =
    let both : parity d (all ⊕ a) ≡ parity d all *ℤ parity d a = parity-⊕ d all a in
    mul_cross (sigma g d all (all ⊕ a)) _ (sigma g d a all) _
    ∙ ap₂ (λ s t. s *ℤ t) (around d a)
    (ap (λ p. factor true (not (a d)) p (pos 1) *ℤ factor (a d) true (parity d all) (pos 1)) both
    ∙ factors (a d) (parity d all) (parity d a)
    ∙ ap₂ (λ s t. t *ℤ s *ℤ when (a d) s) (parity_all d) (parity_is d a) ∙ sym (sign_all (count d a) d (a d)))
    ∙ sym (sign_add (turns_back d (count d a)) (count d a + d + cond (a d) d 0)) ∙ ap sign (sym (turns_step d (count d a) (a d) (count_le d a)))

-- ---- the sign, over masks

full_has : (d i : ℕ) → i < d → has (2 ^ d - 1) i ≡ true
full_has zero i h = absurd (omega arith)
full_has (suc d) zero h = has_zero (2 ^ suc d - 1) ∙ ap (λ (x : ℕ). eqb x 1) (odd (2 ^ d) (2 ^ suc d) (pow_pos d) (pow-suc 2 d))
  where
    odd : (m n : ℕ) → 0 < m → n ≡ m * 2 → (n - 1) % 2 ≡ 1
    odd m n h e = omega arith
full_has (suc d) (suc i) h = has_suc (2 ^ suc d - 1) i ∙ ap (λ (x : ℕ). has x i) (half (2 ^ d) (2 ^ suc d) (pow_pos d) (pow-suc 2 d)) ∙ full_has d i (omega arith)
  where
    half : (m n : ℕ) → 0 < m → n ≡ m * 2 → (n - 1) / 2 ≡ m - 1
    half m n h e = omega arith

module _ (d : ℕ) where
  -- The mask of the pseudo unit.
  abbrev full : ℕ
  full = 2 ^ d - 1

  full_low : full < 2 ^ d
  full_low = omega (arith, pow_pos d)

  -- The vectors that a mask lacks.
  abbrev rest : ℕ → ℕ
  rest m = bit_xor full m

  rest_low : (m : ℕ) → m < 2 ^ d → rest m < 2 ^ d
  rest_low m h = xor_lt d full m full_low h

  rest_rest : (m : ℕ) → m < 2 ^ d → rest (rest m) ≡ m
  rest_rest m h = ap (bit_xor full) (xor_comm full m) ∙ xor_cancel d m full h full_low

  -- The masks that are turned come twice, and leave no sign.
  metric_around : (m : ℕ) → m < 2 ^ d → metric g d full (rest m) *ℤ metric g d m full ≡ sign (turns_back d (ones m))
  metric_around m h =
      let o = orient d in
      let s = sigma g d (has full) (has (rest m)) in
      let t = sigma g d (has m) (has full) in
      ap₂ (λ x y. x *ℤ y) (metric_is g d full (rest m)) (metric_is g d m full)
      ∙ ap₂ (λ (x y : ℕ). (o full *ℤ o (rest m) *ℤ o x) *ℤ s *ℤ ((o m *ℤ o full *ℤ o y) *ℤ t)) (rest_rest m h) (xor_comm m full)
      ∙ twice (o full) (o (rest m)) (o m) s t (sign_square (turned d full)) (sign_square (turned d (rest m))) (sign_square (turned d m))
      ∙ ap₂ (λ x y. x *ℤ y)
      (sigma_ext g d (has full) all (has (rest m)) (all ⊕ has m) (full_has d) (λ i l. ap (λ (b : Blade). b i) (has_xor full m) ∙ ap (λ (x : Bool). x ⊻ has m i) (full_has d i l)))
      (sigma_ext g d (has m) (has m) (has full) all (λ i l. refl) (full_has d))
      ∙ around d (has m) ∙ ap (λ (n : ℕ). sign (turns_back d n)) (count_ones d m h)
    where
      twice : (a b c s t : ℤ) → a *ℤ a ≡ pos 1 → b *ℤ b ≡ pos 1 → c *ℤ c ≡ pos 1 → (a *ℤ b *ℤ c) *ℤ s *ℤ ((c *ℤ a *ℤ b) *ℤ t) ≡ s *ℤ t
      twice a b c s t p q r = squares a b c s t ∙ rw (p, q, r, Ring.mul_one (s *ℤ t))
        where
          squares : (a b c s t : ℤ) → (a *ℤ b *ℤ c) *ℤ s *ℤ ((c *ℤ a *ℤ b) *ℤ t) ≡ (s *ℤ t) *ℤ ((a *ℤ a) *ℤ ((b *ℤ b) *ℤ (c *ℤ c)))
          squares a b c s t = simp product

  -- ---- the product with the pseudo unit has one term at each place

  -- The place of the pseudo unit.
  abbrev last : ℕ
  last = place d full

  last_low : last < 2 ^ d
  last_low = place_lt d full full_low

  -- The pseudo unit meets each place in one other, on either side.
  abbrev other : ℕ → ℕ
  other k = place d (rest (mask_at d k))

  low : (k : ℕ) → k < 2 ^ d → mask_at d k < 2 ^ d
  low k h = (order_at d k h).low

  other_low : (k : ℕ) → k < 2 ^ d → other k < 2 ^ d
  other_low k h = place_lt d _ (rest_low (mask_at d k) (low k h))

  other_mask : (k : ℕ) → k < 2 ^ d → mask_at d (other k) ≡ rest (mask_at d k)
  other_mask k h = order_place d _ (rest_low (mask_at d k) (low k h))

  other_other : (k : ℕ) → k < 2 ^ d → other (other k) ≡ k
  other_other k h = ap (λ (m : ℕ). place d (rest m)) (other_mask k h) ∙ ap (place d) (rest_rest (mask_at d k) (low k h)) ∙ (order_at d k h).back

  abbrev met : ℕ → ℕ → ℕ
  met i j = place d (bit_xor (mask_at d i) (mask_at d j))

  meets_left : (i : ℕ) → met last i ≡ other i
  meets_left i = ap (λ (m : ℕ). place d (bit_xor m (mask_at d i))) (order_place d full full_low)

  meets_right : (i : ℕ) → met i last ≡ other i
  meets_right i = ap (place d) (xor_comm (mask_at d i) (mask_at d last)) ∙ meets_left i

  other_δ : (i k : ℕ) → i < 2 ^ d → k < 2 ^ d → δ (other i) k ≡ δ (other k) i
  other_δ i k h l =
      elim (ℕ_discrete (other i) k) [
        | yes e ↦ rw (← e, other_other i h, δ_same (other i), δ_same i)
        | no e ↦ δ_other (other i) k e ∙ sym (δ_other (other k) i (λ q. e (ap other (sym q) ∙ other_other k l)))
      ]

  abbrev metrics : ℕ → ℕ → ℤ
  metrics i j = metric g d (mask_at d i) (mask_at d j)

  times_unit : (a : ℕ → ℤ) (k : ℕ) → k < 2 ^ d → whole Vanilla d a (δ last) k ≡ metric g d (rest (mask_at d k)) full *ℤ a (other k)
  unfolding multiply times weighed
  times_unit a k h =
      times_basis (2 ^ d) met metrics last last_low a k
      ∙ sum_ext (2 ^ d) _ _ (λ i l. ap (λ z. z *ℤ (metrics i last *ℤ a i)) (ap (λ (m : ℕ). δ m k) (meets_right i) ∙ other_δ i k l h))
      ∙ sum_at_lem (2 ^ d) (other k) (λ i. metrics i last *ℤ a i) (other_low k h)
      ∙ rw (other_mask k h, order_place d full full_low)

  unit_times : (b : ℕ → ℤ) (k : ℕ) → k < 2 ^ d → whole Vanilla d (δ last) b k ≡ metric g d full (rest (mask_at d k)) *ℤ b (other k)
  unfolding multiply times weighed
  unit_times b k h =
      basis_times (2 ^ d) met metrics last last_low b k
      ∙ sum_ext (2 ^ d) _ _ (λ j l. ap (λ z. z *ℤ (metrics last j *ℤ b j)) (ap (λ (m : ℕ). δ m k) (meets_left j) ∙ other_δ j k l h))
      ∙ sum_at_lem (2 ^ d) (other k) (λ j. metrics last j *ℤ b j) (other_low k h)
      ∙ rw (other_mask k h, order_place d full full_low)

-- Over the whole numbers, for the pseudo unit on both sides.
pub unit_around : (d : ℕ) (a : ℕ → ℤ) (k : ℕ) → k < 2 ^ d
    → whole Vanilla d (δ (place d (2 ^ d - 1))) (whole Vanilla d a (δ (place d (2 ^ d - 1)))) k ≡ sign (turns_back d (ones (mask_at d k))) *ℤ a k
unit_around d a k h =
    let m = mask_at d k in
    unit_times d (whole Vanilla d a (δ (last d))) k h
    ∙ ap (λ z. metric g d (full d) (rest d m) *ℤ z)
    (times_unit d a (other d k) (other_low d k h)
    ∙ ap₂ (λ (n i : ℕ). metric g d n (full d) *ℤ a i) (ap (rest d) (other_mask d k h) ∙ rest_rest d m (low d k h)) (other_other d k h))
    ∙ sym (mul_assoc (metric g d (full d) (rest d m)) (metric g d m (full d)) (a k)) ∙ ap (λ z. z *ℤ a k) (metric_around d m (low d k h))

-- ---- the pseudo unit's numbers

module _ (d : ℕ) where
  last_start : last d ≡ start d d
  last_start = place_ranked d (full d) (full_low d) ∙ ap (λ (n : ℕ). start d n + rank d n (full d)) (ones-ones d) ∙ omega (arith, (grade_has d d (full d) (full_low d) (ones-ones d)).inside, size_last d)

  abbrev I : List Float
  I = pseudo_unit d

  unit_at : (i : ℕ) → i < 2 ^ d → get_or I i nan ≡ cond (eqb (last d) i) unity nought
  unfolding at_grade start
  unit_at i h =
      elim (ℕ_discrete (last d) i) [
        | yes e ↦ rw (eq-eqb (last d) i e) (padded_at (start d d) (unity ∷ []) (2 ^ d) i 0 (omega (arith, last_start)) (omega arith))
        | no e ↦ rw (ne_eqb (last d) i e) (padded_before (start d d) (unity ∷ []) (2 ^ d) i (omega (arith, last_start, start_all d, size_last d)))
      ]

  unit_value_lem : (i : ℕ) → i < 2 ^ d → exact_value_at 0 I i ≡ δ (last d) i
  unfolding value_in δ
  unit_value_lem i h = ap (value_in 0) (unit_at i h) ∙ go (eqb (last d) i)
    where
      go : (b : Bool) → value_in 0 (cond b unity nought) ≡ cond b (pos 1) (pos 0)
      go true = refl
      go false = refl

  unit_size : (i : ℕ) → i < 2 ^ d → exact_size_at 0 I i ≡ cond (eqb (last d) i) 1 0
  unit_size i h = ap (size_in 0) (unit_at i h) ∙ go (eqb (last d) i)
    where
      go : (b : Bool) → size_in 0 (cond b unity nought) ≡ cond b 1 0
      go true = refl
      go false = refl

  unit_holds : Holds d I
  unfolding fits
  unit_holds = record { many = unit_length d; held = λ i h. rw (unit_at i h) (cond-fits binary64 (eqb (last d) i) unity nought tt tt) }

  unit_multiples : Multiples 0 d I
  unit_multiples i h = rw (unit_at i h) (go (eqb (last d) i))
    where
      go : (b : Bool) → Whole 0 (cond b unity nought)
      go true = (refl, refl)
      go false = (refl, refl)

-- ---- the exact sizes of a product with it

-- A sum that has one term.
total_only : (n e : ℕ) (f : ℕ → ℕ) → e < n → ((i : ℕ) → i < n → i ≢ e → f i ≡ 0) → total n f ≡ f e
total_only n e f h z =
    total_ext n f (λ i. cond (eqb e i) (f i) 0) (λ i l.
    elim (ℕ_discrete e i) [ yes q ↦ rw (eq-eqb e i q) | no q ↦ rw (ne_eqb e i q) (z i l (λ r. q (sym r))) ])
    ∙ total_pick n e f h

pairs_only : (n e c : ℕ) (f : ℕ → ℕ → ℕ) → e < n → c < n → ((i j : ℕ) → i < n → j < n → i ≢ e → f i j ≡ 0) → ((i j : ℕ) → i < n → j < n → j ≢ c → f i j ≡ 0)
    → total n (λ j. total n (λ i. f i j)) ≡ f e c
pairs_only n e c f he hc x y =
    total_only n c (λ j. total n (λ i. f i j)) hc (λ j l q. total_only n e (λ i. f i j) he (λ i h _. y i j h l q) ∙ y e j he l q)
    ∙ total_only n e (λ i. f i c) he (λ i h q. x i c h hc q)

cond_zero : (b : Bool) (n : ℕ) → n ≡ 0 → cond b n 0 ≡ 0
cond_zero true n e = e
cond_zero false n e = refl

-- The right factor u has the pseudo unit's sizes: one pair of places has a size that is not 0.
module _ (d k : ℕ) (h : k < 2 ^ d) (p B : ℕ) (a u : List Float) (sized : (i : ℕ) → i < 2 ^ d → exact_size_at p a i ≤ B) (unital : (i : ℕ) → i < 2 ^ d → exact_size_at 0 u i ≡ cond (eqb (last d) i) 1 0) where
  pair : ℕ → ℕ → ℕ
  pair i j = cond (contributes All Vanilla d k i j) (exact_size_at p a i * exact_size_at 0 u j) 0

  pair_right : (i j : ℕ) → i < 2 ^ d → j < 2 ^ d → j ≢ last d → pair i j ≡ 0
  unfolding pair
  pair_right i j hi hj q =
      cond_zero (contributes All Vanilla d k i j) _ (rw (unital j hj, ne_eqb (last d) j (λ e. q (sym e)), mul-zero (exact_size_at p a i)))

  pair_left : (i j : ℕ) → i < 2 ^ d → j < 2 ^ d → i ≢ other d k → pair i j ≡ 0
  unfolding pair contributes place_at
  pair_left i j hi hj q =
      elim (ℕ_discrete j (last d)) [
        | yes e ↦ rw (e, meets_right d i, ne_eqb (other d i) k (λ r. q (sym (ap (other d) (sym r) ∙ other_other d i hi))), and-false (nonzero (metric_at All Vanilla d i (last d))))
        | no e ↦ pair_right i j hi hj e
      ]

  sizes_le : exact_sizes All Vanilla d k p 0 a u ≤ B
  unfolding exact_sizes pair
  sizes_le =
      rw (pairs_only (2 ^ d) (other d k) (last d) pair (other_low d k h) (last_low d) pair_left pair_right, unital (last d) (last_low d), eq-eqb (last d) (last d) refl, mul-one (exact_size_at p a (other d k)))
      (go (contributes All Vanilla d k (other d k) (last d)))
    where
      go : (b : Bool) → cond b (exact_size_at p a (other d k)) 0 ≤ B
      go true = sized (other d k) (other_low d k h)
      go false = omega arith

-- ---- `dual` and `antidual` are exact

-- A size in units is that of the value in units.
size_value : (u : ℕ) (x : Float) → size_in u x ≡ nat_abs (value_in u x)
unfolding value_in
size_value u x = go (sign_of x) (size_in u x)
  where
    go : (s : Bool) (n : ℕ) → n ≡ nat_abs (cond s (neg_ℤ (pos n)) (pos n))
    go true zero = refl
    go true (suc n) = refl
    go false n = refl

-- A metric makes no number larger.
metric_le : (d m n : ℕ) (z : ℤ) → nat_abs (metric g d m n *ℤ z) ≤ nat_abs z
unfolding pair_metric takes flavor_for
metric_le d m n z = go (metric_unital All Vanilla d m n)
  where
    abs_neg : (z : ℤ) → nat_abs (neg_ℤ z) ≡ nat_abs z
    abs_neg (pos zero) = refl
    abs_neg (pos (suc n)) = refl
    abs_neg (negsuc n) = refl

    go : (pair_metric All Vanilla d m n ≡ negsuc 0) ⊎ ((pair_metric All Vanilla d m n ≡ pos 0) ⊎ (pair_metric All Vanilla d m n ≡ pos 1)) → nat_abs (pair_metric All Vanilla d m n *ℤ z) ≤ nat_abs z
    go (inl e) = rw (e, neg_mul (pos 1) z, one_mul z, abs_neg z) (le_refl (nat_abs z))
    go (inr (inl e)) = rw (e, zero-*ℤ z) (omega arith)
    go (inr (inr e)) = rw (e, one_mul z) (le_refl (nat_abs z))

-- A sign that changes t times.
sign_value : (t : ℕ) (z : ℤ) → sign t *ℤ z ≡ cond (eqb (t % 2) 1) (neg_ℤ z) z
sign_value t z =
    elim (ℕ_discrete (t % 2) 1) [
      | yes e ↦ rw (sign_odd t e, eq-eqb (t % 2) 1 e) (neg_mul (pos 1) z ∙ ap neg_ℤ (one_mul z))
      | no e ↦ rw (sign_even t (omega (arith, mod-lt t (zero-lt-suc 1))), ne_eqb (t % 2) 1 e) (one_mul z)
    ]

module _ (d : ℕ) (a : List Float) (p : ℕ) (small : d ≤ 9) (h : Holds d a) (m : Multiples p d a) (l : p ≤ 46) (n : (i : ℕ) → i < 2 ^ d → exact_size_at p a i ≤ 2 ^ 53) where
  abbrev v : Shape
  v = shape_of d Vanilla

  fitting : Fitting v ample
  fitting = record { small = small; roomy = blades_le d small }

  -- The exact case of the product that `dual` is.
  first : ExactCase All Vanilla d a (I d)
  first =
      record {
        p = p;
        q = 0;
        fine = omega arith;
        left = m;
        right = unit_multiples d;
        small = λ k i. sizes_le d k i p (2 ^ 53) a (I d) n (unit_size d);
      }

  abbrev x : List Float
  x = dual_of d a

  dual_is : x ≡ Accuracy.times v ample a (I d)
  unfolding dual_of
  dual_is = sym (ap (λ (o : Counted). o.outcome.coefs) (multiplied_same All v a (I d) ample fitting h.many (unit_length d)))

  dual_holds : Holds d x
  dual_holds = rw dual_is (times_holds v ample fitting a (I d) h (unit_holds d))

  dual_exact : (k : ℕ) → k < 2 ^ d → IsExactly p (get_or x k nan) (whole Vanilla d (exact_value_at p a) (δ (last d)) k)
  unfolding first
  dual_exact k i =
      rw (dual_is, ← whole_ext Vanilla d (exact_value_at p a) (exact_value_at 0 (I d)) k (exact_value_at p a) (δ (last d)) (λ j _. refl) (unit_value_lem d))
      (rw (add-zero p) at (times_exact v ample fitting a (I d) h (unit_holds d) first p 0 (le_refl p) (le_refl 0) k i))

  dual_size : (k : ℕ) → k < 2 ^ d → exact_size_at p x k ≤ 2 ^ 53
  dual_size k i =
      rw (size_value p (get_or x k nan), (dual_exact k i).1, times_unit d (exact_value_at p a) k i)
      (le_trans (metric_le d (rest d (mask_at d k)) (full d) (exact_value_at p a (other d k))) (rw (← size_value p (get_or a (other d k) nan)) (n (other d k) (other_low d k i))))

  -- The exact case of the product that `antidual` is: the sizes are those of the factors exchanged.
  second : ExactCase All Vanilla d (I d) x
  second =
      record {
        p = 0;
        q = p;
        fine = omega arith;
        left = unit_multiples d;
        right = λ k i. (dual_exact k i).0;
        small = λ k i. rw (← reversed_sizes Vanilla d k 0 p (I d) x)
            (sizes_le d k i p (2 ^ 53) (reversed d x) (reversed d (I d)) (λ j b. rw (reversed_size d x p j b) (dual_size j b)) (λ j b. reversed_size d (I d) 0 j b ∙ unit_size d j b));
      }

  back_exact : (k : ℕ) → k < 2 ^ d → IsExactly p (get_or (antidual_of d x) k nan) (sign (turns_back d (ones (mask_at d k))) *ℤ exact_value_at p a k)
  unfolding second antidual_of
  back_exact k i =
      let e : exact_sum All Vanilla d k 0 p (I d) x ≡ sign (turns_back d (ones (mask_at d k))) *ℤ exact_value_at p a k =
      exact_sum_whole Vanilla d k 0 p (I d) x i
      ∙ whole_ext Vanilla d (exact_value_at 0 (I d)) (exact_value_at p x) k (δ (last d)) (whole Vanilla d (exact_value_at p a) (δ (last d))) (unit_value_lem d) (λ j b. (dual_exact j b).1)
      ∙ unit_around d (exact_value_at p a) k i in
      rw (← e) (rw (zero-add p) at (star_exact v ample fitting (I d) x (unit_holds d) dual_holds second k i))

-- On the grid, as numbers: for finite multiples of 2 ^ -p of at most 2 ^ 53 units, p at most 46.
pub dual_antidual : (s : Shape) (a : List Float) (room p : ℕ) → Fitting s room → Holds s.dims a → Multiples p s.dims a → p ≤ 46
    → ((i : ℕ) → i < 2 ^ s.dims → exact_size_at p a i ≤ 2 ^ 53) → (k : ℕ) → k < 2 ^ s.dims
    → T (eq (get_or (antidual s (dual s a room).coefs room).coefs k nan) (negated_if (eqb (turns_back s.dims (ones (mask_at s.dims k)) % 2) 1) (get_or a k nan)))
dual_antidual s a room p f h m l n k i =
    let d = s.dims in
    let t = turns_back d (ones (mask_at d k)) in
    let b = eqb (t % 2) 1 in
    let fits : (xs : List Float) → length xs ≡ 2 ^ d → Accepted s xs room = λ xs c. record { small = f.small; counted = c; roomy = f.roomy } in
    let e = back_exact d a p f.small h m l n k i in
    rw (kept_value (dual_of d) s a room (fits a h.many), kept_value (antidual_of d) s (dual_of d a) room (fits (dual_of d a) (dual_length d a)))
    (equal_numbers p _ _ e.0 (whole_negated b p (get_or a k nan) (m k i)) (e.1 ∙ sign_value t (exact_value_at p a k) ∙ sym (value_negated b p (get_or a k nan))))

-- ---- an example of two dimensions, whatever the flavor

-- 1.5, -2, 0.25 and 3
given : List Float
given = fin false 3 (negsuc 0) ∷ fin true 1 (pos 1) ∷ fin false 1 (negsuc 1) ∷ fin false 3 (pos 0) ∷ []

-- -1.5, -2, 0.25 and -3
back : List Float
back = fin true 3 (negsuc 0) ∷ fin true 1 (pos 1) ∷ fin false 1 (negsuc 1) ∷ fin true 3 (pos 0) ∷ []

four : (P : ℕ → Type 0) → P 0 → P 1 → P 2 → P 3 → (k : ℕ) → k < 4 → P k
four P a b c d zero h = a
four P a b c d (suc zero) h = b
four P a b c d (suc (suc zero)) h = c
four P a b c d (suc (suc (suc zero))) h = d
four P a b c d (suc (suc (suc (suc k)))) h = absurd (omega arith)

-- Grades 0 and 2 are negated.
there_and_back : (f : Flavor) → EqualNumbers 2 (antidual (shape_of 2 f) (dual (shape_of 2 f) given 4).coefs 4).coefs back
unfolding given back fits neg order grades_below grade ones ones_in
there_and_back f k h =
    subst (λ (y : Float). T (eq (get_or (antidual (shape_of 2 f) (dual (shape_of 2 f) given 4).coefs 4).coefs k nan) y))
    (four (λ (k : ℕ). negated_if (eqb (turns_back 2 (ones (mask_at 2 k)) % 2) 1) (get_or given k nan) ≡ get_or back k nan) refl refl refl refl k h)
    (dual_antidual (shape_of 2 f) given 4 2 (record { small = lit≤ tt; roomy = lit≤ tt })
    (record { many = refl; held = four (λ (k : ℕ). T (fits binary64 (get_or given k nan))) tt tt tt tt })
    (four (λ (k : ℕ). Whole 2 (get_or given k nan)) (refl, refl) (refl, refl) (refl, refl) (refl, refl)) (lit≤ tt)
    (four (λ (k : ℕ). exact_size_at 2 given k ≤ 2 ^ 53) (lit≤ tt) (lit≤ tt) (lit≤ tt) (lit≤ tt)) k h)
