-- Demand 3's theorems, applied to values of at most two dimensions, so that none of the theorems speaks of nothing; no coefficient of a, b, c and wide is zero. Assumes nothing.
use mathlib.Core.Path.{◌≡◌, refl, ap, ◌∙◌}
use mathlib.Core.Bool.{Bool, true, false, ◌&&◌}
use mathlib.Core.List.{List, [], ◌∷◌, map}
use Prim.Native.Nat.{ℕ, zero, suc, ◌+◌, ◌*◌, ◌%◌, ◌^◌, ◌<◌}
use lib.Count.{ones, ones_in}
use lib.Dec.{T, eqb, leb, eqb→eq, leb→le, lit≤}
use lib.Ieee.{Float, nan, inf, fin, binary64, up, down, round, add, mul, fits}
use lib.IntN.{pos, negsuc, pow, one}
use lib.ListN.{get_or, length}
use Rattle.clifford.specs.Blade.{has, count}
use Rattle.clifford.specs.Sign.{sign}
use Rattle.clifford.specs.Metric.{swaps, shared, turned, metric}
use Rattle.clifford.specs.Sum.{total}
use Rattle.clifford.specs.Pairs.{within}
use Rattle.rounding.specs.Sized.{Sized}
use Rattle.rounding.specs.Snap.{snap}
use Rattle.rounding.specs.Value.{Whole}
use Rattle.rounding.proofs.ValueLaws.{whole_if}
use Rattle.masks.specs.declared.flavor.Flavor.{Flavor}
use Rattle.masks.specs.declared.flavor.Flavor.TheVariants.{Vanilla, Projective, Cl}
use Rattle.masks.specs.declared.shape.Shape.{Shape}
use Rattle.masks.specs.Order.{order, index_of, place, up_from, grade, grades_below, size, start}
use Rattle.masks.specs.Flavor.{metric_of}
use Rattle.masks.specs.Outcome.{shape_of, unless, refusal, nought}
use Rattle.masks.specs.Shape.{coef, negates, resized, promotes, promoted, conform, conformed, conformed_shape}
use Rattle.masks.proofs.ListLaws.{upto, upto_at, both}
use Rattle.product.specs.declared.mode.Mode.{Mode}
use Rattle.product.specs.declared.mode.Mode.TheVariants.{All, Left, Right, Inner, Outer}
use Rattle.product.specs.Mode.{takes, flavor_for, pair_metric}
use Rattle.product.specs.Pairwise.{metric_at, place_at}
use Rattle.product.specs.inner.Pairwise.{gathered, sum_at}
use Rattle.product.specs.Products.{Counted, multiplied}
use Rattle.product.specs.Accuracy.{contributes, contributing, exact_sizes, exact_sum, Holds, Fitting, InBounds, LiesWithin, ExactCase, IsExactly, EqualNumbers, times}
use Rattle.product.specs.Reverse.{reversed}
use Rattle.product.proofs.ProductsRefusals.{refused_by}
use Rattle.product.proofs.ProductsLaws.{multiplied_same}
use Rattle.product.proofs.ProductsConformed.{as_conformed}
use Rattle.product.proofs.PairwiseLaws.{product_gathered}
use Rattle.product.proofs.AccuracyLaws.{bound, exact_at, exact}
use Rattle.product.proofs.AccuracyGrouping.{grouping, reversing}

-- ---- the values

-- 1.5, -2, 0.25 and 3
a : List Float
a = fin false 3 (negsuc 0) ∷ fin true 1 (pos 1) ∷ fin false 1 (negsuc 1) ∷ fin false 3 (pos 0) ∷ []

-- 0.5, 1, -1.25 and 2
b : List Float
b = fin false 1 (negsuc 0) ∷ fin false 1 (pos 0) ∷ fin true 5 (negsuc 1) ∷ fin false 1 (pos 1) ∷ []

-- -0.75, 3, 1 and 0.5
c : List Float
c = fin true 3 (negsuc 1) ∷ fin false 3 (pos 0) ∷ fin false 1 (pos 0) ∷ fin false 1 (negsuc 0) ∷ []

-- 0.1, -0.1, 2 ^ 400 and -2 ^ -400
wide : List Float
wide = fin false 3602879701896397 (negsuc 54) ∷ fin true 3602879701896397 (negsuc 54) ∷ fin false 1 (pos 400) ∷ fin true 1 (negsuc 399) ∷ []

abbrev plane : Flavor → Shape
plane f = shape_of 2 f

-- The output has room for a value, and no more.
fitting : (f : Flavor) → Fitting (plane f) 4
fitting f = record { small = lit≤ tt; roomy = lit≤ tt }

-- ---- premises that are tested

-- Four coefficients that f64 holds.
is_value : List Float → Bool
is_value x = eqb (length x) 4 && upto (λ i. fits binary64 (get_or x i nan)) 4

holds : (x : List Float) → T (is_value x) → Holds 2 x
unfolding is_value
holds x t =
    let u = both (eqb (length x) 4) (upto (λ i. fits binary64 (get_or x i nan)) 4) t in
    record { many = eqb→eq (length x) 4 u.0; held = λ i h. upto_at (λ i. fits binary64 (get_or x i nan)) 4 i u.1 h }

-- Zero, or from 2 ^ -400 to 2 ^ 400 in size.
is_sized : Float → Bool
is_sized nan = false
is_sized (inf s) = false
is_sized (fin s zero e) = true
is_sized (fin s (suc m) e) = leb (down e) (suc m * up e * 2 ^ 400) && leb (suc m * up e) (2 ^ 400 * down e)

sized : (x : Float) → T (is_sized x) → Sized 400 x
unfolding is_sized
sized nan t = absurd t
sized (inf s) t = absurd t
sized (fin s zero e) t = tt
sized (fin s (suc m) e) t =
    let u = both (leb (down e) (suc m * up e * 2 ^ 400)) (leb (suc m * up e) (2 ^ 400 * down e)) t in
    (leb→le (down e) (suc m * up e * 2 ^ 400) u.0, leb→le (suc m * up e) (2 ^ 400 * down e) u.1)

in_bounds : (x : List Float) → T (upto (λ i. is_sized (get_or x i nan)) 4) → InBounds 2 x
in_bounds x t i h = sized (get_or x i nan) (upto_at (λ i. is_sized (get_or x i nan)) 4 i t h)

-- A finite multiple of 2 ^ -p.
is_multiple : ℕ → Float → Bool
is_multiple p nan = false
is_multiple p (inf s) = false
is_multiple p (fin s m e) = eqb (m * up e * 2 ^ p % down e) 0

multiple : (p : ℕ) (x : Float) → T (is_multiple p x) → Whole p x
unfolding is_multiple
multiple p nan t = absurd t
multiple p (inf s) t = absurd t
multiple p (fin s m e) t = whole_if p s m e (eqb→eq (m * up e * 2 ^ p % down e) 0 t)

-- The exact case.
is_exact : Mode → Flavor → ℕ → ℕ → List Float → List Float → Bool
is_exact mode f p q x y =
    leb (p + q) 46
    && (upto (λ i. is_multiple p (get_or x i nan)) 4 && (upto (λ i. is_multiple q (get_or y i nan)) 4 && upto (λ k. leb (exact_sizes mode f 2 k p q x y) (2 ^ 53)) 4))

exact_case : (mode : Mode) (f : Flavor) (p q : ℕ) (x y : List Float) → T (is_exact mode f p q x y) → ExactCase mode f 2 x y
unfolding is_exact
exact_case mode f p q x y t =
    let t1 = both (leb (p + q) 46) _ t in
    let t2 = both (upto (λ i. is_multiple p (get_or x i nan)) 4) _ t1.1 in
    let t3 = both (upto (λ i. is_multiple q (get_or y i nan)) 4) _ t2.1 in
    record {
      p = p;
      q = q;
      fine = leb→le (p + q) 46 t1.0;
      left = λ i h. multiple p (get_or x i nan) (upto_at (λ i. is_multiple p (get_or x i nan)) 4 i t2.0 h);
      right = λ i h. multiple q (get_or y i nan) (upto_at (λ i. is_multiple q (get_or y i nan)) 4 i t3.0 h);
      small = λ k h. leb→le (exact_sizes mode f 2 k p q x y) (2 ^ 53) (upto_at (λ k. leb (exact_sizes mode f 2 k p q x y) (2 ^ 53)) 4 k t3.1 h);
    }

a_holds : Holds 2 a
a_holds = holds a (unfold is_value a fits in tt)

b_holds : Holds 2 b
b_holds = holds b (unfold is_value b fits in tt)

c_holds : Holds 2 c
c_holds = holds c (unfold is_value c fits in tt)

wide_holds : Holds 2 wide
wide_holds = holds wide (unfold is_value wide fits in tt)

-- ---- the bound, for each mode and flavor

bounded : (mode : Mode) (f : Flavor) (k : ℕ) → k < 4
    → LiesWithin (get_or (multiplied mode (plane f) (plane f) a wide 4).outcome.coefs k nan)
    (suc (contributing mode f 2 k) * exact_sizes mode f 2 k 452 452 a wide + 2 ^ 53 * 2 ^ 858) (exact_sum mode f 2 k 452 452 a wide)
bounded mode f =
    bound mode (plane f) 4 a wide (fitting f) a_holds wide_holds (in_bounds a (unfold is_sized a in tt)) (in_bounds wide (unfold is_sized wide in tt))

-- ---- the exact case

-- Three flavors, by number: Vanilla, Projective, and from 2 on Cl(0,1,1).
sample : ℕ → Flavor
sample zero = Vanilla
sample (suc zero) = Projective
sample (suc (suc n)) = Cl 0 1 1

-- The product's coefficients as they are worked out.
abbrev worked : Flavor → List Float → List Float → List Float
worked f x y = map (λ k. snap binary64 (sum_at All f 2 x y binary64 k 4)) (up_from 0 4)

times_worked : (f : Flavor) (x y : List Float) → Holds 2 x → Holds 2 y → times (plane f) 4 x y ≡ worked f x y
times_worked f x y u v =
    ap (λ (o : Counted). o.outcome.coefs) (multiplied_same All (plane f) x y 4 (fitting f) u.many v.many) ∙ product_gathered All f 2 binary64 x y

-- In Vanilla a b is -7.5625, -3.75, -8.75 and 6.75.
ab_worked : times (plane Vanilla) 4 a b ≡ fin true 121 (negsuc 3) ∷ fin true 15 (negsuc 1) ∷ fin true 35 (negsuc 1) ∷ fin false 27 (negsuc 1) ∷ []
ab_worked =
    times_worked Vanilla a b a_holds b_holds
    ∙ unfold up_from sum_at gathered snap round add mul pair_metric takes flavor_for metric swaps shared turned has total count sign pow one metric_of order index_of place grade grades_below size start ones ones_in a b in refl

-- A test passes for each mode.
each : (Mode → Bool) → Bool
each t = t All && (t Left && (t Right && (t Inner && t Outer)))

each_at : (t : Mode → Bool) → T (each t) → (mode : Mode) → T (t mode)
unfolding each
each_at t h mode =
    let p = both (t All) (t Left && (t Right && (t Inner && t Outer))) h in
    let q = both (t Left) (t Right && (t Inner && t Outer)) p.1 in
    let r = both (t Right) (t Inner && t Outer) q.1 in
    let s = both (t Inner) (t Outer) r.1 in
    elim mode as (λ m. T (t m)) [ All ↦ p.0 | Left ↦ q.0 | Right ↦ r.0 | Inner ↦ s.0 | Outer ↦ s.1 ]

-- The coefficients are multiples of 2 ^ -2, and those of a product of multiples of 2 ^ -4.
is_tested : Flavor → Bool
is_tested f =
    each (λ m. is_exact m f 2 2 a b) && (is_exact All f 4 2 (worked f a b) c && (is_exact All f 2 2 b c && is_exact All f 2 4 a (worked f b c)))

tested : (n : ℕ) → T (is_tested (sample n))
unfolding sample is_tested each is_exact is_multiple exact_sizes contributes metric_at place_at up_from sum_at gathered snap round add mul pair_metric takes within flavor_for metric swaps shared turned has total count sign pow one metric_of order index_of place grade grades_below size start ones ones_in a b c
tested zero = tt
tested (suc zero) = tt
tested (suc (suc n)) = tt

module _ (n : ℕ) where
  abbrev f : Flavor
  f = sample n

  ab_exact : (mode : Mode) → ExactCase mode f 2 a b
  unfolding is_tested
  ab_exact mode = exact_case mode f 2 2 a b (each_at (λ m. is_exact m f 2 2 a b) (both (each (λ m. is_exact m f 2 2 a b)) _ (tested n)).0 mode)

  exactly : (mode : Mode) (k : ℕ) → k < 4 → IsExactly 4 (get_or (multiplied mode (plane f) (plane f) a b 4).outcome.coefs k nan) (exact_sum mode f 2 k 2 2 a b)
  unfolding ab_exact exact_case
  exactly mode = exact mode (plane f) 4 a b (fitting f) a_holds b_holds (ab_exact mode)

  grouped : EqualNumbers 2 (times (plane f) 4 (times (plane f) 4 a b) c) (times (plane f) 4 a (times (plane f) 4 b c))
  unfolding is_tested
  grouped =
      let t1 = both (is_exact All f 4 2 (worked f a b) c) _ (both (each (λ m. is_exact m f 2 2 a b)) _ (tested n)).1 in
      let t2 = both (is_exact All f 2 2 b c) _ t1.1 in
      grouping (plane f) 4 (fitting f) a b c a_holds b_holds c_holds (ab_exact All)
      (rw (times_worked f a b a_holds b_holds) (exact_case All f 4 2 (worked f a b) c t1.0)) (exact_case All f 2 2 b c t2.0)
      (rw (times_worked f b c b_holds c_holds) (exact_case All f 2 4 a (worked f b c) t2.1))

  reversed_either_way : EqualNumbers 2 (reversed 2 (times (plane f) 4 a b)) (times (plane f) 4 (reversed 2 b) (reversed 2 a))
  reversed_either_way = reversing (plane f) 4 (fitting f) a b a_holds b_holds (ab_exact All)

-- ---- one coefficient alone is exact

-- 2 ^ 53, 1, 0 and 0
large : List Float
large = fin false 1 (pos 53) ∷ fin false 1 (pos 0) ∷ nought ∷ nought ∷ []

-- 2, 0, 0 and 0
two : List Float
two = fin false 1 (pos 1) ∷ nought ∷ nought ∷ nought ∷ []

-- The T of coefficient 0 is 2 ^ 54, above the 2 ^ 53 of the exact case, and that of coefficient 1 is 2.
sizes : (exact_sizes All Vanilla 2 0 0 0 large two ≡ 2 ^ 54) × (exact_sizes All Vanilla 2 1 0 0 large two ≡ 2)
unfolding exact_sizes contributes metric_at place_at pair_metric takes flavor_for metric swaps shared turned has total count sign pow one metric_of order index_of place grade grades_below size start ones ones_in large two
sizes = (refl, refl)

exactly_at : IsExactly 0 (get_or (times (plane Vanilla) 4 large two) 1 nan) (exact_sum All Vanilla 2 1 0 0 large two)
exactly_at =
    exact_at All (plane Vanilla) 4 large two (fitting Vanilla) (holds large (unfold is_value large fits in tt)) (holds two (unfold is_value two fits in tt)) 0 0 (lit≤ tt)
    (λ i h. multiple 0 (get_or large i nan) (upto_at (λ i. is_multiple 0 (get_or large i nan)) 4 i (unfold is_multiple large in tt) h))
    (λ i h. multiple 0 (get_or two i nan) (upto_at (λ i. is_multiple 0 (get_or two i nan)) 4 i (unfold is_multiple two in tt) h))
    1 (lit≤ tt) (rw sizes.1 (lit≤ tt))

-- ---- two values that have to be conformed

-- Vanilla 3, 4 by Projective 0.5, of one dimension and of none, is Projective 3, 0, 4, 0 by 0.5, 0, 0, 0.
conformed_first : (mode : Mode)
    → multiplied mode (shape_of 1 Vanilla) (shape_of 0 Projective) (fin false 3 (pos 0) ∷ fin false 1 (pos 2) ∷ []) (fin false 1 (negsuc 0) ∷ []) 4
    ≡ multiplied mode (plane Projective) (plane Projective) (fin false 3 (pos 0) ∷ nought ∷ fin false 1 (pos 2) ∷ nought ∷ []) (fin false 1 (negsuc 0) ∷ nought ∷ nought ∷ nought ∷ []) 4
unfolding conform conformed conformed_shape resized promoted promotes negates coef unless refusal order grades_below grade index_of place start size ones ones_in
conformed_first mode = as_conformed mode (shape_of 1 Vanilla) (shape_of 0 Projective) _ _ 4 (refused_by mode (shape_of 1 Vanilla) (shape_of 0 Projective) _ _ 4)
