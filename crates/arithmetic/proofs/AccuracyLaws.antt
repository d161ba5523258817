-- How near to exact `*` is, by a scalar or not, and where it agrees with the pairwise product. Assumes nothing.
use mathlib.Core.Path.{◌≡◌, refl, sym, ap, ap₂, ◌∙◌, subst}
use mathlib.Core.Bool.{Bool, true, false, ◌||◌, beq, cond}
use mathlib.Core.List.{List, map}
use Prim.Native.Nat.{ℕ, zero, suc, ◌+◌, ◌-◌, ◌*◌, ◌^◌, ◌≤◌, ◌<◌}
use native.Mathlib.Nat.{le_trans, mul_comm, mul-zero, zero-add}
use native.Mathlib.Omega.{arith}
use lib.Dec.{T, eqb, eqb→eq, lit≤, lit<}
use lib.Pow.{pow_pos}
use lib.Ieee.{Float, nan, inf, fin, binary64, unlike, up, down, level, round, eq, mul, fits}
use lib.Ieee.Fits.{down_pos}
use lib.Ieee.Exact.{HasValue}
use lib.IntN.{ℤ, pos, neg_ℤ, ◌-ℤ◌, +ℤ_idl, +ℤ_idr}
use lib.ListN.{length, get_or}
use Rattle.clifford.proofs.MetricLaws.{metric_zero_r}
use Rattle.rounding.specs.Signed.{above_zero, below_zero, Within}
use Rattle.rounding.specs.Round.{rnd, Near}
use Rattle.rounding.specs.Operation.{cap}
use Rattle.rounding.specs.Value.{size_in}
use Rattle.rounding.specs.Terms.{Term, prod, product_sign, product_size, rise, fall, ups, downs, OnGrid}
use Rattle.rounding.specs.Sized.{InRange}
use Rattle.rounding.proofs.RoundLaws.{rnd_near, rnd_small}
use Rattle.rounding.proofs.SignedLaws.{parts}
use Rattle.rounding.proofs.FitsLaws.{unique}
use Rattle.rounding.proofs.OperationLaws.{under_cap, times_unit}
use Rattle.rounding.proofs.TermsLaws.{prod_law, round_cap}
use Rattle.rounding.proofs.SizedLaws.{range_grid, product_le}
use Rattle.masks.specs.declared.flavor.Flavor.{Flavor}
use Rattle.masks.specs.declared.shape.Shape.{Shape}
use Rattle.masks.specs.Flavor.{metric_of}
use Rattle.masks.specs.Outcome.{Outcome}
use Rattle.masks.proofs.ListLaws.{get_d_map, both}
use Rattle.masks.proofs.OrderLaws.{place_zero, order_at, order_place}
use Rattle.product.specs.declared.mode.Mode.TheVariants.{All}
use Rattle.product.specs.Mode.{takes, flavor_for, pair_metric}
use Rattle.product.specs.Pairwise.{mask_at}
use Rattle.product.specs.inner.Pairwise.{gathered}
use Rattle.product.specs.Accuracy.{value_in, above, beneath, exact_sizes, exact_sum, Holds, Fitting, times, InBounds, LiesWithin, ExactCase, IsExactly, EqualNumbers}
use Rattle.product.proofs.AccuracyUnits.{sign_is, size_is, value_whole, equal_numbers}
use Rattle.product.proofs.AccuracyExact.{exact_sizes_total, exact_sum_parts}
use Rattle.product.proofs.AccuracyLaws.{bound, exact}
use Rattle.arithmetic.specs.Scalar.{is_zero, is_scalar}
use Rattle.arithmetic.specs.Scale.{unity, scaled}
use Rattle.arithmetic.specs.Operators.{multiplication}
use Rattle.arithmetic.specs.Accuracy.{star_contributing}
use Rattle.arithmetic.proofs.ScalarLaws.{scalar_at, if_scalar_lem}
use Rattle.arithmetic.proofs.OperatorsLaws.{multiply_other, multiply_same}

-- ---- numbers that equal 0 or 1

-- Numbers that are equal have one size, and one sign unless it is 0.
level_parts : (s t : Bool) (a b : ℕ) → T (level s a t b) → (a ≡ b) × T (beq s t || eqb a 0)
level_parts s t a b h = let u = both (eqb a b) (beq s t || eqb a 0) h in (eqb→eq a b u.0, u.1)

size_zero : (u : ℕ) (x : Float) → T (is_zero x) → size_in u x ≡ 0
unfolding eq
size_zero u nan h = absurd h
size_zero u (inf s) h = absurd h
size_zero u (fin s m e) h = size_is u (fin s m e) s 0 (refl, none (m * up e) (2 ^ u) (down e) (level_parts s false (m * up e * 1) (0 * 1 * down e) h).0)
  where
    none : (a c d : ℕ) → a * 1 ≡ 0 * 1 * d → a * c ≡ 0 * d
    none zero c d q = omega arith
    none (suc a) c d q = absurd (omega arith)

is_one : (x : Float) → T (fits binary64 x) → T (eq x unity) → x ≡ unity
unfolding eq
is_one nan t h = absurd h
is_one (inf s) t h = absurd h
is_one (fin s m e) t h =
    let q = level_parts s false (m * up e * 1) (1 * 1 * down e) h in
    unique binary64 (fin s m e) unity false 1 1 (lit< tt) t (unfold fits in tt) (plus s (m * up e * 1) (down e) q.0 (down_pos e) q.1, q.0) (refl, refl)
  where
    plus : (s : Bool) (a d : ℕ) → a ≡ 1 * 1 * d → 0 < d → T (beq s false || eqb a 0) → s ≡ false
    plus false a d q l h = refl
    plus true a d q l h = absurd (omega (arith, eqb→eq a 0 h))

times_one : (x : Float) → T (fits binary64 x) → mul binary64 x unity ≡ x
unfolding mul
times_one x t = swap x ∙ times_unit binary64 false x t
  where
    sign : (s : Bool) → unlike s false ≡ unlike false s
    sign true = refl
    sign false = refl

    swap : (x : Float) → mul binary64 x unity ≡ mul binary64 unity x
    swap nan = refl
    swap (inf s) = ap inf (sign s)
    swap (fin s m e) = λ i. round binary64 (sign s i) (mul_comm (m * up e) 1 i) (mul_comm (down e) 1 i)

-- By 1.0 too, each coefficient is the product.
scaled_at_lem : (f : Float) (a : List Float) (k : ℕ) → T (fits binary64 f) → T (fits binary64 (get_or a k nan)) → k < length a → get_or (scaled f a) k nan ≡ mul binary64 (get_or a k nan) f
unfolding scaled
scaled_at_lem f a k t u h = go (eq f unity) (is_one f t)
  where
    go : (b : Bool) → (T b → f ≡ unity) → get_or (cond b a (map (λ x. mul binary64 x f) a)) k nan ≡ mul binary64 (get_or a k nan) f
    go true e = rw (e tt) (sym (times_one (get_or a k nan) u))
    go false e = get_d_map (λ x. mul binary64 x f) a k nan nan h

-- ---- one product, rounded once

-- The whole number of a sign and a size.
abbrev signed : Bool → ℕ → ℤ
signed s n = cond s (neg_ℤ (pos n)) (pos n)

signed_parts : (s : Bool) (n : ℕ) → (above (signed s n) ≡ above_zero s n) × (beneath (signed s n) ≡ below_zero s n)
unfolding above beneath
signed_parts false n = (refl, refl)
signed_parts true zero = (refl, refl)
signed_parts true (suc n) = (refl, refl)

difference : (s : Bool) (n : ℕ) → pos (above_zero s n) -ℤ pos (below_zero s n) ≡ signed s n
difference false n = +ℤ_idr (pos n)
difference true n = +ℤ_idl (neg_ℤ (pos n))

-- One rounding is less than the bound.
within_once : (Q X R n Z : ℕ) (s : Bool) → Near Q X R → Within Q (suc n * X + Q * Z) (above_zero s R) (below_zero s R) (above_zero s X) (below_zero s X)
within_once Q X R n Z false h = (omega arith, omega arith)
within_once Q X R n Z true h = (omega arith, omega arith)

near_product : (t : Term) → InRange binary64 400 t
    → LiesWithin (prod binary64 t) (suc 1 * product_size 452 452 t + 2 ^ 53 * 2 ^ 858) (signed (product_sign t) (product_size 452 452 t))
near_product t r =
    let s = product_sign t in
    let x = product_size 452 452 t in
    rw ((signed_parts s x).0, (signed_parts s x).1)
    record {
      sign = s;
      amount = rnd 53 x;
      value = prod_law binary64 452 452 t (lit≤ tt) (range_grid binary64 400 t r) (round_cap binary64 x _ (cap binary64 904) (product_le binary64 400 t r) (lit< tt));
      near = within_once (2 ^ 53) x (rnd 53 x) 1 (2 ^ 858) s (rnd_near 53 x);
    }

exact_product : (p q : ℕ) (t : Term) → p + q ≤ 46 → OnGrid binary64 p q t → product_size p q t ≤ 2 ^ 53 → IsExactly (p + q) (prod binary64 t) (signed (product_sign t) (product_size p q t))
unfolding value_in
exact_product p q t l g c =
    let s = product_sign t in
    let x = product_size p q t in
    let e : rnd 53 x ≡ x = rnd_small 53 x (lit< tt) c in
    let v : HasValue (prod binary64 t) s x (2 ^ (p + q)) = rw e at (prod_law binary64 p q t (le_trans l (lit≤ tt)) g (rw e (under_cap binary64 (p + q) x c))) in
    (value_whole (p + q) (prod binary64 t) s x v, rw (sign_is (p + q) (prod binary64 t) s x v, size_is (p + q) (prod binary64 t) s x v))

-- ---- a sum of which only the first term has a size

module _ (p q : ℕ) (ts : ℕ → Term) where
  first_only : (n : ℕ) → ((i : ℕ) → i < n → product_size p q (ts (suc i)) ≡ 0) → (ups p q ts (suc n) ≡ ups p q ts 1) × (downs p q ts (suc n) ≡ downs p q ts 1)
  first_only zero h = (refl, refl)
  first_only (suc n) h =
      let r = first_only n (λ i l. h i (omega arith)) in
      let t = ts (suc n) in
      let z = h n (omega arith) in
      let halves = parts (product_sign t) (product_size p q t) in
      (none t.live _ _ (omega arith) ∙ r.0, none t.live _ _ (omega arith) ∙ r.1)
    where
      none : (b : Bool) (u x : ℕ) → x ≡ 0 → cond b (u + x) u ≡ u
      none true u x z = omega arith
      none false u x z = refl

-- ---- the pairs of a scalar on the right

-- Mask 0 is at place 0.
mask_zero : (d : ℕ) → mask_at d 0 ≡ 0
mask_zero d = ap (mask_at d) (sym (place_zero d)) ∙ order_place d 0 (pow_pos d)

-- The pair of a's place k with the scalar.
abbrev pub pair_of : List Float → List Float → ℕ → Term
pair_of a b k = record { live = true; minus = false; left = get_or a k nan; right = get_or b 0 nan }

module _ (flavor : Flavor) (d : ℕ) (a b : List Float) (k : ℕ) (h : k < 2 ^ d) where
  first_pair : gathered All flavor d a b k 0 ≡ pair_of a b k
  unfolding gathered pair_metric takes flavor_for
  first_pair = rw (mask_zero d, (order_at d k h).back, metric_zero_r (metric_of flavor) d (mask_at d k))

  module _ (z : (i : ℕ) → 0 < i → i < 2 ^ d → is_zero (get_or b i nan) ≡ true) (p q : ℕ) where
    -- Of b's places the first alone brings something.
    nothing : (i : ℕ) → suc i < 2 ^ d → product_size p q (gathered All flavor d a b k (suc i)) ≡ 0
    unfolding gathered
    nothing i l = rw (size_zero q (get_or b (suc i) nan) (subst T (sym (z (suc i) (omega arith) l)) tt)) (mul-zero _)

    terms : (ups p q (gathered All flavor d a b k) (2 ^ d) ≡ rise p q (pair_of a b k)) × (downs p q (gathered All flavor d a b k) (2 ^ d) ≡ fall p q (pair_of a b k))
    terms =
        let ts = gathered All flavor d a b k in
        let e : 2 ^ d ≡ suc (2 ^ d - 1) = omega (arith, pow_pos d) in
        let r = first_only p q ts (2 ^ d - 1) (λ i l. nothing i (omega arith)) in (
          ap (ups p q ts) e ∙ r.0 ∙ ap (λ (t : Term). cond t.live (0 + rise p q t) 0) first_pair ∙ zero-add _,
          ap (downs p q ts) e ∙ r.1 ∙ ap (λ (t : Term). cond t.live (0 + fall p q t) 0) first_pair ∙ zero-add _,
        )

    -- T is the size of that pair's product.
    pub scalar_sizes : exact_sizes All flavor d k p q a b ≡ product_size p q (pair_of a b k)
    scalar_sizes =
        exact_sizes_total All flavor d k h a b p q ∙ ap₂ (λ (x y : ℕ). x + y) terms.0 terms.1 ∙ parts (product_sign (pair_of a b k)) (product_size p q (pair_of a b k))

    -- The exact sum is its product.
    pub scalar_sum : exact_sum All flavor d k p q a b ≡ signed (product_sign (pair_of a b k)) (product_size p q (pair_of a b k))
    scalar_sum =
        exact_sum_parts All flavor d k h a b p q ∙ ap₂ (λ (x y : ℕ). pos x -ℤ pos y) terms.0 terms.1 ∙ difference (product_sign (pair_of a b k)) (product_size p q (pair_of a b k))

-- ---- `*`

by_test : {A : Type 0} (b : Bool) → (b ≡ true → A) → (b ≡ false → A) → A
by_test true f g = f refl
by_test false f g = g refl

module _ (s : Shape) (room : ℕ) (t : Fitting s room) (a b : List Float) (ha : Holds s.dims a) (hb : Holds s.dims b) where
  first : 0 < 2 ^ s.dims
  first = pow_pos s.dims

  by_other : is_scalar b ≡ false → (multiplication s s a b room).coefs ≡ times s room a b
  by_other e = ap (λ (o : Outcome). o.coefs) (multiply_other s s a b room hb.many e)

  by_scalar : is_scalar b ≡ true → (k : ℕ) → k < 2 ^ s.dims → get_or (multiplication s s a b room).coefs k nan ≡ prod binary64 (pair_of a b k)
  by_scalar e k h =
      ap (λ (o : Outcome). get_or o.coefs k nan) (multiply_same s a b room (record { small = t.small; counted = ha.many; roomy = t.roomy }) hb.many)
      ∙ ap (λ (xs : List Float). get_or xs k nan) (if_scalar_lem s b _ _ e)
      ∙ scaled_at_lem (get_or b 0 nan) a k (hb.held 0 first) (ha.held k h) (omega (arith, ha.many))
      ∙ ap (λ (x : Float). mul binary64 x (get_or b 0 nan)) (sym (times_unit binary64 false (get_or a k nan) (ha.held k h)))

  zeros : is_scalar b ≡ true → (i : ℕ) → 0 < i → i < 2 ^ s.dims → is_zero (get_or b i nan) ≡ true
  zeros e i l h = scalar_at b e i l (omega (arith, hb.many))

  -- Demand 3's bound, with n = 1 by a scalar: in units of 2 ^ -904, of which 2 ^ -46 is 2 ^ 858.
  pub star_bound : InBounds s.dims a → InBounds s.dims b → (k : ℕ) → k < 2 ^ s.dims
      → LiesWithin (get_or (multiplication s s a b room).coefs k nan)
      (suc (star_contributing s.flavor s.dims k b) * exact_sizes All s.flavor s.dims k 452 452 a b + 2 ^ 53 * 2 ^ 858)
      (exact_sum All s.flavor s.dims k 452 452 a b)
  star_bound ia ib k h =
      by_test (is_scalar b)
      (λ e.
      rw (e, by_scalar e k h, scalar_sizes s.flavor s.dims a b k h (zeros e) 452 452, scalar_sum s.flavor s.dims a b k h (zeros e) 452 452)
      (near_product (pair_of a b k) (ha.held k h, hb.held 0 first, ia k h, ib 0 first)))
      (λ e. rw (e, by_other e) (bound All s room a b t ha hb ia ib k h))

  -- In the exact case each coefficient is the exact sum.
  pub star_exact : (c : ExactCase All s.flavor s.dims a b) (k : ℕ) → k < 2 ^ s.dims
      → IsExactly (c.p + c.q) (get_or (multiplication s s a b room).coefs k nan) (exact_sum All s.flavor s.dims k c.p c.q a b)
  star_exact c k h =
      by_test (is_scalar b)
      (λ e.
      rw (by_scalar e k h, scalar_sum s.flavor s.dims a b k h (zeros e) c.p c.q)
      (exact_product c.p c.q (pair_of a b k) c.fine (ha.held k h, c.left k h, c.right 0 first)
      (rw (← scalar_sizes s.flavor s.dims a b k h (zeros e) c.p c.q) (c.small k h))))
      (λ e. rw (by_other e) (exact All s room a b t ha hb c k h))

  -- There `*` is the pairwise product, as numbers, whether a factor is scalar or not.
  pub star_agrees : ExactCase All s.flavor s.dims a b → EqualNumbers s.dims (multiplication s s a b room).coefs (times s room a b)
  star_agrees c k h =
      let x = star_exact c k h in
      let y = exact All s room a b t ha hb c k h in
      equal_numbers (c.p + c.q) _ _ x.0 y.0 (x.1 ∙ sym y.1)
