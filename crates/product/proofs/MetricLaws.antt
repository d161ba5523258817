-- The metric of a pair by counts of ones, as specs/inner/Metric has it, is the metric of specs/Mode: 0 where the pair shares a null vector, else the sign of a
-- count of ones. Assumes nothing.
use mathlib.Core.Path.{◌≡◌, refl, sym, ◌∙◌, ap, ap₂}
use mathlib.Core.Bool.{Bool, true, false, not, ◌&&◌, ◌||◌, cond, true≢false, false≢true}
use mathlib.Core.Logic.{◌≢◌, inl, inr, ⊎_elim}
use Prim.Native.Nat.{ℕ, zero, suc, ◌+◌, ◌*◌, ◌/◌, ◌%◌, ◌^◌, ◌<◌, ◌≤◌}
use native.Mathlib.Omega.{arith}
use native.Mathlib.Nat.{mod-lt, zero-lt-suc, lt_of_lt_of_le, lt_of_le_of_lt}
use lib.Dec.{eqb, ltb, lit<, lit≤}
use lib.Pow.{pow_pos, pow_mono}
use lib.Bits.{bit_and, bit_xor, and_le_l, xor_lt}
use lib.Count.{ones}
use lib.IntN.{ℤ, pos, negsuc, ◌*ℤ◌, pow, one}
use borrow.Author.Tests.{not-false, eqb-true, eqb-false, ltb-true, lt-ltb}
use Rattle.clifford.specs.Blade.{Blade, has, ◌⊻◌, ◌⊕◌, count}
use Rattle.clifford.specs.Sign.{sign}
use Rattle.clifford.specs.Metric.{swaps, shared, turned, metric}
use Rattle.clifford.specs.Pairs.{nonzero}
use Rattle.clifford.proofs.Ring.{product, mul_cross, mul_one}
use Rattle.clifford.proofs.BladeLaws.{⊻-false, has_zero, has_suc, has_beyond, has_xor, has_and, has_ext}
use Rattle.clifford.proofs.CountLaws.{count_ext, count_ones, swaps_zero, swaps_suc}
use Rattle.clifford.proofs.SignLaws.{sign_even, sign_odd, sign_add}
use Rattle.clifford.proofs.PairsLaws.{nonzero_metric}
use Rattle.clifford.proofs.Counting.{every, every_at}
use Rattle.masks.specs.declared.flavor.Flavor.{Flavor}
use Rattle.masks.specs.declared.flavor.Flavor.TheVariants.{Cl}
use Rattle.masks.specs.Flavor.{metric_of}
use Rattle.masks.proofs.ListLaws.{split}
use Rattle.product.specs.declared.mode.Mode.{Mode}
use Rattle.product.specs.declared.metric.Squares.{Squares}
use Rattle.product.specs.declared.metric.Blade as Declared
use Rattle.product.specs.Mode.{takes, flavor_for, pair_metric}
use Rattle.product.specs.inner.Pairwise.{negative}
use Rattle.product.specs.inner.Metric.{mask_of, squares_below, odd_below, blade_of, turns}
use Rattle.product.proofs.MetricSigns.{Unital, unital_flavor}

-- 1 for a test that passes.
abbrev bit : Bool → ℕ
bit x = cond x 1 0

-- ---- masks of the bits that pass a test

-- The lowest bit, and the others one place down.
mask_low : (n : ℕ) (t : ℕ → Bool) → mask_of (suc n) t ≡ mask_of n (λ i. t (suc i)) * 2 + bit (t 0)
unfolding mask_of
mask_low zero t = go (t 0)
  where
    go : (x : Bool) → 0 + bit x ≡ 0 * 2 + bit x
    go true = refl
    go false = refl
mask_low (suc n) t = go (t (suc n)) (mask_of (suc n) t) (mask_of n (λ i. t (suc i))) (bit (t 0)) (mask_low n t)
  where
    with_top : (l m k : ℕ) → l ≡ m * 2 + k → l + 2 ^ suc n ≡ (m + 2 ^ n) * 2 + k
    with_top l m k e = omega arith

    go : (x : Bool) (l m k : ℕ) → l ≡ m * 2 + k → l + cond x (2 ^ suc n) 0 ≡ (m + cond x (2 ^ n) 0) * 2 + k
    go true l m k e = with_top l m k e
    go false l m k e = omega arith

pub mask_lt : (n : ℕ) (t : ℕ → Bool) → mask_of n t < 2 ^ n
unfolding mask_of
mask_lt zero t = omega arith
mask_lt (suc n) t = go (t n) (mask_lt n t)
  where
    go : (x : Bool) → mask_of n t < 2 ^ n → mask_of n t + cond x (2 ^ n) 0 < 2 ^ suc n
    go true h = omega arith
    go false h = omega arith

-- `mask_of n test` has the bits below n that pass the test.
pub mask_has : (n : ℕ) (t : ℕ → Bool) (i : ℕ) → i < n → has (mask_of n t) i ≡ t i
mask_has zero t i h = absurd (omega arith)
mask_has (suc n) t zero h = has_zero (mask_of (suc n) t) ∙ ap (λ (m : ℕ). eqb (m % 2) 1) (mask_low n t) ∙ lowest (t 0) (mask_of n (λ i. t (suc i)))
  where
    lowest : (x : Bool) (m : ℕ) → eqb ((m * 2 + bit x) % 2) 1 ≡ x
    lowest true m = let e : (m * 2 + 1) % 2 ≡ 1 = omega arith in rw e
    lowest false m = let e : (m * 2 + 0) % 2 ≡ 0 = omega arith in rw e
mask_has (suc n) t (suc i) h =
    has_suc (mask_of (suc n) t) i ∙ ap (λ (m : ℕ). has (m / 2) i) (mask_low n t) ∙ ap (λ (m : ℕ). has m i) (half (t 0) (mask_of n (λ i. t (suc i))))
    ∙ mask_has n (λ i. t (suc i)) i (omega arith)
  where
    half : (x : Bool) (m : ℕ) → (m * 2 + bit x) / 2 ≡ m
    half true m = omega arith
    half false m = omega arith

mask_ext : (n : ℕ) (t u : ℕ → Bool) → ((i : ℕ) → i < n → t i ≡ u i) → mask_of n t ≡ mask_of n u
unfolding mask_of
mask_ext zero t u h = refl
mask_ext (suc n) t u h = ap₂ (λ (m : ℕ) (x : Bool). m + cond x (2 ^ n) 0) (mask_ext n t u (λ i l. h i (omega arith))) (h n (omega arith))

-- The vectors of a Clifford flavor: the first z square to 0, the next n to -1.
pub squares_cl : (p n z : ℕ) → record { null = mask_of 9 (λ i. ltb i z); minus = bit_xor (mask_of 9 (λ i. ltb i (z + n))) (mask_of 9 (λ i. ltb i z)) } ≡ squares_below 9 (Cl p n z)
unfolding squares_below metric_of
squares_cl p n z =
    ap₂ (λ (x y : ℕ). record { null = x; minus = y }) (mask_ext 9 _ _ (λ i l. null_at (ltb i z) (ltb i (z + n))))
    (has_ext 9 _ _ (xor_lt 9 _ _ (mask_lt 9 _) (mask_lt 9 _)) (mask_lt 9 _)
    (λ i l. ap (λ (v : ℕ → Bool). v i) (has_xor _ _) ∙ ap₂ (λ x y. x ⊻ y) (mask_has 9 _ i l) (mask_has 9 _ i l) ∙ go i (ltb i z) refl ∙ sym (mask_has 9 _ i l)))
  where
    null_at : (x y : Bool) → x ≡ not (nonzero (cond x (pos 0) (cond y (negsuc 0) (pos 1))))
    null_at true y = refl
    null_at false true = refl
    null_at false false = refl

    minus_at : (y : Bool) → y ⊻ false ≡ negative (cond y (negsuc 0) (pos 1))
    minus_at true = refl
    minus_at false = refl

    go : (i : ℕ) (x : Bool) → ltb i z ≡ x → ltb i (z + n) ⊻ ltb i z ≡ negative (cond (ltb i z) (pos 0) (cond (ltb i (z + n)) (negsuc 0) (pos 1)))
    go i true e = rw (e, lt-ltb i (z + n) (omega (arith, ltb-true i z e)))
    go i false e = rw e (minus_at (ltb i (z + n)))

-- ---- signs of counts

abbrev odd : ℕ → Bool
odd k = eqb (k % 2) 1

sign_mod : (k : ℕ) → sign k ≡ sign (k % 2)
sign_mod k = go (k % 2) refl (mod-lt k (zero-lt-suc 1))
  where
    go : (r : ℕ) → k % 2 ≡ r → r < 2 → sign k ≡ sign r
    go zero e h = sign_even k e ∙ sym (sign_even 0 refl)
    go (suc zero) e h = sign_odd k e ∙ sym (sign_odd 1 refl)
    go (suc (suc r)) e h = absurd (omega arith)

sign_parity : (k : ℕ) → sign k ≡ sign (bit (odd k))
sign_parity k = sign_mod k ∙ ap sign (go (k % 2) (mod-lt k (zero-lt-suc 1)))
  where
    go : (r : ℕ) → r < 2 → r ≡ bit (eqb r 1)
    go zero h = refl
    go (suc zero) h = refl
    go (suc (suc r)) h = absurd (omega arith)

sign_differ : (x y : Bool) → sign (bit (x ⊻ y)) ≡ sign (bit x) *ℤ sign (bit y)
unfolding sign pow one
sign_differ true true = refl
sign_differ true false = refl
sign_differ false true = refl
sign_differ false false = refl

-- The vectors of a xor b have the parity of those of a and of b together.
count_differ : (n : ℕ) (a b : Blade) → sign (count n (a ⊕ b)) ≡ sign (count n a) *ℤ sign (count n b)
unfolding count
count_differ zero a b = sign_differ false false
count_differ (suc i) a b =
    sign_add (count i (a ⊕ b)) (bit (a i ⊻ b i)) ∙ ap₂ (λ s t. s *ℤ t) (count_differ i a b) (sign_differ (a i) (b i))
    ∙ mul_cross (sign (count i a)) (sign (count i b)) (sign (bit (a i))) (sign (bit (b i)))
    ∙ sym (ap₂ (λ s t. s *ℤ t) (sign_add (count i a) (bit (a i))) (sign_add (count i b) (bit (b i))))

-- So have the ones of x ^ y.
ones_differ : (n x y : ℕ) → x < 2 ^ n → y < 2 ^ n → sign (ones (bit_xor x y)) ≡ sign (ones x) *ℤ sign (ones y)
ones_differ n x y hx hy =
    ap sign (sym (count_ones n (bit_xor x y) (xor_lt n x y hx hy)) ∙ ap (count n) (has_xor x y)) ∙ count_differ n (has x) (has y)
    ∙ ap₂ (λ (k l : ℕ). sign k *ℤ sign l) (count_ones n x hx) (count_ones n y hy)

ones_bit : (r : ℕ) → r < 2 → ones r ≡ r
unfolding ones
ones_bit zero h = refl
ones_bit (suc zero) h = refl
ones_bit (suc (suc r)) h = absurd (omega arith)

-- ---- the sign of a pair that shares no null vector

-- Vector i of a changes the sign: once for each vector of b below it, and once more where b has it and it squares to -1.
abbrev flipping : (ℕ → ℤ) → Blade → ℕ → Bool
flipping g b i = odd (count i b) ⊻ (b i && negative (g i))

-- `g` gives each vector 0 or a sign.
abbrev Signed : (ℕ → ℤ) → Type 0
Signed g = (i : ℕ) → nonzero (g i) ≡ true → g i ≡ sign (bit (negative (g i)))

signed_unital : (m : ℤ) → Unital m → nonzero m ≡ true → m ≡ sign (bit (negative m))
unfolding sign pow one
signed_unital m (inl e) h = rw e
signed_unital m (inr (inl e)) h = absurd (false≢true (ap nonzero (sym e) ∙ h))
signed_unital m (inr (inr e)) h = rw e

signed_flavor : (f : Flavor) → Signed (metric_of f)
signed_flavor f i h = signed_unital (metric_of f i) (unital_flavor f i) h

module _ (g : ℕ → ℤ) (signed : Signed g) (a b : Blade) where
  -- The pair shares no null vector at i.
  abbrev Kept : ℕ → Type 0
  Kept i = (not (a i && b i) || nonzero (g i)) ≡ true

  flip_one : (i : ℕ) → Kept i → sign (bit (a i && flipping g b i)) ≡ sign (cond (a i) (count i b) 0) *ℤ cond (a i && b i) (g i) (pos 1)
  flip_one i h = go (a i) (b i) h
    where
      go : (x y : Bool) → (not (x && y) || nonzero (g i)) ≡ true
          → sign (bit (x && (odd (count i b) ⊻ (y && negative (g i))))) ≡ sign (cond x (count i b) 0) *ℤ cond (x && y) (g i) (pos 1)
      go false y e = sym (mul_one (sign 0))
      go true false e = ap (λ x. sign (bit x)) (⊻-false (odd (count i b))) ∙ sym (sign_parity (count i b)) ∙ sym (mul_one (sign (count i b)))
      go true true e = sign_differ (odd (count i b)) (negative (g i)) ∙ ap₂ (λ s t. s *ℤ t) (sym (sign_parity (count i b))) (sym (signed i e))

  flips_all : (d : ℕ) → ((i : ℕ) → i < d → Kept i) → sign (count d (λ i. a i && flipping g b i)) ≡ sign (swaps d a b) *ℤ shared g d a b
  unfolding count shared
  flips_all zero h = ap sign (sym (swaps_zero a b)) ∙ sym (mul_one (sign (swaps 0 a b)))
  flips_all (suc i) h =
      sign_add (count i (λ j. a j && flipping g b j)) (bit (a i && flipping g b i))
      ∙ ap₂ (λ s t. s *ℤ t) (flips_all i (λ j l. h j (omega arith))) (flip_one i (h i (omega arith)))
      ∙ mul_cross (sign (swaps i a b)) (shared g i a b) (sign (cond (a i) (count i b) 0)) _
      ∙ ap (λ s. s *ℤ (shared g i a b *ℤ cond (a i && b i) (g i) (pos 1)))
      (sym (sign_add (swaps i a b) (cond (a i) (count i b) 0)) ∙ ap sign (sym (swaps_suc i a b)))

-- ---- the whole metric

nonzero_false : (m : ℤ) → nonzero m ≡ false → m ≡ pos 0
nonzero_false (pos zero) e = refl
nonzero_false (pos (suc n)) e = absurd (true≢false e)
nonzero_false (negsuc n) e = absurd (true≢false e)

has_nothing : (i : ℕ) → has 0 i ≡ false
has_nothing i = has_beyond 0 0 i (lit< tt) (omega arith)

sign_turns : (d a b : ℕ) → sign (ones (turns d a b)) ≡ sign (turned d a + turned d b + turned d (bit_xor a b))
unfolding turns
sign_turns d a b = let t = turned d a + turned d b + turned d (bit_xor a b) in ap sign (ones_bit (t % 2) (mod-lt t (zero-lt-suc 1))) ∙ sym (sign_mod t)

turns_lt : (d a b : ℕ) → turns d a b < 512
unfolding turns
turns_lt d a b = lt_of_lt_of_le (mod-lt (turned d a + turned d b + turned d (bit_xor a b)) (zero-lt-suc 1)) (lit≤ tt)

module _ (f : Flavor) (d a b : ℕ) (l : d ≤ 9) (ha : a < 2 ^ d) where
  abbrev s : Squares
  s = squares_below 9 f

  -- The blade of b that the code has.
  abbrev blade : Declared.Blade
  blade = blade_of s b

  and_lt : (m : ℕ) → bit_and a m < 2 ^ d
  and_lt m = lt_of_le_of_lt (and_le_l a m) ha

  null_has : (i : ℕ) → i < d → has (bit_and a blade.null) i ≡ (has a i && (has b i && not (nonzero (metric_of f i))))
  unfolding blade_of squares_below
  null_has i h =
      has_and a (bit_and b s.null) i ∙ ap (λ x. has a i && x) (has_and b s.null i ∙ ap (λ x. has b i && x) (mask_has 9 _ i (omega arith)))

  flips_has : (i : ℕ) → i < d → has (bit_and a blade.flips) i ≡ (has a i && flipping (metric_of f) (has b) i)
  unfolding blade_of squares_below odd_below
  flips_has i h =
      has_and a (bit_xor (odd_below b) (bit_and b s.minus)) i
      ∙ ap (λ x. has a i && x) (ap (λ (v : ℕ → Bool). v i) (has_xor (odd_below b) (bit_and b s.minus))
      ∙ ap₂ (λ x y. x ⊻ y) (mask_has 9 _ i (omega arith)) (has_and b s.minus i ∙ ap (λ x. has b i && x) (mask_has 9 _ i (omega arith))))

  -- A pair that shares a null vector has the metric 0.
  pub shares_null : bit_and a blade.null ≢ 0 → metric (metric_of f) d a b ≡ pos 0
  shares_null h = nonzero_false _ (go (nonzero (metric (metric_of f) d a b)) (nonzero_metric (metric_of f) d a b))
    where
      lost : (x y z : Bool) → (not (x && y) || z) ≡ true → (x && (y && not z)) ≡ false
      lost false y z e = refl
      lost true false z e = refl
      lost true true z e = ap not e

      go : (x : Bool) → x ≡ every d (λ i. not (has a i && has b i) || nonzero (metric_of f i)) → x ≡ false
      go false e = refl
      go true e = absurd (h (has_ext d _ 0 (and_lt blade.null) (pow_pos d)
          (λ i k. null_has i k ∙ lost (has a i) (has b i) _ (every_at d _ (sym e) i k) ∙ sym (has_nothing i))))

  -- Any other has the sign of the ones of `(a & flips) ^ turns`.
  pub by_ones : bit_and a blade.null ≡ 0 → metric (metric_of f) d a b ≡ sign (ones (bit_xor (bit_and a blade.flips) (turns d a b)))
  unfolding metric
  by_ones h =
      let t = turned d a + turned d b + turned d (bit_xor a b) in
      let flipped = bit_and a blade.flips in
      ap (λ s. s *ℤ shared (metric_of f) d (has a) (has b)) (sign_add (swaps d (has a) (has b)) t)
      ∙ last (sign (swaps d (has a) (has b))) (sign t) (shared (metric_of f) d (has a) (has b))
      ∙ ap₂ (λ s t. s *ℤ t)
      (sym (flips_all (metric_of f) (signed_flavor f) (has a) (has b) d
      (λ i k. kept (has a i) (has b i) _ (sym (null_has i k) ∙ ap (λ (m : ℕ). has m i) h ∙ has_nothing i)))
      ∙ ap sign (sym (count_ext d _ _ flips_has) ∙ count_ones d flipped (and_lt blade.flips)))
      (sym (sign_turns d a b))
      ∙ sym (ones_differ 9 flipped (turns d a b) (lt_of_lt_of_le (and_lt blade.flips) (pow_mono l)) (turns_lt d a b))
    where
      last : (s t m : ℤ) → s *ℤ t *ℤ m ≡ s *ℤ m *ℤ t
      last s t m = simp product

      kept : (x y z : Bool) → (x && (y && not z)) ≡ false → (not (x && y) || z) ≡ true
      kept false y z e = refl
      kept true false z e = refl
      kept true true z e = not-false z e

-- Where all masks are below 512, the dimensions are at most nine.
dims_le : (d : ℕ) → 2 ^ d ≤ 512 → d ≤ 9
dims_le d h = ⊎_elim (λ (l : d < 10). omega arith) (λ (l : 10 ≤ d). absurd (omega (arith, pow_mono l))) (split d 10)

-- The mode doesn't take the pair.
pub pair_untaken : (mode : Mode) (f : Flavor) (d a b : ℕ) → takes mode a b ≡ false → pair_metric mode f d a b ≡ pos 0
unfolding pair_metric
pair_untaken mode f d a b t = rw t

-- It does: the metric is 0, or the sign of a count of ones.
module _ (mode : Mode) (f : Flavor) (d a : ℕ) (b : Declared.Blade) (h : a < 2 ^ d) (room : 2 ^ d ≤ 512)
    (t : takes mode a b.mask ≡ true) (e : b ≡ blade_of (squares_below 9 (flavor_for mode f)) b.mask) where
  pub pair_null : bit_and a b.null ≢ 0 → pair_metric mode f d a b.mask ≡ pos 0
  unfolding pair_metric
  pair_null ne = rw t (shares_null (flavor_for mode f) d a b.mask (dims_le d room) h (λ z. ne (ap (λ v. bit_and a v.null) e ∙ z)))

  pub pair_sign : bit_and a b.null ≡ 0 → pair_metric mode f d a b.mask ≡ sign (ones (bit_xor (bit_and a b.flips) (turns d a b.mask)))
  unfolding pair_metric
  pair_sign z =
      rw t (by_ones (flavor_for mode f) d a b.mask (dims_le d room) h (sym (ap (λ v. bit_and a v.null) e) ∙ z))
      ∙ sym (ap (λ v. sign (ones (bit_xor (bit_and a v.flips) (turns d a b.mask)))) e)

-- ---- the same as tests

sign_nonzero : (k : ℕ) → nonzero (sign k) ≡ true
unfolding sign pow one
sign_nonzero k = ap nonzero (sign_parity k) ∙ go (odd k)
  where
    go : (x : Bool) → nonzero (sign (bit x)) ≡ true
    go true = refl
    go false = refl

sign_negative : (x : Bool) → negative (sign (bit x)) ≡ x
unfolding sign pow one
sign_negative true = refl
sign_negative false = refl

-- The mask 101 in three dimensions.
abbrev pub is_turned : ℕ → ℕ → Bool
is_turned d m = eqb d 3 && eqb m 5

turned_sign : (d a b : ℕ) → sign (ones (turns d a b)) ≡ sign (bit (is_turned d a ⊻ is_turned d b ⊻ is_turned d (bit_xor a b)))
unfolding turned
turned_sign d a b = sign_turns d a b ∙ go (is_turned d a) (is_turned d b) (is_turned d (bit_xor a b))
  where
    go : (x y z : Bool) → sign (bit x + bit y + bit z) ≡ sign (bit (x ⊻ y ⊻ z))
    go x y z =
        sign_add (bit x + bit y) (bit z) ∙ ap (λ s. s *ℤ sign (bit z)) (sign_add (bit x) (bit y) ∙ sym (sign_differ x y))
        ∙ sym (sign_differ (x ⊻ y) z)

module _ (mode : Mode) (f : Flavor) (d a b : ℕ) (h : a < 2 ^ d) (l : d ≤ 9) where
  abbrev blade_for : Declared.Blade
  blade_for = blade_of (squares_below 9 (flavor_for mode f)) b

  -- A pair counts where the mode takes it and it shares no null vector.
  pub pair_live : nonzero (pair_metric mode f d a b) ≡ (takes mode a b && eqb (bit_and a blade_for.null) 0)
  unfolding blade_of
  pair_live = go (takes mode a b) refl (eqb (bit_and a blade_for.null) 0) refl
    where
      go : (x : Bool) → takes mode a b ≡ x → (y : Bool) → eqb (bit_and a blade_for.null) 0 ≡ y → nonzero (pair_metric mode f d a b) ≡ (x && y)
      go false t y e = ap nonzero (pair_untaken mode f d a b t)
      go true t true e = ap nonzero (pair_sign mode f d a blade_for h (pow_mono l) t refl (eqb-true _ _ e)) ∙ sign_nonzero _
      go true t false e = ap nonzero (pair_null mode f d a blade_for h (pow_mono l) t refl (eqb-false _ _ e))

  -- Its metric is then -1 where an odd number of a's vectors and of the turned masks change the sign.
  pub pair_minus : (takes mode a b && eqb (bit_and a blade_for.null) 0) ≡ true
      → negative (pair_metric mode f d a b) ≡ odd (ones (bit_and a blade_for.flips)) ⊻ (is_turned d a ⊻ is_turned d b ⊻ is_turned d (bit_xor a b))
  unfolding blade_of
  pair_minus = go (takes mode a b) refl (eqb (bit_and a blade_for.null) 0) refl
    where
      flips : ℕ
      flips = bit_and a blade_for.flips

      turning : Bool
      turning = is_turned d a ⊻ is_turned d b ⊻ is_turned d (bit_xor a b)

      go : (x : Bool) → takes mode a b ≡ x → (y : Bool) → eqb (bit_and a blade_for.null) 0 ≡ y → (x && y) ≡ true → negative (pair_metric mode f d a b) ≡ odd (ones flips) ⊻ turning
      go false t y e k = absurd (false≢true k)
      go true t false e k = absurd (false≢true k)
      go true t true e k =
          ap negative
          (pair_sign mode f d a blade_for h (pow_mono l) t refl (eqb-true _ _ e)
          ∙ ones_differ 9 flips (turns d a b) (lt_of_lt_of_le (lt_of_le_of_lt (and_le_l a blade_for.flips) h) (pow_mono l)) (turns_lt d a b)
          ∙ ap₂ (λ s t. s *ℤ t) (sign_parity (ones flips)) (turned_sign d a b)
          ∙ sym (sign_differ (odd (ones flips)) turning))
          ∙ sign_negative (odd (ones flips) ⊻ turning)
