-- The pairs of masks that pass a test at every vector are counted by a product over the vectors.
use mathlib.Core.Path.{◌≡◌, refl, sym, ◌∙◌, ap, ap₂}
use mathlib.Core.Bool.{Bool, true, false, ◌&&◌, cond, false≢true}
use Prim.Native.Nat.{ℕ, zero, suc, ◌+◌, ◌*◌, ◌/◌, ◌%◌, ◌^◌, ◌<◌}
use native.Mathlib.Omega.{arith}
use native.Mathlib.Decide.{ℕ_discrete}
use native.Mathlib.Nat.{le_refl, zero-mul, one-mul}
use lib.Dec.{eqb}
use Rattle.clifford.specs.Blade.{has}
use Rattle.clifford.specs.Sum.{total}
use Rattle.clifford.proofs.SumLaws.{total_ext, total_mul, total_split}
use Rattle.clifford.proofs.BladeLaws.{has_zero, has_suc, has_beyond}

-- ---- masks of one vector more

-- `lift x d m` is the mask m, with vector d where x says so.
abbrev lift : Bool → ℕ → ℕ → ℕ
lift x d m = cond x (2 ^ d + m) m

masks_split : (d : ℕ) (f : ℕ → ℕ) → total (2 ^ suc d) f ≡ total (2 ^ d) (λ m. f (lift false d m)) + total (2 ^ d) (λ m. f (lift true d m))
masks_split d f = ap (λ (k : ℕ). total k f) (twice d) ∙ total_split (2 ^ d) (2 ^ d) f
  where
    twice : (d : ℕ) → 2 ^ suc d ≡ 2 ^ d + 2 ^ d
    twice d = omega arith

half : (d m : ℕ) → (2 ^ suc d + m) / 2 ≡ 2 ^ d + m / 2
half d m = omega arith

lift_low : (x : Bool) (i d m : ℕ) → i < d → has (lift x d m) i ≡ has m i
lift_low false i d m h = refl
lift_low true i zero m h = absurd (omega arith)
lift_low true zero (suc d) m h = has_zero (2 ^ suc d + m) ∙ ap (λ (x : ℕ). eqb x 1) (even d m) ∙ sym (has_zero m)
  where
    even : (d m : ℕ) → (2 ^ suc d + m) % 2 ≡ m % 2
    even d m = omega arith
lift_low true (suc i) (suc d) m h =
    has_suc (2 ^ suc d + m) i ∙ ap (λ (x : ℕ). has x i) (half d m) ∙ lift_low true i d (m / 2) (omega arith) ∙ sym (has_suc m i)

lift_top : (x : Bool) (d m : ℕ) → m < 2 ^ d → has (lift x d m) d ≡ x
lift_top false d m h = has_beyond d m d h (le_refl d)
lift_top true zero m h = has_zero (1 + m) ∙ ap (λ (x : ℕ). eqb (x % 2) 1) (is_one m h)
  where
    is_one : (m : ℕ) → m < 1 → 1 + m ≡ 1
    is_one m h = omega arith
lift_top true (suc d) m h = has_suc (2 ^ suc d + m) d ∙ ap (λ (x : ℕ). has x d) (half d m) ∙ lift_top true d (m / 2) (omega arith)

-- ---- a test at every vector

-- `every d t` tells whether the test holds at every index below d.
unfoldable pub every : ℕ → (ℕ → Bool) → Bool
every zero t = true
every (suc i) t = every i t && t i

pub every_ext : (d : ℕ) (s t : ℕ → Bool) → ((i : ℕ) → i < d → s i ≡ t i) → every d s ≡ every d t
unfolding every
every_ext zero s t h = refl
every_ext (suc d) s t h = ap₂ (λ x y. x && y) (every_ext d s t (λ i l. h i (omega arith))) (h d (omega arith))

pub every_and : (d : ℕ) (s t : ℕ → Bool) → (every d s && every d t) ≡ every d (λ i. s i && t i)
unfolding every
every_and zero s t = refl
every_and (suc d) s t = cross (every d s) (s d) (every d t) (t d) ∙ ap (λ x. x && (s d && t d)) (every_and d s t)
  where
    cross : (a b c e : Bool) → ((a && b) && (c && e)) ≡ ((a && c) && (b && e))
    cross true true c e = refl
    cross true false true e = refl
    cross true false false e = refl
    cross false b c e = refl

pub every_true : (d : ℕ) (t : ℕ → Bool) → ((i : ℕ) → i < d → t i ≡ true) → every d t ≡ true
unfolding every
every_true zero t h = refl
every_true (suc d) t h = ap₂ (λ x y. x && y) (every_true d t (λ i l. h i (omega arith))) (h d (omega arith))

pub every_at : (d : ℕ) (t : ℕ → Bool) → every d t ≡ true → (i : ℕ) → i < d → t i ≡ true
unfolding every
every_at zero t h i l = absurd (omega arith)
every_at (suc d) t h i l = go (ℕ_discrete i d) (both (every d t) (t d) h) (λ e k. every_at d t e i k)
  where
    both : (x y : Bool) → (x && y) ≡ true → (x ≡ true) × (y ≡ true)
    both true y e = (refl, e)
    both false y e = absurd (false≢true e)

    go : Dec (i ≡ d) → (every d t ≡ true) × (t d ≡ true) → (every d t ≡ true → i < d → t i ≡ true) → t i ≡ true
    go (yes p) e ih = rw p e.1
    go (no p) e ih = ih e.0 (omega arith)

-- ---- the pairs that pass

-- `num` is 1 for what passes, else 0.
abbrev pub num : Bool → ℕ
num x = cond x 1 0

num_and : (x y : Bool) → num (x && y) ≡ num x * num y
num_and false y = sym (zero-mul (num y))
num_and true y = sym (one-mul (num y))

module _ (t : ℕ → Bool → Bool → Bool) where
  -- `passes d a b` tells whether the masks a and b pass at every vector below d.
  abbrev pub passes : ℕ → ℕ → ℕ → Bool
  passes d a b = every d (λ i. t i (has a i) (has b i))

  -- Two masks hold a vector or not in four ways; `ways d` multiplies the number of ways that pass, over the vectors below d.
  unfoldable pub ways : ℕ → ℕ
  ways zero = 1
  ways (suc d) = ways d * (num (t d false false) + num (t d false true) + (num (t d true false) + num (t d true true)))

  cell : (x y : Bool) (d a b : ℕ) → a < 2 ^ d → b < 2 ^ d → num (passes (suc d) (lift x d a) (lift y d b)) ≡ num (passes d a b) * num (t d x y)
  unfolding every
  cell x y d a b ha hb =
      ap num (ap₂ (λ p q. p && q) (every_ext d _ _ (λ i l. ap₂ (t i) (lift_low x i d a l) (lift_low y i d b l))) (ap₂ (t d) (lift_top x d a ha) (lift_top y d b hb)))
      ∙ num_and (passes d a b) (t d x y)

  row : (x : Bool) (d a : ℕ) → a < 2 ^ d
      → total (2 ^ suc d) (λ b. num (passes (suc d) (lift x d a) b)) ≡ total (2 ^ d) (λ b. num (passes d a b)) * (num (t d x false) + num (t d x true))
  row x d a ha =
      masks_split d _
      ∙ ap₂ (λ (p q : ℕ). p + q) (part false) (part true) ∙ collect (total (2 ^ d) (λ b. num (passes d a b))) (num (t d x false)) (num (t d x true))
    where
      part : (y : Bool) → total (2 ^ d) (λ b. num (passes (suc d) (lift x d a) (lift y d b))) ≡ total (2 ^ d) (λ b. num (passes d a b)) * num (t d x y)
      part y = total_ext (2 ^ d) _ _ (λ b hb. cell x y d a b ha hb) ∙ total_mul (2 ^ d) (num (t d x y)) (λ b. num (passes d a b))

      collect : (s p q : ℕ) → s * p + s * q ≡ s * (p + q)
      collect s p q = omega arith

  pub pairs_passing : (d : ℕ) → total (2 ^ d) (λ a. total (2 ^ d) (λ b. num (passes d a b))) ≡ ways d
  unfolding ways total every
  pairs_passing zero = refl
  pairs_passing (suc d) =
      masks_split d _
      ∙ ap₂ (λ (p q : ℕ). p + q) (part false) (part true)
      ∙ collect (total (2 ^ d) all) (num (t d false false)) (num (t d false true)) (num (t d true false)) (num (t d true true))
      ∙ ap (λ (s : ℕ). s * (num (t d false false) + num (t d false true) + (num (t d true false) + num (t d true true)))) (pairs_passing d)
    where
      all : ℕ → ℕ
      all a = total (2 ^ d) (λ b. num (passes d a b))

      part : (x : Bool) → total (2 ^ d) (λ a. total (2 ^ suc d) (λ b. num (passes (suc d) (lift x d a) b))) ≡ total (2 ^ d) all * (num (t d x false) + num (t d x true))
      part x = total_ext (2 ^ d) _ _ (λ a ha. row x d a ha) ∙ total_mul (2 ^ d) (num (t d x false) + num (t d x true)) all

      collect : (s p q u v : ℕ) → s * (p + q) + s * (u + v) ≡ s * (p + q + (u + v))
      collect s p q u v = omega arith
