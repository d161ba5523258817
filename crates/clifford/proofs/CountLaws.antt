-- Counts of vectors and of index pairs go index by index, and a program has them of masks by `count_ones`.
use mathlib.Core.Path.{◌≡◌, refl, sym, ◌∙◌, ap, ap₂}
use mathlib.Core.Bool.{Bool, true, false, ◌&&◌, and-false, and-true, cond}
use Prim.Native.Nat.{ℕ, zero, suc, ◌+◌, ◌-◌, ◌*◌, ◌/◌, ◌%◌, ◌^◌, ◌<◌, ◌≤◌}
use native.Mathlib.Omega.{arith}
use native.Mathlib.Nat.{mod-eq_of_lt, mod-lt, mod-one, zero-lt-suc, pow-suc, add-zero, add_assoc}
use lib.Dec.{eqb, ltb}
use lib.Arith.{mod-mul, digits_div, digits_mod}
use lib.Pow.{pow_pos}
use lib.Bits.{bit_and, and_mask}
use lib.Count.{ones, ones_in, ones_step}
use borrow.Author.Tests.{lt-ltb, le-ltb}
use Rattle.clifford.specs.Blade.{Blade, has, count}
use Rattle.clifford.specs.Sum.{total}
use Rattle.clifford.specs.Metric.{swaps}
use Rattle.clifford.proofs.SumLaws.{total_ext}
use Rattle.clifford.proofs.BladeLaws.{has_zero, has_suc}

-- Only the indices below d count.
pub count_ext : (d : ℕ) (a b : Blade) → ((i : ℕ) → i < d → a i ≡ b i) → count d a ≡ count d b
unfolding count
count_ext zero a b h = refl
count_ext (suc d) a b h = rw (count_ext d a b (λ i l. h i (omega arith)), h d (omega arith))

pub count_le : (d : ℕ) (a : Blade) → count d a ≤ d
unfolding count
count_le zero a = omega arith
count_le (suc d) a = go (a d) (count_le d a)
  where
    go : (x : Bool) → count d a ≤ d → count d a + cond x 1 0 ≤ suc d
    go true h = omega arith
    go false h = omega arith

pub count_none : (d : ℕ) → count d (λ i. false) ≡ 0
unfolding count
count_none zero = refl
count_none (suc d) = ap (λ (k : ℕ). k + 0) (count_none d)

-- A count adds 1 for each index that passes.
pub count_total : (n : ℕ) (t : ℕ → Bool) → count n t ≡ total n (λ i. cond (t i) 1 0)
unfolding count total
count_total zero t = refl
count_total (suc n) t = ap (λ (k : ℕ). k + cond (t n) 1 0) (count_total n t)

-- ---- index pairs

pub swaps_zero : (a b : Blade) → swaps 0 a b ≡ 0
unfolding swaps total
swaps_zero a b = refl

-- One index i more, if it is in a, has the indices of b below it.
pub swaps_suc : (i : ℕ) (a b : Blade) → swaps (suc i) a b ≡ swaps i a b + cond (a i) (count i b) 0
unfolding swaps total count
swaps_suc i a b = ap₂ (λ (m n : ℕ). m + n)
    (total_ext i _ _ (λ k l. rw (le-ltb i k (omega arith), and-false (a k && b i), add-zero)))
    (rw (le-ltb i i (omega arith), and-false (a i && b i), add-zero) (go (a i)))
  where
    go : (x : Bool) → count i (λ j. x && b j && ltb j i) ≡ cond x (count i b) 0
    go true = count_ext i _ b (λ j l. rw (lt-ltb j i l) (and-true (b j)))
    go false = count_none i

-- ---- `count_ones`

count_lowest : (d : ℕ) (a : Blade) → count (suc d) a ≡ cond (a 0) 1 0 + count d (λ i. a (suc i))
unfolding count
count_lowest zero a = omega arith
count_lowest (suc d) a = rw (count_lowest d a) (add_assoc (cond (a 0) 1 0) (count d (λ i. a (suc i))) (cond (a (suc d)) 1 0))

bit : (x : ℕ) → x < 2 → cond (eqb x 1) 1 0 ≡ x
bit zero h = refl
bit (suc zero) h = refl
bit (suc (suc x)) h = absurd (omega arith)

count_in_lem : (d m : ℕ) → count d (has m) ≡ ones_in d m
unfolding ones_in count
count_in_lem zero m = refl
count_in_lem (suc d) m =
    count_lowest d (has m)
    ∙ ap₂ (λ (x y : ℕ). x + y) (ap (λ t. cond t 1 0) (has_zero m) ∙ bit (m % 2) (mod-lt m (zero-lt-suc 1)))
    (count_ext d (λ i. has m (suc i)) (has (m / 2)) (λ i _. has_suc m i) ∙ count_in_lem d (m / 2))

ones_in_lem : (d m : ℕ) → ones_in d m ≡ ones (m % 2 ^ d)
unfolding ones_in ones
ones_in_lem zero m = ap ones (sym (mod-one m))
ones_in_lem (suc d) m =
    let low : m % 2 ^ suc d ≡ (m / 2 % 2 ^ d) * 2 + m % 2 = ap (λ (p : ℕ). m % p) (pow-suc 2 d) ∙ mod-mul m (pow_pos d) (zero-lt-suc 1) in
    let digit = mod-lt m (zero-lt-suc 1) in
    sym (ap ones low ∙ ones_step ((m / 2 % 2 ^ d) * 2 + m % 2)
    ∙ ap₂ (λ (x y : ℕ). x + ones y) (digits_mod (m / 2 % 2 ^ d) digit) (digits_div (m / 2 % 2 ^ d) digit)
    ∙ ap (λ (x : ℕ). m % 2 + x) (sym (ones_in_lem d (m / 2))))

-- `count_ones(m & ((1 << i) - 1))` counts the vectors below i.
pub count_below : (i m : ℕ) → count i (has m) ≡ ones (bit_and m (2 ^ i - 1))
count_below i m = count_in_lem i m ∙ ones_in_lem i m ∙ ap ones (sym (and_mask m i))

-- `count_ones(m)` counts them all: it is the grade.
pub count_ones : (d m : ℕ) → m < 2 ^ d → count d (has m) ≡ ones m
count_ones d m h = count_in_lem d m ∙ ones_in_lem d m ∙ ap ones (mod-eq_of_lt h)
