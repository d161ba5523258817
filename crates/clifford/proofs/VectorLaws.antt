-- A power of two stands for one basis vector, and the mask 0 for the empty word: their metrics follow by the relations.
use mathlib.Core.Path.{◌≡◌, refl, sym, ◌∙◌, ap}
use mathlib.Core.Bool.{false, ◌&&◌, and-false}
use mathlib.Core.List.{[], ◌∷◌, ◌++◌}
use mathlib.Core.Logic.{◌≢◌}
use Prim.Native.Nat.{ℕ, zero, suc, ◌+◌, ◌*◌, ◌/◌, ◌%◌, ◌^◌, ◌<◌}
use native.Mathlib.Nat.{pow-suc}
use native.Mathlib.Omega.{arith}
use native.Mathlib.Decide.{ℕ_discrete}
use lib.Bits.{bit_xor, xor_self, xor_comm, xor_shifted}
use lib.Dec.{eqb, eqb-zero-suc, eqb-suc-zero, eqb-suc-suc, lit<}
use lib.IntN.{ℤ, pos, neg_ℤ, ◌*ℤ◌}
use borrow.Author.Tests.{eq-eqb, ne_eqb}
use Rattle.clifford.specs.Blade.{Blade, has}
use Rattle.clifford.specs.Metric.{shared, metric}
use Rattle.clifford.specs.Relations.{Equals, exchange, square, chain, word}
use Rattle.clifford.specs.Placed.{stands}
use Rattle.clifford.proofs.Ring.{neg_mul, mul_one, one_mul}
use Rattle.clifford.proofs.BladeLaws.{has_zero, has_suc, has_beyond}
use Rattle.clifford.proofs.SignLaws.{sign_square}
use Rattle.clifford.proofs.PlacedLaws.{metric_derived, metric_unique}

-- ---- what a power of two stands for

power_bit : (i j : ℕ) → has (2 ^ i) j ≡ eqb i j
power_bit zero zero = has_zero 1
power_bit zero (suc j) = has_suc 1 j ∙ has_beyond 0 0 j (lit< tt) (omega arith) ∙ sym (eqb-zero-suc j)
power_bit (suc i) zero = has_zero (2 ^ suc i) ∙ ap (λ (x : ℕ). eqb x 1) (even (2 ^ i) (2 ^ suc i) (pow-suc 2 i)) ∙ sym (eqb-suc-zero i)
  where
    even : (m n : ℕ) → n ≡ m * 2 → n % 2 ≡ 0
    even m n e = omega arith
power_bit (suc i) (suc j) =
    has_suc (2 ^ suc i) j ∙ ap (λ (m : ℕ). has m j) (half (2 ^ i) (2 ^ suc i) (pow-suc 2 i)) ∙ power_bit i j ∙ sym (eqb-suc-suc i j)
  where
    half : (m n : ℕ) → n ≡ m * 2 → n / 2 ≡ m
    half m n e = omega arith

power_not_five : (i : ℕ) → 2 ^ i ≢ 5
power_not_five zero e = omega arith
power_not_five (suc i) e = omega (arith, pow-suc 2 i)

word_none : (d : ℕ) (a : Blade) → ((j : ℕ) → j < d → a j ≡ false) → word d a ≡ []
unfolding word
word_none zero a h = refl
word_none (suc d) a h = rw (word_none d a (λ j l. h j (omega arith)), h d (omega arith))

word_one : (d i : ℕ) → i < d → word d (has (2 ^ i)) ≡ i ∷ []
unfolding word
word_one zero i h = absurd (omega arith)
word_one (suc d) i h =
    elim (ℕ_discrete i d) [
      | yes p ↦ rw (← p, power_bit i i, eq-eqb i i refl, word_none i (has (2 ^ i)) (λ j l. power_bit i j ∙ ne_eqb i j (λ e. omega arith)))
      | no p ↦ rw (power_bit i d, ne_eqb i d p, word_one d i (omega arith))
    ]

pub stands_vector : (d i : ℕ) → i < d → stands d (2 ^ i) ≡ i ∷ []
unfolding stands
stands_vector d i h = rw (ne_eqb (2 ^ i) 5 (power_not_five i), and-false (eqb d 3)) (word_one d i h)

pub stands_scalar : (d : ℕ) → stands d 0 ≡ []
unfolding stands
stands_scalar d = rw (and-false (eqb d 3)) (word_none d (has 0) (λ j _. has_beyond 0 0 j (lit< tt) (omega arith)))

-- ---- the metric of basis vectors, by the relations

pub metric_squared : (g : ℕ → ℤ) (d i : ℕ) → i < d → metric g d (2 ^ i) (2 ^ i) ≡ g i
metric_squared g d i h = sym (metric_unique (2 ^ i) (2 ^ i) (rw (xor_self (2 ^ i), stands_vector d i h, stands_scalar d) (square i h)))

pub metric_exchanged : (g : ℕ → ℤ) (d i j : ℕ) → i < d → j < d → i ≢ j → metric g d (2 ^ i) (2 ^ j) ≡ neg_ℤ (metric g d (2 ^ j) (2 ^ i))
metric_exchanged g d i j h l n =
    sym (metric_unique (2 ^ i) (2 ^ j) (chain swapped (rw (xor_comm (2 ^ j) (2 ^ i)) at (metric_derived g d (2 ^ j) (2 ^ i)))))
    ∙ neg_mul (pos 1) (metric g d (2 ^ j) (2 ^ i)) ∙ ap neg_ℤ (one_mul (metric g d (2 ^ j) (2 ^ i)))
  where
    swapped : Equals g d (stands d (2 ^ i) ++ stands d (2 ^ j)) (neg_ℤ (pos 1)) (stands d (2 ^ j) ++ stands d (2 ^ i))
    swapped = rw (stands_vector d i h, stands_vector d j l) (exchange i j h l n)

-- ---- a mask of vectors below n, and the vector n

-- Together they are the mask of both.
pub above : (n a : ℕ) → a < 2 ^ n → bit_xor a (2 ^ n) ≡ 2 ^ n + a
above n a h = xor_comm a (2 ^ n) ∙ rw (once (2 ^ n)) at (xor_shifted 1 n a h)
  where
    once : (p : ℕ) → 1 * p ≡ p
    once p = omega arith

shared_apart : (g : ℕ → ℤ) (d : ℕ) (a b : Blade) → ((i : ℕ) → i < d → (a i && b i) ≡ false) → shared g d a b ≡ pos 1
unfolding shared
shared_apart g zero a b h = refl
shared_apart g (suc d) a b h = rw (shared_apart g d a b (λ i l. h i (omega arith)), h d (omega arith))

-- They share no vector, so their metric is a sign.
pub metric_above : (g : ℕ → ℤ) (d n a : ℕ) → a < 2 ^ n → metric g d a (2 ^ n) *ℤ metric g d a (2 ^ n) ≡ pos 1
unfolding metric
metric_above g d n a h = rw (shared_apart g d (has a) (has (2 ^ n)) (λ i _. apart i), mul_one) (sign_square _)
  where
    apart : (i : ℕ) → (has a i && has (2 ^ n) i) ≡ false
    apart i =
        elim (ℕ_discrete n i) [
          | yes p ↦ rw (has_beyond n a i h (omega arith))
          | no p ↦ rw (power_bit n i, ne_eqb n i p) (and-false (has a i))
        ]
