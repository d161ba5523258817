-- The product over the whole numbers groups either way, has a unit, lets multiples through, is turned round by reversal, and is a sum of 2 ^ d terms at each place.
use mathlib.Core.Path.{◌≡◌, sym, ◌∙◌, ap}
use Prim.Native.Nat.{ℕ, ◌^◌, ◌<◌, ◌≤◌}
use native.Mathlib.Omega.{arith}
use lib.Pow.{pow_pos}
use lib.Bits.{bit_xor, xor_lt, xor_comm, xor_zero_l, xor_zero_r}
use lib.IntN.{ℤ, pos, ◌*ℤ◌, zero-*ℤ}
use Rattle.clifford.specs.Blade.{has, count}
use Rattle.clifford.specs.Sign.{reversal}
use Rattle.clifford.specs.Metric.{metric}
use Rattle.clifford.specs.Sum.{sum, δ}
use Rattle.clifford.specs.Product.{Bijection, multiply, reverse_whole}
use Rattle.clifford.proofs.Ring.{product}
use Rattle.clifford.proofs.BladeLaws.{xor_assoc, xor_cancel}
use Rattle.clifford.proofs.MetricLaws.{metric_cocycle, metric_reversal, metric_zero_l, metric_zero_r}
use Rattle.clifford.proofs.SumLaws.{sum_ext, sum_zero, sum_mul, sum_at_lem, δ_other}
use Rattle.clifford.proofs.Twisted.{weighed, times, times_assoc, times_signed, times_at, basis_times, unit_times, times_unit}

module _ (g : ℕ → ℤ) (d : ℕ) (order place : ℕ → ℕ) (inverse : Bijection d order place) where
  open inverse use {order_lt, place_lt, order_place, place_order}

  -- Two places meet in the place of their masks' xor.
  abbrev meet : ℕ → ℕ → ℕ
  meet i j = place (bit_xor (order i) (order j))

  xor_order : (i j : ℕ) → i < 2 ^ d → j < 2 ^ d → bit_xor (order i) (order j) < 2 ^ d
  xor_order i j hi hj = xor_lt d (order i) (order j) (order_lt i hi) (order_lt j hj)

  meet_lt : (i j : ℕ) → i < 2 ^ d → j < 2 ^ d → meet i j < 2 ^ d
  meet_lt i j hi hj = place_lt _ (xor_order i j hi hj)

  order_meet : (i j : ℕ) → i < 2 ^ d → j < 2 ^ d → order (meet i j) ≡ bit_xor (order i) (order j)
  order_meet i j hi hj = order_place _ (xor_order i j hi hj)

  -- There is nothing past the last place.
  pub multiply_beyond : (a b : ℕ → ℤ) (k : ℕ) → 2 ^ d ≤ k → multiply g d order place a b k ≡ pos 0
  unfolding multiply
  multiply_beyond a b k h =
      sum_ext (2 ^ d) _ (λ j. pos 0) (λ j hj. sum_ext (2 ^ d) _ (λ i. pos 0) (λ i hi.
      rw (δ_other (meet i j) k (λ e. omega (arith, meet_lt i j hi hj)), zero-*ℤ)) ∙ sum_zero (2 ^ d)) ∙ sum_zero (2 ^ d)

  -- Three factors group either way.
  pub multiply_assoc : (a b c : ℕ → ℤ) (k : ℕ)
      → multiply g d order place (multiply g d order place a b) c k ≡ multiply g d order place a (multiply g d order place b c) k
  unfolding multiply times weighed
  multiply_assoc a b c k = times_assoc (2 ^ d) meet (λ i j. metric g d (order i) (order j)) meet_lt
      (λ i j l hi hj hl. rw (order_meet i j hi hj, order_meet j l hj hl, xor_assoc d (order i) (order j) (order l) (order_lt i hi) (order_lt j hj) (order_lt l hl)))
      (λ i j l hi hj hl. rw (order_meet i j hi hj, order_meet j l hj hl) (metric_cocycle g d (order i) (order j) (order l) (order_lt i hi) (order_lt j hj) (order_lt l hl)))
      a b c k

  -- The scalar 1, at the place of the mask 0, is the unit.
  origin_lt : place 0 < 2 ^ d
  origin_lt = place_lt 0 (pow_pos d)

  order_origin : order (place 0) ≡ 0
  order_origin = order_place 0 (pow_pos d)

  pub unit_multiply : (b : ℕ → ℤ) (k : ℕ) → k < 2 ^ d → multiply g d order place (δ (place 0)) b k ≡ b k
  unfolding multiply times weighed
  unit_multiply b k hk = unit_times (2 ^ d) meet (λ i j. metric g d (order i) (order j)) (place 0) origin_lt
      (λ j hj. ap (λ (m : ℕ). place (bit_xor m (order j))) order_origin ∙ ap place (xor_zero_l (order j)) ∙ place_order j hj)
      (λ j hj. ap (λ (m : ℕ). metric g d m (order j)) order_origin ∙ metric_zero_l g d (order j))
      b k hk

  pub multiply_unit : (a : ℕ → ℤ) (k : ℕ) → k < 2 ^ d → multiply g d order place a (δ (place 0)) k ≡ a k
  unfolding multiply times weighed
  multiply_unit a k hk = times_unit (2 ^ d) meet (λ i j. metric g d (order i) (order j)) (place 0) origin_lt
      (λ i hi. ap (λ (m : ℕ). place (bit_xor (order i) m)) order_origin ∙ ap place (xor_zero_r (order i)) ∙ place_order i hi)
      (λ i hi. ap (λ (m : ℕ). metric g d (order i) m) order_origin ∙ metric_zero_r g d (order i))
      a k hk

  -- The reverse of a product is the product of the reverses, the other way round.
  pub reverse_multiply : (a b : ℕ → ℤ) (k : ℕ)
      → reverse_whole d order (multiply g d order place a b) k ≡ multiply g d order place (reverse_whole d order b) (reverse_whole d order a) k
  unfolding multiply reverse_whole times weighed
  reverse_multiply a b k = times_signed (2 ^ d) meet (λ i j. metric g d (order i) (order j)) (λ i. reversal (count d (has (order i))))
      (λ i j hi hj. ap place (xor_comm (order i) (order j)))
      (λ i j hi hj. rw (order_meet i j hi hj) (metric_reversal g d (order i) (order j)))
      a b k

  -- Each place j of b meets one place of a, that of j's mask xor k's, in the place k.
  pub multiply_at : (a b : ℕ → ℤ) (k : ℕ) → k < 2 ^ d
      → multiply g d order place a b k ≡ sum (2 ^ d) (λ j. metric g d (order (place (bit_xor (order j) (order k)))) (order j) *ℤ a (place (bit_xor (order j) (order k))) *ℤ b j)
  unfolding multiply times weighed
  multiply_at a b k hk = times_at (2 ^ d) meet (λ i j. metric g d (order i) (order j)) meet meet_lt
      (λ i j l hi hj hl e. ap (λ (m : ℕ). place (bit_xor (order j) m)) (sym (ap order e) ∙ order_meet i j hi hj)
      ∙ ap place (xor_cancel d (order i) (order j) (order_lt i hi) (order_lt j hj)) ∙ place_order i hi)
      (λ i j l hi hj hl e. ap (λ (m : ℕ). place (bit_xor m (order j))) (sym (ap order e) ∙ order_meet j l hj hl)
      ∙ ap place (xor_comm (bit_xor (order j) (order l)) (order j) ∙ ap (bit_xor (order j)) (xor_comm (order j) (order l))
      ∙ xor_cancel d (order l) (order j) (order_lt l hl) (order_lt j hj)) ∙ place_order l hl)
      a b k hk

-- A multiple of a factor is that multiple of the product.
module _ (g : ℕ → ℤ) (d : ℕ) (order place : ℕ → ℕ) (s : ℤ) (a b : ℕ → ℤ) (k : ℕ) where
  pub scaled_multiply : multiply g d order place (λ i. s *ℤ a i) b k ≡ s *ℤ multiply g d order place a b k
  unfolding multiply
  scaled_multiply = sym (sum_mul (2 ^ d) s _ ∙ sum_ext (2 ^ d) _ _ (λ j _. sum_mul (2 ^ d) s _ ∙ sum_ext (2 ^ d) _ _ (λ i _. simp product)))

  pub multiply_scaled : multiply g d order place a (λ j. s *ℤ b j) k ≡ s *ℤ multiply g d order place a b k
  unfolding multiply
  multiply_scaled = sym (sum_mul (2 ^ d) s _ ∙ sum_ext (2 ^ d) _ _ (λ j _. sum_mul (2 ^ d) s _ ∙ sum_ext (2 ^ d) _ _ (λ i _. simp product)))

-- Two basis blades multiply to their metric at the place of their masks' xor.
pub multiply_basis : (g : ℕ → ℤ) (d : ℕ) (order place : ℕ → ℕ) (i j : ℕ) → i < 2 ^ d → j < 2 ^ d → (k : ℕ)
    → multiply g d order place (δ i) (δ j) k ≡ metric g d (order i) (order j) *ℤ δ (place (bit_xor (order i) (order j))) k
unfolding multiply times weighed
multiply_basis g d order place i j hi hj k =
    basis_times (2 ^ d) (λ i j. place (bit_xor (order i) (order j))) (λ i j. metric g d (order i) (order j)) i hi (δ j) k
    ∙ sum_ext (2 ^ d) _ _ (λ l _. first (δ (place (bit_xor (order i) (order l))) k) (metric g d (order i) (order l)) (δ j l))
    ∙ sum_at_lem (2 ^ d) j (λ l. metric g d (order i) (order l) *ℤ δ (place (bit_xor (order i) (order l))) k) hj
  where
    first : (a b c : ℤ) → a *ℤ (b *ℤ c) ≡ c *ℤ (b *ℤ a)
    first a b c = simp product
