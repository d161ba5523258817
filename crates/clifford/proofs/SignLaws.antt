-- The sign of a sum is a product, that of a number goes by its lowest bit, and that of reversal goes from grade to grade.
use mathlib.Core.Path.{◌≡◌, refl, sym, ◌∙◌, ap, ap₂}
use Prim.Native.Nat.{ℕ, zero, suc, ◌+◌, ◌%◌}
use native.Mathlib.Omega.{arith}
use lib.IntN.{pos, negsuc, ◌*ℤ◌, pow, one, *ℤ_comm}
use Rattle.clifford.specs.Sign.{sign, reversal}
use Rattle.clifford.proofs.Ring.{mul_assoc, mul_cross, one_mul}

pub sign_suc : (k : ℕ) → sign (suc k) ≡ negsuc 0 *ℤ sign k
unfolding sign pow
sign_suc k = *ℤ_comm (sign k) (negsuc 0)

pub sign_add : (m k : ℕ) → sign (m + k) ≡ sign m *ℤ sign k
unfolding sign pow one
sign_add zero k = ap sign (zero_sum k) ∙ sym (one_mul (sign k))
  where
    zero_sum : (k : ℕ) → 0 + k ≡ k
    zero_sum k = omega arith
sign_add (suc m) k =
    ap sign (suc_sum m k) ∙ sign_suc (m + k) ∙ ap (λ s. negsuc 0 *ℤ s) (sign_add m k) ∙ sym (mul_assoc (negsuc 0) (sign m) (sign k))
    ∙ ap (λ s. s *ℤ sign k) (sym (sign_suc m))
  where
    suc_sum : (m k : ℕ) → suc m + k ≡ suc (m + k)
    suc_sum m k = omega arith

pub sign_square : (k : ℕ) → sign k *ℤ sign k ≡ pos 1
unfolding sign pow one
sign_square zero = refl
sign_square (suc k) = mul_cross (sign k) (negsuc 0) (sign k) (negsuc 0) ∙ rw (sign_square k)

-- Two sign changes more are none.
sign_two : (k : ℕ) → sign (suc (suc k)) ≡ sign k
sign_two k = sign_suc (suc k) ∙ ap (λ s. negsuc 0 *ℤ s) (sign_suc k) ∙ sym (mul_assoc (negsuc 0) (negsuc 0) (sign k)) ∙ one_mul (sign k)

pub sign_even : (k : ℕ) → k % 2 ≡ 0 → sign k ≡ pos 1
unfolding sign pow one
sign_even zero h = refl
sign_even (suc zero) h = absurd (omega arith)
sign_even (suc (suc k)) h = sign_two k ∙ sign_even k (omega arith)

pub sign_odd : (k : ℕ) → k % 2 ≡ 1 → sign k ≡ negsuc 0
unfolding sign pow one
sign_odd zero h = absurd (omega arith)
sign_odd (suc zero) h = refl
sign_odd (suc (suc k)) h = sign_two k ∙ sign_odd k (omega arith)

reversal_four : (k : ℕ) → reversal (suc (suc (suc (suc k)))) ≡ reversal k
unfolding reversal
reversal_four k = rw (four k)
  where
    four : (k : ℕ) → suc (suc (suc (suc k))) % 4 ≡ k % 4
    four k = omega arith

-- Reversal takes one vector more past the k that are there.
pub reversal_suc : (k : ℕ) → reversal (suc k) ≡ reversal k *ℤ sign k
unfolding reversal sign pow one
reversal_suc zero = refl
reversal_suc (suc zero) = refl
reversal_suc (suc (suc zero)) = refl
reversal_suc (suc (suc (suc zero))) = refl
reversal_suc (suc (suc (suc (suc k)))) =
    reversal_four (suc k) ∙ reversal_suc k ∙ ap₂ (λ r s. r *ℤ s) (sym (reversal_four k)) (sym (sign_two (suc (suc k)) ∙ sign_two k))
