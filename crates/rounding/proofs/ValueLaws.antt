-- The value of a float: by any fraction, and as a whole number of 2 ^ -u. Assumes nothing.
use mathlib.Core.Path.{◌≡◌, refl, sym, ap, ◌∙◌}
use Prim.Native.Nat.{ℕ, zero, suc, ◌+◌, ◌-◌, ◌*◌, ◌/◌, ◌%◌, ◌^◌, ◌≤◌, ◌<◌}
use native.Mathlib.Nat.{lt_of_not-le, not-le_of_lt, mul_right_comm, mul-one, zero-mul, mul-div_cancel, eq_of_mul-eq-mul_right, div-add-mod', add-zero}
use native.Mathlib.Omega.{arith}
use mathlib.Core.Bool.{Bool, false, not}
use lib.IntN.{ℤ, pos, negsuc}
use lib.Pow.{pow-lt}
use lib.Ieee.{Float, nan, inf, fin, up, down, neg}
use lib.Ieee.Fits.{down_pos}
use lib.Ieee.Exact.{HasValue}
use Rattle.rounding.specs.Value.{Whole}
use Rattle.rounding.proofs.RoundLaws.{split_pow}

-- ---- Values as fractions.
-- A value is the same by any fraction of the same size.
pub rescale : (x : Float) (s : Bool) (w l num den : ℕ) → 0 < l → num * l ≡ w * den → HasValue x s w l → HasValue x s num den
rescale nan s w l num den p h v = v
rescale (inf t) s w l num den p h v = v
rescale (fin t m e) s w l num den p h v = (
  v.0,
  eq_of_mul-eq-mul_right l p (m * up e * den) (num * down e)
      (mul_right_comm (m * up e) den l
      ∙ ap (λ (x : ℕ). x * den) v.1
      ∙ mul_right_comm w (down e) den
      ∙ ap (λ (x : ℕ). x * down e) (sym h)
      ∙ mul_right_comm num l (down e)),
)

pub neg_value : (x : Float) (s : Bool) (a c : ℕ) → HasValue x s a c → HasValue (neg x) (not s) a c
unfolding neg
neg_value nan s a c v = absurd v
neg_value (inf t) s a c v = absurd v
neg_value (fin t m e) s a c v = (ap not v.0, v.1)

pub zero_value : (u : ℕ) → HasValue (fin false 0 (pos 0)) false 0 (2 ^ u)
zero_value u = (refl, zero-mul (2 ^ u))

-- ---- Whole numbers of 2 ^ -u.
-- By the number of units.
pub whole_by : (u : ℕ) (s : Bool) (m : ℕ) (e : ℤ) (n : ℕ) → m * up e * 2 ^ u ≡ n * down e → Whole u (fin s m e)
whole_by u s m e n h = (refl, h ∙ ap (λ (x : ℕ). x * down e) (sym (ap (λ (x : ℕ). x / down e) h ∙ mul-div_cancel n (down_pos e))))

-- By a division that leaves nothing, which a closed float computes.
pub whole_if : (u : ℕ) (s : Bool) (m : ℕ) (e : ℤ) → m * up e * 2 ^ u % down e ≡ 0 → Whole u (fin s m e)
whole_if u s m e h =
    whole_by u s m e (m * up e * 2 ^ u / down e)
    (sym (div-add-mod' (m * up e * 2 ^ u) (down e)) ∙ ap (λ (x : ℕ). m * up e * 2 ^ u / down e * down e + x) h ∙ add-zero (m * up e * 2 ^ u / down e * down e))

pub pow_le_back : (a b : ℕ) → 2 ^ a ≤ 2 ^ b → a ≤ b
pow_le_back a b h = from (lt_of_not-le (λ (g : suc b ≤ a). not-le_of_lt (pow-lt g) h))
  where
    from : a < suc b → a ≤ b
    from l = omega arith

-- By an exponent that is not below -u.
pub whole_exp : (u : ℕ) (s : Bool) (m : ℕ) (e : ℤ) → down e ≤ 2 ^ u → Whole u (fin s m e)
whole_exp u s m (pos k) h = whole_by u s m (pos k) (m * 2 ^ k * 2 ^ u) (sym (mul-one (m * 2 ^ k * 2 ^ u)))
whole_exp u s m (negsuc k) h =
    let l : suc k ≤ u = pow_le_back (suc k) u h in
    whole_by u s m (negsuc k) (m * 2 ^ (u - suc k)) (ap (λ (x : ℕ). x * 2 ^ u) (mul-one m) ∙ split_pow m u (suc k) l)

pub zero_whole : (u : ℕ) (s : Bool) (e : ℤ) → Whole u (fin s zero e)
zero_whole u s e = whole_by u s zero e 0 (ap (λ (x : ℕ). x * 2 ^ u) (zero-mul (up e)) ∙ zero-mul (2 ^ u) ∙ sym (zero-mul (down e)))
