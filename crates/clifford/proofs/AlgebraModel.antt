-- The multivectors with the product over the whole numbers are an algebra of the relations, and in it the words of masks follow one another. The product
-- with its factors exchanged is an algebra of the relations too: the last law is what shuts it out. AlgebraWords draws the sum.
use mathlib.Core.Path.{◌≡◌, refl, sym, ◌∙◌, ap, ap₂, fun_ext}
use mathlib.Core.Bool.{cond}
use mathlib.Core.HLevel.{is_prop→PathP, Π_prop}
use mathlib.Core.Logic.{◌≢◌}
use Prim.Native.Nat.{ℕ, ◌^◌, ◌<◌, ◌≤◌}
use native.Mathlib.Omega.{arith}
use native.Mathlib.Decide.{dec_lt}
use lib.Pow.{pow_pos, pow-lt}
use lib.Bits.{bit_xor, xor_lt, xor_self, xor_comm}
use lib.Dec.{ltb}
use lib.IntN.{ℤ, pos, negsuc, neg_ℤ, ◌*ℤ◌, *ℤ-zero, ℤ_set}
use borrow.Author.Tests.{lt-ltb, le-ltb}
use Rattle.clifford.specs.Metric.{metric}
use Rattle.clifford.specs.Sum.{δ}
use Rattle.clifford.specs.Placed.{stands}
use Rattle.clifford.specs.Algebra.{Clifford, word_value}
use Rattle.clifford.specs.Product.{Bijection, multiply}
use Rattle.clifford.specs.Multivector.{Multivector}
use Rattle.clifford.proofs.Ring.{mul_assoc, neg_mul, one_mul}
use Rattle.clifford.proofs.SumLaws.{δ_other}
use Rattle.clifford.proofs.AlgebraLaws.{stands_times}
use Rattle.clifford.proofs.VectorLaws.{stands_vector, stands_scalar, metric_squared, metric_exchanged, metric_above}
use Rattle.clifford.proofs.ProductLaws.{multiply_beyond, multiply_assoc, unit_multiply, multiply_unit, scaled_multiply, multiply_scaled, multiply_basis}

-- ---- multivectors

-- Two multivectors with the same coefficients at their places are one.
multivector_ext : {d : ℕ} (x y : Multivector d) → ((k : ℕ) → k < 2 ^ d → x.coefficient k ≡ y.coefficient k) → x ≡ y
multivector_ext {d} x y h = λ i. record { coefficient = same i; beyond = is_prop→PathP Beyond alike x.beyond y.beyond i }
  where
    same : x.coefficient ≡ y.coefficient
    same = fun_ext (λ k. elim (dec_lt k (2 ^ d)) [ yes l ↦ h k l | no l ↦ x.beyond k (omega arith) ∙ sym (y.beyond k (omega arith)) ])

    Beyond : 𝕀 → Type 0
    Beyond i = (k : ℕ) → 2 ^ d ≤ k → same i k ≡ pos 0

    alike : (i : 𝕀) → IsProp (Beyond i)
    alike i = Π_prop (λ k. Π_prop (λ l. ℤ_set (same i k) (pos 0)))

-- `cut d a` has the numbers of a at its places.
abbrev cut : (d : ℕ) → (ℕ → ℤ) → Multivector d
cut d a =
    record {
      coefficient = λ k. cond (ltb k (2 ^ d)) (a k) (pos 0);
      beyond = λ k h. ap (λ t. cond t (a k) (pos 0)) (le-ltb k (2 ^ d) h);
    }

cut_is : (d p : ℕ) → p < 2 ^ d → (cut d (δ p)).coefficient ≡ δ p
cut_is d p h = fun_ext (λ k. elim (dec_lt k (2 ^ d)) [
  | yes l ↦ ap (λ t. cond t (δ p k) (pos 0)) (lt-ltb k (2 ^ d) l)
  | no l ↦ ap (λ t. cond t (δ p k) (pos 0)) (le-ltb k (2 ^ d) (omega arith)) ∙ sym (δ_other p k (λ e. omega arith))
])

-- `scaled s x` has s times each coefficient.
abbrev scaled : {d : ℕ} → ℤ → Multivector d → Multivector d
scaled s x = record { coefficient = λ k. s *ℤ x.coefficient k; beyond = λ k h. ap (λ t. s *ℤ t) (x.beyond k h) ∙ *ℤ-zero s }

-- A sign can be taken away from both sides.
unsigned : {d : ℕ} (s : ℤ) → s *ℤ s ≡ pos 1 → (x y : Multivector d) → scaled s x ≡ scaled s y → x ≡ y
unsigned {d} s h x y e = sym (twice x) ∙ ap (scaled s) e ∙ twice y
  where
    twice : (z : Multivector d) → scaled s (scaled s z) ≡ z
    twice z = multivector_ext _ _ (λ k _. sym (mul_assoc s s (z.coefficient k)) ∙ ap (λ t. t *ℤ z.coefficient k) h ∙ one_mul (z.coefficient k))

module _ (g : ℕ → ℤ) (d : ℕ) (order place : ℕ → ℕ) (inverse : Bijection d order place) where
  open inverse use {place_lt, order_place}

  -- ---- the algebra

  abbrev times : Multivector d → Multivector d → Multivector d
  times x y =
      record {
        coefficient = multiply g d order place x.coefficient y.coefficient;
        beyond = multiply_beyond g d order place inverse x.coefficient y.coefficient;
      }

  -- `blade m` is 1 at the place of the mask m, and 0 elsewhere.
  abbrev pub blade : ℕ → Multivector d
  blade m = cut d (δ (place m))

  pub blade_is : (m : ℕ) → m < 2 ^ d → (blade m).coefficient ≡ δ (place m)
  blade_is m h = cut_is d (place m) (place_lt m h)

  -- Two masks' blades multiply to their metric times the blade of their xor.
  blades_times : (a b : ℕ) → a < 2 ^ d → b < 2 ^ d → times (blade a) (blade b) ≡ scaled (metric g d a b) (blade (bit_xor a b))
  blades_times a b ha hb = multivector_ext _ _ (λ k _.
      ap₂ (λ x y. multiply g d order place x y k) (blade_is a ha) (blade_is b hb)
      ∙ multiply_basis g d order place (place a) (place b) (place_lt a ha) (place_lt b hb) k
      ∙ ap₂ (λ (m n : ℕ). metric g d m n *ℤ δ (place (bit_xor m n)) k) (order_place a ha) (order_place b hb)
      ∙ ap (λ (f : ℕ → ℤ). metric g d a b *ℤ f k) (sym (blade_is (bit_xor a b) (xor_lt d a b ha hb))))

  vectors_exchanged : (i j : ℕ) → i < d → j < d → i ≢ j → times (blade (2 ^ i)) (blade (2 ^ j)) ≡ scaled (negsuc 0) (times (blade (2 ^ j)) (blade (2 ^ i)))
  vectors_exchanged i j hi hj n =
      blades_times (2 ^ i) (2 ^ j) (pow-lt hi) (pow-lt hj)
      ∙ ap₂ (λ (s : ℤ) (m : ℕ). scaled s (blade m)) (metric_exchanged g d i j hi hj n) (xor_comm (2 ^ i) (2 ^ j))
      ∙ multivector_ext _ _ (λ k _. minus (metric g d (2 ^ j) (2 ^ i)) ((blade (bit_xor (2 ^ j) (2 ^ i))).coefficient k))
      ∙ ap (scaled (negsuc 0)) (sym (blades_times (2 ^ j) (2 ^ i) (pow-lt hj) (pow-lt hi)))
    where
      minus : (a b : ℤ) → neg_ℤ a *ℤ b ≡ negsuc 0 *ℤ (a *ℤ b)
      minus a b = neg_mul a b ∙ sym (neg_mul (pos 1) (a *ℤ b) ∙ ap neg_ℤ (one_mul (a *ℤ b)))

  vector_squared : (i : ℕ) → i < d → times (blade (2 ^ i)) (blade (2 ^ i)) ≡ scaled (g i) (blade 0)
  vector_squared i h =
      blades_times (2 ^ i) (2 ^ i) (pow-lt h) (pow-lt h) ∙ ap₂ (λ (s : ℤ) (m : ℕ). scaled s (blade m)) (metric_squared g d i h) (xor_self (2 ^ i))

  -- The unit is the blade of the mask 0, and vector i that of the mask 2 ^ i.
  pub algebra : Clifford (Multivector d) g d
  algebra =
      record {
        ◌·◌ = times;
        unit = blade 0;
        ◌•◌ = scaled;
        e = λ i. blade (2 ^ i);
        assoc = λ x y z. multivector_ext _ _ (λ k _. multiply_assoc g d order place inverse x.coefficient y.coefficient z.coefficient k);
        unit_l = λ x. multivector_ext _ _ (λ k h.
            ap (λ u. multiply g d order place u x.coefficient k) (blade_is 0 (pow_pos d)) ∙ unit_multiply g d order place inverse x.coefficient k h);
        unit_r = λ x. multivector_ext _ _ (λ k h.
            ap (λ u. multiply g d order place x.coefficient u k) (blade_is 0 (pow_pos d)) ∙ multiply_unit g d order place inverse x.coefficient k h);
        one-• = λ x. multivector_ext _ _ (λ k _. one_mul (x.coefficient k));
        •-• = λ s t x. multivector_ext _ _ (λ k _. sym (mul_assoc s t (x.coefficient k)));
        •-l = λ s x y. multivector_ext _ _ (λ k _. scaled_multiply g d order place s x.coefficient y.coefficient k);
        •-r = λ s x y. multivector_ext _ _ (λ k _. multiply_scaled g d order place s x.coefficient y.coefficient k);
        exchanged = vectors_exchanged;
        squared = vector_squared;
      }

  open algebra use {◌·◌, e, unit_r}

  -- Its product is the product over the whole numbers.
  pub product_is : (x y : Multivector d) (k : ℕ) → (x · y).coefficient k ≡ multiply g d order place x.coefficient y.coefficient k
  unfolding algebra
  product_is x y k = refl

  -- Its basis vectors are 1 at their masks' places.
  pub vector_is : (i : ℕ) → i < d → (e i).coefficient ≡ δ (place (2 ^ i))
  unfolding algebra
  vector_is i h = blade_is (2 ^ i) (pow-lt h)

  -- ---- the words of masks

  word_vector : (n : ℕ) → n < d → word_value algebra (stands d (2 ^ n)) ≡ blade (2 ^ n)
  unfolding word_value algebra
  word_vector n l = rw (stands_vector d n l) (unit_r (blade (2 ^ n)))

  -- No vectors are the unit.
  pub word_none : word_value algebra (stands d 0) ≡ blade 0
  unfolding word_value algebra
  word_none = rw (stands_scalar d)

  -- After the vectors of the mask a comes the vector n above them.
  pub word_step : (n a : ℕ) → n < d → a < 2 ^ n → word_value algebra (stands d a) ≡ blade a → word_value algebra (stands d (bit_xor a (2 ^ n))) ≡ blade (bit_xor a (2 ^ n))
  unfolding algebra
  word_step n a l h below = unsigned (metric g d a (2 ^ n)) (metric_above g d n a h) (word_value algebra (stands d (bit_xor a (2 ^ n)))) (blade (bit_xor a (2 ^ n)))
      (sym (stands_times algebra a (2 ^ n)) ∙ ap₂ (λ x y. x · y) below (word_vector n l) ∙ blades_times a (2 ^ n) (omega (arith, pow-lt l)) (pow-lt l))
