-- Values in finer units: a whole number of units is a whole number of smaller ones, the product over the whole numbers goes along, and finite floats that are as many units are equal numbers. Assumes nothing.
use mathlib.Core.Path.{◌≡◌, refl, sym, ap, ◌∙◌}
use mathlib.Core.Bool.{Bool, true, false, beq, ◌||◌, cond}
use Prim.Native.Nat.{ℕ, zero, suc, ◌+◌, ◌*◌, ◌/◌, ◌^◌, ◌<◌}
use native.Mathlib.Nat.{mul_assoc, mul_comm, mul_right_comm, zero-mul, mul-div_cancel, eq_of_mul-eq-mul_right}
use lib.Bits.{bit_xor}
use lib.Dec.{T, eqb}
use lib.Ieee.{Float, nan, inf, fin, up, down, eq}
use lib.Ieee.Exact.{HasValue}
use lib.Ieee.Fits.{down_pos, and_i, eq→eqb}
use lib.IntN.{ℤ, pos, neg_ℤ, ◌*ℤ◌, nat_abs, pos-ne-negsuc}
use lib.Pow.{pow-add, pow_pos}
use Rattle.clifford.specs.Sum.{δ}
use Rattle.clifford.specs.Metric.{metric}
use Rattle.clifford.specs.Product.{multiply}
use Rattle.clifford.proofs.Ring.{product, neg_mul}
use Rattle.clifford.proofs.SumLaws.{sum_ext, sum_mul}
use Rattle.rounding.specs.Value.{sign_of, size_in, Whole}
use Rattle.rounding.proofs.ValueLaws.{rescale}
use Rattle.masks.specs.declared.flavor.Flavor.{Flavor}
use Rattle.masks.specs.Order.{place}
use Rattle.masks.specs.Flavor.{metric_of}
use Rattle.product.specs.Pairwise.{mask_at}
use Rattle.product.specs.Whole.{whole}
use Rattle.product.specs.Accuracy.{value_in, IsExactly}

-- ---- a float's value, as its sign and size

pub sign_is : (u : ℕ) (x : Float) (s : Bool) (n : ℕ) → HasValue x s n (2 ^ u) → sign_of x ≡ s
sign_is u nan s n v = absurd v
sign_is u (inf t) s n v = absurd v
sign_is u (fin t m e) s n v = v.0

pub size_is : (u : ℕ) (x : Float) (s : Bool) (n : ℕ) → HasValue x s n (2 ^ u) → size_in u x ≡ n
size_is u nan s n v = absurd v
size_is u (inf t) s n v = absurd v
size_is u (fin t m e) s n v = ap (λ (x : ℕ). x / down e) v.1 ∙ mul-div_cancel n (down_pos e)

pub value_whole : (u : ℕ) (x : Float) (s : Bool) (n : ℕ) → HasValue x s n (2 ^ u) → Whole u x
value_whole u x s n v = rw (sign_is u x s n v, size_is u x s n v) v

-- ---- finer units

module _ (p r : ℕ) (x : Float) (w : Whole p x) where
  finer : HasValue x (sign_of x) (size_in p x * 2 ^ r) (2 ^ (p + r))
  finer = rescale x (sign_of x) (size_in p x) (2 ^ p) (size_in p x * 2 ^ r) (2 ^ (p + r)) (pow_pos p) (units (size_in p x)) w
    where
      units : (n : ℕ) → n * 2 ^ r * 2 ^ p ≡ n * 2 ^ (p + r)
      units n = mul_assoc n (2 ^ r) (2 ^ p) ∙ ap (λ (y : ℕ). n * y) (mul_comm (2 ^ r) (2 ^ p) ∙ sym (pow-add 2 p r))

  pub whole_finer : Whole (p + r) x
  whole_finer = value_whole (p + r) x (sign_of x) (size_in p x * 2 ^ r) finer

  pub value_finer : value_in (p + r) x ≡ value_in p x *ℤ pos (2 ^ r)
  unfolding value_in
  value_finer = rw (size_is (p + r) x (sign_of x) (size_in p x * 2 ^ r) finer) (scaled (sign_of x) (size_in p x) (2 ^ r))
    where
      scaled : (s : Bool) (n m : ℕ) → cond s (neg_ℤ (pos (n * m))) (pos (n * m)) ≡ cond s (neg_ℤ (pos n)) (pos n) *ℤ pos m
      scaled true n m = sym (neg_mul (pos n) (pos m))
      scaled false n m = refl

pub exactly_finer : (u r : ℕ) (x : Float) (e : ℤ) → IsExactly u x e → IsExactly (u + r) x (e *ℤ pos (2 ^ r))
exactly_finer u r x e h = (whole_finer u r x h.0, value_finer u r x h.0 ∙ ap (λ z. z *ℤ pos (2 ^ r)) h.1)

-- ---- the product over the whole numbers

module _ (flavor : Flavor) (d : ℕ) (a b : ℕ → ℤ) (k : ℕ) where
  -- It rests on the coefficients of the 2 ^ d places alone.
  pub whole_ext : (x y : ℕ → ℤ) → ((i : ℕ) → i < 2 ^ d → a i ≡ x i) → ((i : ℕ) → i < 2 ^ d → b i ≡ y i) → whole flavor d a b k ≡ whole flavor d x y k
  unfolding multiply
  whole_ext x y f g = sum_ext (2 ^ d) _ _ (λ j hj. sum_ext (2 ^ d) _ _ (λ i hi. rw (f i hi, g j hj)))

  -- Multiples of the factors have a multiple of the product.
  pub whole_scaled : (m n : ℤ) → whole flavor d (λ i. a i *ℤ m) (λ i. b i *ℤ n) k ≡ whole flavor d a b k *ℤ (m *ℤ n)
  unfolding multiply
  whole_scaled m n =
      sum_ext (2 ^ d) _ _ (λ j _.
      sum_ext (2 ^ d) _ _ (λ i _. out (δ (place d (bit_xor (mask_at d i) (mask_at d j))) k) (metric (metric_of flavor) d (mask_at d i) (mask_at d j)) (a i) (b j) m n)
      ∙ sym (sum_mul (2 ^ d) (m *ℤ n) _))
      ∙ sym (sum_mul (2 ^ d) (m *ℤ n) _) ∙ last (m *ℤ n) _
    where
      out : (s t x y m n : ℤ) → s *ℤ (t *ℤ (x *ℤ m) *ℤ (y *ℤ n)) ≡ (m *ℤ n) *ℤ (s *ℤ (t *ℤ x *ℤ y))
      out s t x y m n = simp product

      last : (x y : ℤ) → x *ℤ y ≡ y *ℤ x
      last x y = simp product

-- ---- equal numbers

cross : (a b c d n k : ℕ) → 0 < c → a * c ≡ n * b → d * c ≡ n * k → a * k ≡ d * b
cross a b c d n k C p q =
    eq_of_mul-eq-mul_right c C (a * k) (d * b)
    (mul_right_comm a k c ∙ ap (λ (x : ℕ). x * k) p ∙ mul_right_comm n b k ∙ ap (λ (x : ℕ). x * b) (sym q) ∙ mul_right_comm d c b)

signed_size : (s t : Bool) (n m : ℕ) → cond s (neg_ℤ (pos n)) (pos n) ≡ cond t (neg_ℤ (pos m)) (pos m) → n ≡ m
signed_size s t n m e = sym (back s n) ∙ ap nat_abs e ∙ back t m
  where
    back : (s : Bool) (n : ℕ) → nat_abs (cond s (neg_ℤ (pos n)) (pos n)) ≡ n
    back true zero = refl
    back true (suc n) = refl
    back false n = refl

-- Signs that are unlike are those of zeros.
signs : (s t : Bool) (n m : ℕ) (z : Bool) → cond s (neg_ℤ (pos n)) (pos n) ≡ cond t (neg_ℤ (pos m)) (pos m) → (n ≡ 0 → T z) → T (beq s t || z)
signs true true n m z e f = tt
signs false false n m z e f = tt
signs true false zero m z e f = f refl
signs true false (suc n) m z e f = absurd (pos-ne-negsuc m n (sym e))
signs false true n zero z e f = f (ap nat_abs e)
signs false true n (suc m) z e f = absurd (pos-ne-negsuc n m e)

pub equal_numbers : (u : ℕ) (x y : Float) → Whole u x → Whole u y → value_in u x ≡ value_in u y → T (eq x y)
unfolding value_in eq
equal_numbers u nan y p q e = absurd p
equal_numbers u (inf s) y p q e = absurd p
equal_numbers u (fin s m g) nan p q e = absurd q
equal_numbers u (fin s m g) (inf t) p q e = absurd q
equal_numbers u (fin s m g) (fin t n h) p q e =
    let N = size_in u (fin s m g) in
    let M = size_in u (fin t n h) in
    let a = m * up g * down h in
    let b = n * up h * down g in
    let same : M ≡ N = sym (signed_size s t N M e) in
    and_i (eqb a b) (beq s t || eqb a 0)
    (eq→eqb (cross (m * up g) (down g) (2 ^ u) (n * up h) N (down h) (pow_pos u) p.1 (q.1 ∙ ap (λ (x : ℕ). x * down h) same)))
    (signs s t N M (eqb a 0) e
    (λ z.
    eq→eqb
    (cross (m * up g) (down g) (2 ^ u) 0 N (down h) (pow_pos u) p.1 (zero-mul (2 ^ u) ∙ sym (ap (λ (x : ℕ). x * down h) z ∙ zero-mul (down h)))
    ∙ zero-mul (down g))))
