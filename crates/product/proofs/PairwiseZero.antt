-- A sum that starts at +0 never becomes -0: where its terms are whole numbers of the format's smallest value, a sum that is not zero does not round to zero. Assumes nothing.
use mathlib.Core.Path.{◌≡◌, refl, sym, ap, ap₂, ◌∙◌, subst}
use mathlib.Core.Bool.{Bool, true, false, not, beq, cond, false≢true}
use Prim.Native.Nat.{ℕ, zero, suc, ◌+◌, ◌-◌, ◌*◌, ◌/◌, ◌%◌, ◌^◌, ◌≤◌, ◌<◌, compare}
use native.Mathlib.Nat.{le_trans, lt_irrefl, mul_assoc, mul_comm, mul_right_comm, mul-le-mul_left, mul-pos, mul-div_cancel, zero-mul, zero-lt-suc, one-mul, le-div_iff_mul-le}
use native.Mathlib.Omega.{arith}
use lib.Dec.{T, ltb, ltb→lt}
use lib.Ieee.{Float, nan, inf, fin, Format, prec, emax, low, up, down, size, odd, units, round, sum, add, fits}
use lib.Ieee.Digits.{size-lt, size_reaches}
use lib.Ieee.Exact.{HasValue, odd_sign}
use lib.Ieee.Fits.{round_is, up_pos, down_pos, mul-fits}
use lib.Ieee.Nearest.{nearest-ge, closest}
use lib.Ieee.Scale.{finite}
use lib.IntN.{ℤ}
use lib.Pow.{pow_pos}
use Rattle.rounding.specs.Terms.{Term, prod, run}
use Rattle.rounding.specs.Value.{sign_of, size_in}
use Rattle.rounding.proofs.FitsLaws.{prec_pos, finite_whole}
use Rattle.rounding.proofs.OperationLaws.{sub_mul}
use Rattle.rounding.proofs.TermsLaws.{run_fits}

-- x is -0.
abbrev MinusZero : Float → Type 0
MinusZero x = (e : ℤ) × (x ≡ fin true 0 e)

-- ---- one rounding

product_zero : (a b : ℕ) → 0 < b → a * b ≡ 0 → a ≡ 0
product_zero zero b h e = refl
product_zero (suc a) b h e = absurd (lt_irrefl 0 (subst (λ (x : ℕ). 0 < x) e (mul-pos (zero-lt-suc a) h)))

-- What has the sign s and is a / c in size is -0 only where s is minus and the size is 0.
minus_zero_value : (x : Float) (s : Bool) (a c : ℕ) → HasValue x s a c → MinusZero x → (s ≡ true) × (a ≡ 0)
minus_zero_value x s a c v (e, z) =
    let w : HasValue (fin true 0 e) s a c = subst (λ (y : Float). HasValue y s a c) z v in
    (sym w.0, product_zero a (down e) (down_pos e) (sym w.1 ∙ ap (λ (y : ℕ). y * c) (zero-mul (up e)) ∙ zero-mul c))

units_minus_zero : (f : Format) (s : Bool) (q k : ℕ) → MinusZero (units f s q k) → (s ≡ true) × (q ≡ 0)
unfolding units
units_minus_zero f s q k = go (ltb (q * 2 ^ k) (2 ^ (low f + suc (emax f))))
  where
    go : (b : Bool) → MinusZero (cond b (odd (suc (prec f)) s q k (low f)) (inf s)) → (s ≡ true) × (q ≡ 0)
    go true z =
        let v = minus_zero_value (odd (suc (prec f)) s q k (low f)) s (q * 2 ^ k) (2 ^ low f) (odd_sign (suc (prec f)) s q k (low f)) z in
        (v.0, product_zero q (2 ^ k) (pow_pos k) v.1)
    go false (e, z) = absurd (subst (λ (x : Float). T (finite x)) (sym z) tt)

-- Of a whole number that is not 0, the leading digits are not 0.
leading : (p n : ℕ) → 0 < p → 0 < n → 2 ^ (size n - p) ≤ n
leading p n P h = size_reaches n (size n - p) (omega (arith, some (size n) (size-lt n)))
  where
    some : (z : ℕ) → n < 2 ^ z → 0 < z
    some zero l = absurd (omega arith)
    some (suc z) l = zero-lt-suc z

kept_zero : (p w den n : ℕ) → 0 < p → 0 < den → w ≡ n * den → closest w (den * 2 ^ (size (w / den) - p)) ≡ 0 → n ≡ 0
kept_zero p w den zero P D e z = refl
kept_zero p w den (suc n) P D e z =
    let same : w / den ≡ suc n = ap (λ (x : ℕ). x / den) e ∙ mul-div_cancel (suc n) D in
    let u = den * 2 ^ (size (w / den) - p) in
    let few : u ≤ w = subst (λ (x : ℕ). den * 2 ^ (size x - p) ≤ w) (sym same) (subst (λ (x : ℕ). den * 2 ^ (size (suc n) - p) ≤ x) (mul_comm den (suc n) ∙ sym e) (mul-le-mul_left den (leading p (suc n) P (zero-lt-suc n)))) in
    let some : 1 ≤ w / u = (le-div_iff_mul-le (mul-pos D (pow_pos (size (w / den) - p)))).1 (subst (λ (x : ℕ). x ≤ w) (sym (one-mul u)) few) in
    absurd (lt_irrefl 0 (subst (λ (x : ℕ). 1 ≤ x) z (le_trans some (nearest-ge (w / u) (compare (w % u * 2) u)))))

-- A whole number of the smallest values, which is not zero, is not rounded to zero.
pub round_minus_zero : (f : Format) (s : Bool) (num den n : ℕ) → 0 < den → num * 2 ^ low f ≡ n * den → MinusZero (round f s num den) → (s ≡ true) × (num ≡ 0)
round_minus_zero f s num den n D e z =
    let v = units_minus_zero f s _ (size (num * 2 ^ low f / den) - prec f) (subst MinusZero (round_is f s num den) z) in
    let none : n ≡ 0 = kept_zero (prec f) (num * 2 ^ low f) den n (prec_pos f) D e v.1 in
    (v.0, product_zero num (2 ^ low f) (pow_pos (low f)) (e ∙ ap (λ (x : ℕ). x * den) none ∙ zero-mul den))

-- ---- one addition

-- A difference of two whole numbers of smallest values is one.
pub minus_units : (f : Format) (c x y X Y : ℕ) → x * 2 ^ low f ≡ X * c → y * 2 ^ low f ≡ Y * c → (x - y) * 2 ^ low f ≡ (X - Y) * c
minus_units f c x y X Y v w = sub_mul x y (2 ^ low f) ∙ ap₂ (λ (m n : ℕ). m - n) v w ∙ sym (sub_mul X Y c)

-- A sum of a and b, each a whole number of smallest values, is -0 only where a has the sign minus and is 0.
module _ (f : Format) (a b c A B : ℕ) (C : 0 < c) (p : a * 2 ^ low f ≡ A * c) (q : b * 2 ^ low f ≡ B * c) where
  sum_minus_zero : (s t : Bool) → MinusZero (sum f s a t b c) → (s ≡ true) × (a ≡ 0)
  unfolding sum
  sum_minus_zero false false z = absurd (false≢true (round_minus_zero f false (a + b) c (A + B) C (omega arith) z).0)
  sum_minus_zero true true z = (refl, omega (arith, (round_minus_zero f true (a + b) c (A + B) C (omega arith) z).1))
  sum_minus_zero false true z = go (ltb a b) (ltb→lt a b) z
    where
      go : (x : Bool) → (T x → a < b) → MinusZero (cond x (round f true (b - a) c) (round f false (a - b) c)) → (false ≡ true) × (a ≡ 0)
      go true h z = let l : a < b = h tt in absurd (omega (arith, (round_minus_zero f true (b - a) c (B - A) C (minus_units f c b a B A q p) z).1))
      go false h z = absurd (false≢true (round_minus_zero f false (a - b) c (A - B) C (minus_units f c a b A B p q) z).0)
  sum_minus_zero true false z = go (ltb a b) (ltb b a) (ltb→lt b a) z
    where
      go : (x y : Bool) → (T y → b < a) → MinusZero (cond x (round f false (b - a) c) (round f y (a - b) c)) → (true ≡ true) × (a ≡ 0)
      go true y h z = absurd (false≢true (round_minus_zero f false (b - a) c (B - A) C (minus_units f c b a B A q p) z).0)
      go false true h z = let l : b < a = h tt in absurd (omega (arith, (round_minus_zero f true (a - b) c (A - B) C (minus_units f c a b A B p q) z).1))
      go false false h z = absurd (false≢true (round_minus_zero f false (a - b) c (A - B) C (minus_units f c a b A B p q) z).0)

-- What the format holds, over a denominator that it shares with another, is a whole number of smallest values: as the left one of the two, and as the right one.
pub left_units : (f : Format) (s : Bool) (m : ℕ) (e d : ℤ) → T (fits f (fin s m e)) → m * up e * down d * 2 ^ low f ≡ size_in (low f) (fin s m e) * (down e * down d)
left_units f s m e d h =
    let v : HasValue (fin s m e) s (size_in (low f) (fin s m e)) (2 ^ low f) = finite_whole f (fin s m e) tt h in
    mul_right_comm (m * up e) (down d) (2 ^ low f) ∙ ap (λ (x : ℕ). x * down d) v.1 ∙ mul_assoc (size_in (low f) (fin s m e)) (down e) (down d)

pub right_units : (f : Format) (s : Bool) (m : ℕ) (e d : ℤ) → T (fits f (fin s m e)) → m * up e * down d * 2 ^ low f ≡ size_in (low f) (fin s m e) * (down d * down e)
right_units f s m e d h = left_units f s m e d h ∙ ap (λ (x : ℕ). size_in (low f) (fin s m e) * x) (mul_comm (down e) (down d))

not_finite : (x : Float) → T (not (finite x)) → MinusZero x → ⊥
not_finite x h (e, z) = subst (λ (y : Float). T (not (finite y))) z h

-- Of two values that the format holds, the sum is -0 only where the left one is.
add_minus_zero : (f : Format) (x y : Float) → T (fits f x) → T (fits f y) → MinusZero (add f x y) → MinusZero x
unfolding add
add_minus_zero f nan y g h z = absurd (not_finite nan tt z)
add_minus_zero f (inf s) nan g h z = absurd (not_finite nan tt z)
add_minus_zero f (inf s) (inf t) g h z = absurd (not_finite _ (elim (beq s t) as (λ x. T (not (finite (cond x (inf s) nan)))) [ true ↦ tt | false ↦ tt ]) z)
add_minus_zero f (inf s) (fin t n d) g h z = absurd (not_finite (inf s) tt z)
add_minus_zero f (fin s m e) nan g h z = absurd (not_finite nan tt z)
add_minus_zero f (fin s m e) (inf t) g h z = absurd (not_finite (inf t) tt z)
add_minus_zero f (fin s m e) (fin t n d) g h z =
    let r =
    sum_minus_zero f (m * up e * down d) (n * up d * down e) (down e * down d) (size_in (low f) (fin s m e)) (size_in (low f) (fin t n d)) (mul-pos (down_pos e) (down_pos d)) (left_units f s m e d g) (right_units f t n d e h) s t z in
    (e, ap₂ (λ (x : Bool) (k : ℕ). fin x k e) r.0 (product_zero m (up e) (up_pos e) (product_zero (m * up e) (down d) (down_pos d) r.1)))

-- ---- a sum of terms

never : (f : Format) (ts : ℕ → Term) (n : ℕ) → MinusZero (run f ts n) → ⊥
never f ts zero (e, z) = false≢true (ap sign_of z)
never f ts (suc n) z = go (ts n).live (never f ts n) z
  where
    go : (b : Bool) → (MinusZero (run f ts n) → ⊥) → MinusZero (cond b (add f (run f ts n) (prod f (ts n))) (run f ts n)) → ⊥
    go true h z = h (add_minus_zero f (run f ts n) (prod f (ts n)) (run_fits f ts n) (mul-fits f _ (ts n).right) z)
    go false h z = h z

-- The first n terms add up to no -0.
pub run_never_minus_zero : (f : Format) (ts : ℕ → Term) (n : ℕ) (e : ℤ) → run f ts n ≡ fin true 0 e → ⊥
run_never_minus_zero f ts n e z = never f ts n (e, z)
