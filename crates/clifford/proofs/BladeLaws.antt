-- The bits of a mask are a blade: `^` and `&` go bit by bit, and a mask below 2 ^ d is known by its d bits.
use mathlib.Core.Path.{◌≡◌, refl, sym, ◌∙◌, ap, fun_ext}
use mathlib.Core.Bool.{Bool, true, false, not, ◌&&◌, true≢false, false≢true}
use Prim.Native.Nat.{ℕ, zero, suc, ◌+◌, ◌-◌, ◌*◌, ◌/◌, ◌%◌, ◌^◌, ◌<◌, ◌≤◌}
use native.Mathlib.Omega.{arith}
use native.Mathlib.Nat.{mod-lt, zero-lt-suc, pow-suc, mul_comm, zero-mul, one-mul, lt_of_lt_of_le, div-one, div-div-eq-div-mul, div-eq_of_lt}
use lib.Dec.{eqb}
use lib.Pow.{pow_pos, pow_mono, high_ones}
use lib.Bits.{bit_xor, bit_and, xor_shr, xor_mod, xor_lt, xor_comm, xor_self, xor_zero_l, and_shr, and_mod, and_high}
use borrow.Author.Tests.{ne_eqb}
use Rattle.clifford.specs.Blade.{has, ◌⊻◌, ◌⊕◌}

-- ---- the xor of bits

pub ⊻-false : (x : Bool) → x ⊻ false ≡ x
⊻-false false = refl
⊻-false true = refl

pub ⊻-comm : (x y : Bool) → x ⊻ y ≡ y ⊻ x
⊻-comm false y = sym (⊻-false y)
⊻-comm true false = refl
⊻-comm true true = refl

pub ⊻-self : (x : Bool) → x ⊻ x ≡ false
⊻-self false = refl
⊻-self true = refl

pub ⊻-assoc : (x y z : Bool) → (x ⊻ y) ⊻ z ≡ x ⊻ (y ⊻ z)
⊻-assoc false y z = refl
⊻-assoc true false z = refl
⊻-assoc true true false = refl
⊻-assoc true true true = refl

-- ---- the bits of a mask

-- The bits of m are its lowest one and the bits of its half.
pub has_zero : (m : ℕ) → has m 0 ≡ eqb (m % 2) 1
unfolding has
has_zero m = rw div-one

pub has_suc : (m i : ℕ) → has m (suc i) ≡ has (m / 2) i
unfolding has
has_suc m i = ap (λ (p : ℕ). eqb (m / p % 2) 1) (pow-suc 2 i ∙ mul_comm (2 ^ i) 2) ∙ ap (λ (x : ℕ). eqb (x % 2) 1) (sym (div-div-eq-div-mul m 2 (2 ^ i)))

-- A mask below 2 ^ d has no bit from d up.
pub has_beyond : (d m i : ℕ) → m < 2 ^ d → d ≤ i → has m i ≡ false
unfolding has
has_beyond d m i h l = ap (λ (x : ℕ). eqb (x % 2) 1) (div-eq_of_lt (lt_of_lt_of_le h (pow_mono l)))

-- What holds of 0 and 1 holds of any two bits.
two_bits : (P : ℕ → ℕ → Type 0) → P 0 0 → P 0 1 → P 1 0 → P 1 1 → (x y : ℕ) → x < 2 → y < 2 → P x y
two_bits P oo oi io ii zero zero h k = oo
two_bits P oo oi io ii zero (suc zero) h k = oi
two_bits P oo oi io ii (suc zero) zero h k = io
two_bits P oo oi io ii (suc zero) (suc zero) h k = ii
two_bits P oo oi io ii zero (suc (suc y)) h k = absurd (omega arith)
two_bits P oo oi io ii (suc zero) (suc (suc y)) h k = absurd (omega arith)
two_bits P oo oi io ii (suc (suc x)) y h k = absurd (omega arith)

bit_lt : (m i : ℕ) → m / 2 ^ i % 2 < 2
bit_lt m i = mod-lt (m / 2 ^ i) (zero-lt-suc 1)

has_xor_at : (a b i : ℕ) → has (bit_xor a b) i ≡ has a i ⊻ has b i
unfolding has
has_xor_at a b i =
    ap (λ (x : ℕ). eqb (x % 2) 1) (xor_shr a b i) ∙ ap (λ (x : ℕ). eqb x 1) (xor_mod (a / 2 ^ i) (b / 2 ^ i) 1)
    ∙ two_bits (λ x y. eqb (bit_xor x y) 1 ≡ eqb x 1 ⊻ eqb y 1) refl refl refl refl (a / 2 ^ i % 2) (b / 2 ^ i % 2) (bit_lt a i) (bit_lt b i)

-- `a ^ b` is the xor of blades.
pub has_xor : (a b : ℕ) → has (bit_xor a b) ≡ has a ⊕ has b
has_xor a b = fun_ext (has_xor_at a b)

-- `a & b` holds the vectors that both hold.
pub has_and : (a b i : ℕ) → has (bit_and a b) i ≡ (has a i && has b i)
unfolding has
has_and a b i =
    ap (λ (x : ℕ). eqb (x % 2) 1) (and_shr a b i) ∙ ap (λ (x : ℕ). eqb x 1) (and_mod (a / 2 ^ i) (b / 2 ^ i) 1)
    ∙ two_bits (λ x y. eqb (bit_and x y) 1 ≡ (eqb x 1 && eqb y 1)) refl refl refl refl (a / 2 ^ i % 2) (b / 2 ^ i % 2) (bit_lt a i) (bit_lt b i)

-- `m & (1 << i) != 0` tests bit i.
pub has_bit : (m i : ℕ) → has m i ≡ not (eqb (bit_and m (2 ^ i)) 0)
unfolding has
has_bit m i = go (m / 2 ^ i % 2) (bit_lt m i) ∙ ap (λ (x : ℕ). not (eqb x 0)) (sym (ap (bit_and m) (power i) ∙ and_high m 1 i))
  where
    power : (i : ℕ) → 2 ^ i ≡ 2 ^ (1 + i) - 2 ^ i
    power i = sym (high_ones 1 i ∙ one-mul (2 ^ i))

    go : (x : ℕ) → x < 2 → eqb x 1 ≡ not (eqb (x * 2 ^ i) 0)
    go zero h = sym (ap (λ (x : ℕ). not (eqb x 0)) (zero-mul (2 ^ i)))
    go (suc zero) h = sym (ap not (ne_eqb (1 * 2 ^ i) 0 (λ e. omega (arith, pow_pos i))))
    go (suc (suc x)) h = absurd (omega arith)

-- ---- a mask by its bits

same_bit : (x y : ℕ) → x < 2 → y < 2 → eqb x 1 ≡ eqb y 1 → x ≡ y
same_bit = two_bits (λ x y. eqb x 1 ≡ eqb y 1 → x ≡ y) (λ e. refl) (λ e. absurd (false≢true e)) (λ e. absurd (true≢false e)) (λ e. refl)

-- Two masks below 2 ^ d with the same d bits are one.
pub has_ext : (d a b : ℕ) → a < 2 ^ d → b < 2 ^ d → ((i : ℕ) → i < d → has a i ≡ has b i) → a ≡ b
has_ext zero a b ha hb e = omega arith
has_ext (suc d) a b ha hb e =
    let low : a % 2 ≡ b % 2 = same_bit (a % 2) (b % 2) (mod-lt a (zero-lt-suc 1)) (mod-lt b (zero-lt-suc 1)) (sym (has_zero a) ∙ e 0 (omega arith) ∙ has_zero b) in
    let high : a / 2 ≡ b / 2 = has_ext d (a / 2) (b / 2) (omega arith) (omega arith) (λ i l. sym (has_suc a i) ∙ e (suc i) (omega arith) ∙ has_suc b i) in
    omega arith

pub xor_assoc : (d a b c : ℕ) → a < 2 ^ d → b < 2 ^ d → c < 2 ^ d → bit_xor (bit_xor a b) c ≡ bit_xor a (bit_xor b c)
xor_assoc d a b c ha hb hc =
    has_ext d (bit_xor (bit_xor a b) c) (bit_xor a (bit_xor b c)) (xor_lt d (bit_xor a b) c (xor_lt d a b ha hb) hc) (xor_lt d a (bit_xor b c) ha (xor_lt d b c hb hc))
    (λ i _. has_xor_at (bit_xor a b) c i ∙ ap (λ x. x ⊻ has c i) (has_xor_at a b i) ∙ ⊻-assoc (has a i) (has b i) (has c i)
    ∙ ap (λ x. has a i ⊻ x) (sym (has_xor_at b c i)) ∙ sym (has_xor_at a (bit_xor b c) i))

pub xor_cancel : (d a b : ℕ) → a < 2 ^ d → b < 2 ^ d → bit_xor b (bit_xor a b) ≡ a
xor_cancel d a b ha hb =
    ap (bit_xor b) (xor_comm a b) ∙ sym (xor_assoc d b b a hb hb ha) ∙ ap (λ (x : ℕ). bit_xor x a) (xor_self b) ∙ xor_zero_l a
