-- What `rnd` does: how far it moves a number, what it leaves alone, and that a factor that is a power of two passes through it. Assumes nothing.
use mathlib.Core.Path.{◌≡◌, refl, sym, ap, ◌∙◌, subst}
use mathlib.Core.Logic.{inl, inr}
use Prim.Native.Nat.{ℕ, zero, suc, ◌+◌, ◌-◌, ◌*◌, ◌/◌, ◌%◌, ◌^◌, ◌≤◌, ◌<◌, compare, Ordering}
use native.Mathlib.Nat.{le_trans, le_of_eq, le_of_lt, lt_of_lt_of_le, lt_of_not-le, not-le_of_lt, eq-or-lt_of_le, mul_comm, mul_assoc, mul-one, one-mul, mul-le-mul_right, le_of_mul-le-mul_right, lt_of_mul-lt-mul_right, div-add-mod', mod-lt, pow-suc}
use native.Mathlib.Omega.{arith}
use mathlib.Core.Bool.{not}
use lib.Dec.{T, is_le, compare_is_eq, eqb, leb→le, nleb→lt, eqb→eq, eqb_refl}
use lib.Arith.{lt_of_le-ne}
use lib.Pow.{pow-add, pow_pos, pow_mono, shl_lt}
use lib.Ieee.{size, nearest}
use lib.Ieee.Digits.{size-lt, size-le, size_reaches}
use lib.Ieee.Nearest.{closest, closest_same}
use Rattle.rounding.specs.Round.{rnd, Near}

-- ---- The nearest whole number is a half away at most.
-- What `compare` says of two numbers.
abbrev Compares : Ordering → ℕ → ℕ → Type 0
Compares Ordering.lt a b = a < b
Compares Ordering.eq a b = a ≡ b
Compares Ordering.gt a b = b < a

compares : (a b : ℕ) → Compares (compare a b) a b
compares a b = go (compare a b) (leb→le a b) (nleb→lt a b) (eqb→eq a b) (λ (e : a ≡ b). subst (λ (x : ℕ). T (eqb a x)) e (eqb_refl a))
  where
    go : (o : Ordering) → (T (is_le o) → a ≤ b) → (T (not (is_le o)) → b < a) → (T (compare_is_eq o) → a ≡ b) → (a ≡ b → T (compare_is_eq o)) → Compares o a b
    go Ordering.lt h k e n = lt_of_le-ne (h tt) n
    go Ordering.eq h k e n = e tt
    go Ordering.gt h k e n = k tt

-- c * b is a half of b at most away from a.
abbrev pub Half : ℕ → ℕ → ℕ → Type 0
Half a b c = (2 * (c * b) ≤ 2 * a + b) × (2 * a ≤ 2 * (c * b) + b)

tie : (q c r b : ℕ) → c < 2 → r * 2 ≡ b → Half (q * b + r) b (q + c)
tie q zero r b h e = omega arith
tie q (suc zero) r b h e = omega arith
tie q (suc (suc c)) r b h e = absurd (no c h)
  where
    no : (c : ℕ) → suc (suc c) < 2 → ⊥
    no c h = omega arith

parity : (q : ℕ) → q % 2 < 2
parity q = omega arith

nearest_half : (q : ℕ) (o : Ordering) (r b : ℕ) → r < b → Compares o (r * 2) b → Half (q * b + r) b (nearest q o)
nearest_half q Ordering.lt r b h k = omega arith
nearest_half q Ordering.eq r b h k = tie q (q % 2) r b (parity q) k
nearest_half q Ordering.gt r b h k = omega arith

pub closest_half : (a b : ℕ) → 0 < b → Half a b (closest a b)
closest_half a b B = subst (λ (x : ℕ). Half x b (closest a b)) (div-add-mod' a b) (nearest_half (a / b) (compare (a % b * 2) b) (a % b) b (mod-lt a B) (compares (a % b * 2) b))

-- How far two numbers are apart.
abbrev pub apart : ℕ → ℕ → ℕ
apart a b = (a - b) + (b - a)

-- Where it is a half away, it is even.
nearest_even : (q : ℕ) (o : Ordering) (r b : ℕ) → r < b → Compares o (r * 2) b → 2 * apart (q * b + r) (nearest q o * b) ≡ b → nearest q o % 2 ≡ 0
nearest_even q Ordering.lt r b h k e = omega arith
nearest_even q Ordering.eq r b h k e = omega arith
nearest_even q Ordering.gt r b h k e = omega arith

pub closest_even : (a b : ℕ) → 0 < b → 2 * apart a (closest a b * b) ≡ b → closest a b % 2 ≡ 0
closest_even a b B e =
    nearest_even (a / b) (compare (a % b * 2) b) (a % b) b (mod-lt a B) (compares (a % b * 2) b)
    (subst (λ (x : ℕ). 2 * apart x (closest a b * b) ≡ b) (sym (div-add-mod' a b)) e)

-- ---- `rnd p` moves n by n / 2 ^ p at most.
half_of_one : (n c Q : ℕ) → Half n 1 c → Near Q n (c * 1)
half_of_one n c Q h = let e : c * 1 ≡ n = omega arith in (rw e (omega arith), rw e (omega arith))

pub half_near : (n c b Q : ℕ) → Half n b c → b * Q ≤ 2 * n → Near Q n (c * b)
half_near n c b Q h k =
    let x : (2 * (c * b)) * Q ≤ (2 * n + b) * Q = mul-le-mul_right Q h.0 in
    let y : (2 * n) * Q ≤ (2 * (c * b) + b) * Q = mul-le-mul_right Q h.1 in
    (omega arith, omega arith)

pub rnd_near : (p n : ℕ) → Near (2 ^ p) n (rnd p n)
rnd_near p n = go (size n - p) refl
  where
    go : (k : ℕ) → size n - p ≡ k → Near (2 ^ p) n (closest n (2 ^ k) * 2 ^ k)
    go zero e = half_of_one n (closest n 1) (2 ^ p) (closest_half n 1 (pow_pos 0))
    go (suc k) e =
        let t : suc k + p ≡ suc (size n - 1) = omega arith in
        let r : 2 ^ (size n - 1) ≤ n = size_reaches n (size n - 1) (omega arith) in
        let x : 2 ^ suc k * 2 ^ p ≡ 2 * 2 ^ (size n - 1) = sym (pow-add 2 (suc k) p) ∙ ap (λ (z : ℕ). 2 ^ z) t ∙ pow-suc 2 (size n - 1) ∙ mul_comm (2 ^ (size n - 1)) 2 in
        half_near n (closest n (2 ^ suc k)) (2 ^ suc k) (2 ^ p) (closest_half n (2 ^ suc k) (pow_pos (suc k))) (omega arith)

-- ---- `rnd p` leaves a number of at most p digits alone, and so what it rounded itself.
half_multiple : (x b c : ℕ) → 0 < b → Half (x * b) b c → c ≡ x
half_multiple x b c B h =
    let l : 2 * c ≤ 2 * x + 1 = le_of_mul-le-mul_right {k = b} (omega arith) B in
    let g : 2 * x ≤ 2 * c + 1 = le_of_mul-le-mul_right {k = b} (omega arith) B in
    omega arith

pub split_pow : (q j k : ℕ) → k ≤ j → q * 2 ^ j ≡ q * 2 ^ (j - k) * 2 ^ k
split_pow q j k h =
    let e : j ≡ j - k + k = omega arith in
    ap (λ (x : ℕ). q * 2 ^ x) e ∙ ap (λ (x : ℕ). q * x) (pow-add 2 (j - k) k) ∙ sym (mul_assoc q (2 ^ (j - k)) (2 ^ k))

rnd_fix : (p n q j : ℕ) → n ≡ q * 2 ^ j → size n - p ≤ j → rnd p n ≡ n
rnd_fix p n q j e h =
    let k = size n - p in
    let x = q * 2 ^ (j - k) in
    let d : n ≡ x * 2 ^ k = e ∙ split_pow q j k h in
    ap (λ (z : ℕ). closest z (2 ^ k) * 2 ^ k) d ∙ ap (λ (z : ℕ). z * 2 ^ k) (half_multiple x (2 ^ k) (closest (x * 2 ^ k) (2 ^ k)) (pow_pos k) (closest_half (x * 2 ^ k) (2 ^ k) (pow_pos k))) ∙ sym d

rnd_below : (p q j : ℕ) → q < 2 ^ p → rnd p (q * 2 ^ j) ≡ q * 2 ^ j
rnd_below p q j h = rnd_fix p (q * 2 ^ j) q j refl (spare (size (q * 2 ^ j)) (size-le (q * 2 ^ j) (p + j) (shl_lt p j h)))
  where
    spare : (z : ℕ) → z ≤ p + j → z - p ≤ j
    spare z l = omega arith

rnd_top : (p j : ℕ) → 0 < p → rnd p (2 ^ p * 2 ^ j) ≡ 2 ^ p * 2 ^ j
rnd_top p j P =
    let n = 2 ^ p * 2 ^ j in
    let e : n ≡ 1 * 2 ^ (p + j) = sym (pow-add 2 p j) ∙ sym (one-mul (2 ^ (p + j))) in
    let l : size n ≤ suc (p + j) = size-le n (suc (p + j)) (subst (λ (x : ℕ). x < 2 ^ suc (p + j)) (pow-add 2 p j) (up (p + j))) in
    rnd_fix p n 1 (p + j) e (omega arith)
  where
    up : (j : ℕ) → 2 ^ j < 2 ^ suc j
    up j = let q = pow_pos j in omega arith

pub rnd_exact : (p q j : ℕ) → 0 < p → q ≤ 2 ^ p → rnd p (q * 2 ^ j) ≡ q * 2 ^ j
rnd_exact p q j P h = elim (eq-or-lt_of_le h) [ inl e ↦ subst (λ (x : ℕ). rnd p (x * 2 ^ j) ≡ x * 2 ^ j) (sym e) (rnd_top p j P) | inr l ↦ rnd_below p q j l ]

pub rnd_small : (p n : ℕ) → 0 < p → n ≤ 2 ^ p → rnd p n ≡ n
rnd_small p n P h = subst (λ (x : ℕ). rnd p x ≡ x) (mul-one n) (rnd_exact p n 0 P h)

pub closest_le : (a b B : ℕ) → 0 < b → a < B * b → closest a b ≤ B
closest_le a b B P h =
    let x = closest_half a b P in
    let l : 2 * closest a b < 2 * B + 1 = lt_of_mul-lt-mul_right b (omega arith) in
    omega arith

pub rnd_idem : (p n : ℕ) → 0 < p → rnd p (rnd p n) ≡ rnd p n
rnd_idem p n P =
    let k = size n - p in
    rnd_exact p (closest n (2 ^ k)) k P (closest_le n (2 ^ k) (2 ^ p) (pow_pos k)
    (lt_of_lt_of_le (size-lt n) (le_trans (pow_mono (cover (size n))) (le_of_eq (pow-add 2 p k)))))
  where
    cover : (z : ℕ) → z ≤ p + (z - p)
    cover z = omega arith

-- ---- A power of two passes through `rnd`.
pub size_above : (n j : ℕ) → 2 ^ j ≤ n → j < size n
size_above n j h = lt_of_not-le (λ (g : size n ≤ j). not-le_of_lt (lt_of_lt_of_le (size-lt n) (pow_mono g)) h)

size_shift : (n t : ℕ) → 0 < size n → size (n * 2 ^ t) ≡ size n + t
size_shift n t Z =
    let z = size n in
    let lo : 2 ^ (z - 1 + t) ≤ n * 2 ^ t = le_trans (le_of_eq (pow-add 2 (z - 1) t)) (mul-le-mul_right (2 ^ t) (size_reaches n (z - 1) (omega arith))) in
    let a : size (n * 2 ^ t) ≤ z + t = size-le (n * 2 ^ t) (z + t) (shl_lt z t (size-lt n)) in
    let b : z - 1 + t < size (n * 2 ^ t) = size_above (n * 2 ^ t) (z - 1 + t) lo in
    omega arith

pub rnd_scale : (p n t : ℕ) → 0 < p → rnd p (n * 2 ^ t) ≡ rnd p n * 2 ^ t
rnd_scale p n t P = go (size n - p) refl
  where
    go : (k : ℕ) → size n - p ≡ k → rnd p (n * 2 ^ t) ≡ rnd p n * 2 ^ t
    go zero e =
        let l : n ≤ 2 ^ p = le_of_lt (lt_of_lt_of_le (size-lt n) (pow_mono (omega arith))) in
        rnd_exact p n t P l ∙ ap (λ (x : ℕ). x * 2 ^ t) (sym (rnd_small p n P l))
    go (suc k) e =
        let j = size n - p in
        let s : size (n * 2 ^ t) ≡ size n + t = size_shift n t (omega arith) in
        let d : size (n * 2 ^ t) - p ≡ j + t = omega arith in
        ap (λ (x : ℕ). closest (n * 2 ^ t) (2 ^ x) * 2 ^ x) d
        ∙ ap (λ (x : ℕ). x * 2 ^ (j + t)) (closest_same (n * 2 ^ t) (2 ^ (j + t)) n (2 ^ j) (pow_pos (j + t)) (pow_pos j) (simp (mul_assoc, mul_comm, pow-add)))
        ∙ ap (λ (x : ℕ). closest n (2 ^ j) * x) (pow-add 2 j t)
        ∙ sym (mul_assoc (closest n (2 ^ j)) (2 ^ j) (2 ^ t))
