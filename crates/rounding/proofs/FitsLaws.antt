-- The values that a format holds: they round to themselves, are whole numbers of its smallest, and are told apart by sign and size. Assumes nothing.
use mathlib.Core.Path.{◌≡◌, refl, sym, ap, ◌∙◌, subst}
use Prim.Native.Nat.{ℕ, zero, suc, ◌+◌, ◌-◌, ◌*◌, ◌%◌, ◌^◌, ◌≤◌, ◌<◌}
use native.Mathlib.Nat.{le_of_lt, lt_irrefl, mul_comm, mul_assoc, mul_left_comm, mul_right_comm, mul-one, one-mul, zero-mul, mul-pos, mul-le-mul_left, mul-le-mul_right, mul-lt-mul_of_pos_right, lt_of_mul-lt-mul_right, eq_of_mul-eq-mul_right, pow-suc, pow-succ', zero-lt-suc}
use native.Mathlib.Omega.{arith}
use mathlib.Core.Bool.{Bool, true, false, not, ◌&&◌}
use lib.IntN.{ℤ, pos, negsuc}
use lib.Dec.{T, ltb, leb, eqb, leb→le, nleb→lt, ltb→lt, eqb→eq}
use lib.Pow.{pow-add, pow_pos, pow-lt}
use lib.Ieee.{Float, nan, inf, fin, Format, prec, emax, low, up, down, fits}
use lib.Ieee.Fits.{two, two-le_pos, down_pos, up_pos, and_l, and_r}
use lib.Ieee.Exact.{HasValue}
use lib.Ieee.Scale.{finite}
use Rattle.rounding.specs.Round.{rnd}
use Rattle.rounding.specs.Operation.{cap}
use Rattle.rounding.specs.Value.{Whole}
use Rattle.rounding.proofs.RoundLaws.{split_pow, rnd_exact, rnd_small}
use Rattle.rounding.proofs.ValueLaws.{zero_whole, whole_exp}

-- ---- What `fits` says of a number.
pub prec_pos : (f : Format) → 0 < prec f
prec_pos f = two-le_pos (prec f) (two f)

pub fits_parts : (f : Format) (s : Bool) (m : ℕ) (e : ℤ) → T (fits f (fin s (suc m) e)) → (suc m % 2 ≡ 1) × (suc m < 2 ^ prec f) × (down e ≤ 2 ^ low f) × (suc m * up e < 2 ^ suc (emax f) * down e)
unfolding fits
fits_parts f s m e t =
    let a = eqb (suc m % 2) 1 in
    let b = ltb (suc m) (2 ^ prec f) in
    let c = leb (down e) (2 ^ low f) in
    let d = ltb (suc m * up e) (2 ^ suc (emax f) * down e) in
    let x = and_l (a && b && c) d t in
    let y = and_l (a && b) c x in
    (eqb→eq (suc m % 2) 1 (and_l a b y), ltb→lt (suc m) (2 ^ prec f) (and_r a b y), leb→le (down e) (2 ^ low f) (and_r (a && b) c x), ltb→lt (suc m * up e) (2 ^ suc (emax f) * down e) (and_r (a && b && c) d t))

pub fits_prec : (f : Format) (s : Bool) (m : ℕ) (e : ℤ) → T (fits f (fin s m e)) → m < 2 ^ prec f
fits_prec f s zero e t = pow_pos (prec f)
fits_prec f s (suc m) e t = (fits_parts f s m e t).1

pub fits_top : (f : Format) (s : Bool) (m : ℕ) (e : ℤ) → T (fits f (fin s m e)) → m * up e < 2 ^ suc (emax f) * down e
fits_top f s zero e t = subst (λ (x : ℕ). x < 2 ^ suc (emax f) * down e) (sym (zero-mul (up e))) (mul-pos (pow_pos (suc (emax f))) (down_pos e))
fits_top f s (suc m) e t = (fits_parts f s m e t).3

pub fits_down : (f : Format) (s : Bool) (m : ℕ) (e : ℤ) → T (fits f (fin s m e)) → down e ≤ 2 ^ low f
unfolding fits
fits_down f s zero e t = one (up e) (down e) (2 ^ low f) (up_pos e) (pow_pos (low f)) (eqb→eq (up e * down e) 1 t)
  where
    one : (a b c : ℕ) → 0 < a → 0 < c → a * b ≡ 1 → b ≤ c
    one a b c A C h = let x : 1 * b ≤ a * b = mul-le-mul_right b A in omega arith
fits_down f s (suc m) e t = (fits_parts f s m e t).2

-- ---- A value that fits: its units round to themselves, and are below the cap.
units_rnd : (p u m : ℕ) (e : ℤ) (n : ℕ) → 0 < p → m < 2 ^ p → m * up e * 2 ^ u ≡ n * down e → rnd p n ≡ n
units_rnd p u m (pos k) n P h v =
    let w : n ≡ m * 2 ^ (k + u) = sym (mul-one n) ∙ sym v ∙ mul_assoc m (2 ^ k) (2 ^ u) ∙ ap (λ (x : ℕ). m * x) (sym (pow-add 2 k u)) in
    subst (λ (x : ℕ). rnd p x ≡ x) (sym w) (rnd_exact p m (k + u) P (le_of_lt h))
units_rnd p u m (negsuc k) n P h v = go (leb (suc k) u) (leb→le (suc k) u) (nleb→lt (suc k) u)
  where
    go : (b : Bool) → (T b → suc k ≤ u) → (T (not b) → u < suc k) → rnd p n ≡ n
    go true l r =
        let j = u - suc k in
        let w : m * 2 ^ j ≡ n = eq_of_mul-eq-mul_right (2 ^ suc k) (pow_pos (suc k)) (m * 2 ^ j) n (sym (split_pow m u (suc k) (l tt)) ∙ ap (λ (x : ℕ). x * 2 ^ u) (sym (mul-one m)) ∙ v) in
        subst (λ (x : ℕ). rnd p x ≡ x) w (rnd_exact p m j P (le_of_lt h))
    go false l r =
        let j = suc k - u in
        let w : n * 2 ^ j ≡ m = eq_of_mul-eq-mul_right (2 ^ u) (pow_pos u) (n * 2 ^ j) m (sym (split_pow n (suc k) u (le_of_lt (r tt))) ∙ sym v ∙ ap (λ (x : ℕ). x * 2 ^ u) (mul-one m)) in
        let y : n * 1 ≤ n * 2 ^ j = mul-le-mul_left n (pow_pos j) in
        rnd_small p n P (omega arith)

pub fits_rnd : (f : Format) (u : ℕ) (x : Float) (s : Bool) (n : ℕ) → T (fits f x) → HasValue x s n (2 ^ u) → rnd (prec f) n ≡ n
fits_rnd f u nan s n t v = absurd v
fits_rnd f u (inf s') s n t v = absurd v
fits_rnd f u (fin s' m e) s n t v = units_rnd (prec f) u m e n (prec_pos f) (fits_prec f s' m e t) v.1

pub fits_cap : (f : Format) (u : ℕ) (x : Float) (s : Bool) (n : ℕ) → T (fits f x) → HasValue x s n (2 ^ u) → n < cap f u
fits_cap f u nan s n t v = absurd v
fits_cap f u (inf s') s n t v = absurd v
fits_cap f u (fin s' m e) s n t v =
    lt_of_mul-lt-mul_right (down e)
    (subst (λ (x : ℕ). x < cap f u * down e) v.1
    (subst (λ (x : ℕ). m * up e * 2 ^ u < x) (mul_right_comm (2 ^ suc (emax f)) (down e) (2 ^ u) ∙ ap (λ (x : ℕ). x * down e) (mul_comm (2 ^ suc (emax f)) (2 ^ u) ∙ sym (pow-add 2 u (suc (emax f)))))
    (mul-lt-mul_of_pos_right (fits_top f s' m e t) (pow_pos u))))

-- ---- A finite value that fits is a whole number of the format's smallest.
pub finite_whole : (f : Format) (x : Float) → T (finite x) → T (fits f x) → Whole (low f) x
finite_whole f nan h t = absurd h
finite_whole f (inf s) h t = absurd h
finite_whole f (fin s zero e) h t = zero_whole (low f) s e
finite_whole f (fin s (suc m) e) h t = whole_exp (low f) s (suc m) e (fits_parts f s m e t).2

-- ---- Two values that fit and are the same number with the same sign are the same data.
-- An odd number times a power of two is so in one way.
even_odd : (m t : ℕ) → m % 2 ≡ 1 → m ≡ 2 * t → ⊥
even_odd m t o h = omega arith

odd_pow : (m n a b : ℕ) → m % 2 ≡ 1 → n % 2 ≡ 1 → m * 2 ^ a ≡ n * 2 ^ b → (m ≡ n) × (a ≡ b)
odd_pow m n zero zero o p h = (sym (mul-one m) ∙ h ∙ mul-one n, refl)
odd_pow m n zero (suc b) o p h = absurd (even_odd m (n * 2 ^ b) o (sym (mul-one m) ∙ h ∙ ap (λ (x : ℕ). n * x) (pow-succ' 2 b) ∙ mul_left_comm n 2 (2 ^ b)))
odd_pow m n (suc a) zero o p h = absurd (even_odd n (m * 2 ^ a) p (sym (mul-one n) ∙ sym h ∙ ap (λ (x : ℕ). m * x) (pow-succ' 2 a) ∙ mul_left_comm m 2 (2 ^ a)))
odd_pow m n (suc a) (suc b) o p h =
    let r = odd_pow m n a b o p (eq_of_mul-eq-mul_right 2 (zero-lt-suc 1) (m * 2 ^ a) (n * 2 ^ b)
    (mul_assoc m (2 ^ a) 2 ∙ ap (λ (x : ℕ). m * x) (sym (pow-suc 2 a)) ∙ h ∙ ap (λ (x : ℕ). n * x) (pow-suc 2 b) ∙ sym (mul_assoc n (2 ^ b) 2))) in
    (r.0, ap suc r.1)

-- The exponents of `up` and `down`.
up_exp : ℤ → ℕ
up_exp (pos k) = k
up_exp (negsuc k) = 0

down_exp : ℤ → ℕ
down_exp (pos k) = 0
down_exp (negsuc k) = suc k

up_is : (e : ℤ) → up e ≡ 2 ^ up_exp e
unfolding up_exp
up_is (pos k) = refl
up_is (negsuc k) = refl

down_is : (e : ℤ) → down e ≡ 2 ^ down_exp e
unfolding down_exp
down_is (pos k) = refl
down_is (negsuc k) = refl

exp_eq : (e g : ℤ) → up_exp e + down_exp g ≡ up_exp g + down_exp e → e ≡ g
unfolding up_exp down_exp
exp_eq (pos k) (pos j) h = let x : k ≡ j = omega arith in ap pos x
exp_eq (negsuc k) (negsuc j) h = let x : k ≡ j = omega arith in ap negsuc x
exp_eq (pos k) (negsuc j) h = absurd (no k j h)
  where
    no : (k j : ℕ) → k + suc j ≡ 0 + 0 → ⊥
    no k j h = omega arith
exp_eq (negsuc k) (pos j) h = absurd (no k j h)
  where
    no : (k j : ℕ) → 0 + 0 ≡ j + suc k → ⊥
    no k j h = omega arith

zero_exp : (f : Format) (s : Bool) (e : ℤ) → T (fits f (fin s zero e)) → e ≡ pos 0
unfolding fits
zero_exp f s e t = flat e (eqb→eq (up e * down e) 1 t)
  where
    flat : (e : ℤ) → up e * down e ≡ 1 → e ≡ pos 0
    flat (pos zero) h = refl
    flat (pos (suc k)) h = absurd (lt_irrefl 1 (subst (λ (x : ℕ). 1 < x) (sym (mul-one (2 ^ suc k)) ∙ h) (pow-lt (zero-lt-suc k))))
    flat (negsuc k) h = absurd (lt_irrefl 1 (subst (λ (x : ℕ). 1 < x) (sym (one-mul (2 ^ suc k)) ∙ h) (pow-lt (zero-lt-suc k))))

cross : (a b c d n k : ℕ) → 0 < c → a * c ≡ n * b → d * c ≡ n * k → a * k ≡ d * b
cross a b c d n k C p q = eq_of_mul-eq-mul_right c C (a * k) (d * b) (mul_right_comm a k c ∙ ap (λ (x : ℕ). x * k) p ∙ mul_right_comm n b k ∙ ap (λ (x : ℕ). x * b) (sym q) ∙ mul_right_comm d c b)

no_value : (m : ℕ) (u d v c : ℕ) → 0 < u → 0 < d → suc m * u * d ≡ zero * v * c → ⊥
no_value m u d v c U D h = lt_irrefl 0 (subst (λ (x : ℕ). 0 < x) (h ∙ ap (λ (x : ℕ). x * c) (zero-mul v) ∙ zero-mul c) (mul-pos (mul-pos (zero-lt-suc m) U) D))

pub unique : (f : Format) (x y : Float) (s : Bool) (a c : ℕ) → 0 < c → T (fits f x) → T (fits f y) → HasValue x s a c → HasValue y s a c → x ≡ y
unique f nan y s a c C p q v w = absurd v
unique f (inf t) y s a c C p q v w = absurd v
unique f (fin t m e) nan s a c C p q v w = absurd w
unique f (fin t m e) (inf t') s a c C p q v w = absurd w
unique f (fin t zero e) (fin u zero g) s a c C p q v w = λ i. fin ((v.0 ∙ sym w.0) i) zero ((zero_exp f t e p ∙ sym (zero_exp f u g q)) i)
unique f (fin t zero e) (fin u (suc n) g) s a c C p q v w = absurd (no_value n (up g) (down e) (up e) (down g) (up_pos g) (down_pos e) (cross (suc n * up g) (down g) c (zero * up e) a (down e) C w.1 v.1))
unique f (fin t (suc m) e) (fin u zero g) s a c C p q v w = absurd (no_value m (up e) (down g) (up g) (down e) (up_pos e) (down_pos g) (cross (suc m * up e) (down e) c (zero * up g) a (down g) C v.1 w.1))
unique f (fin t (suc m) e) (fin u (suc n) g) s a c C p q v w =
    let h : suc m * up e * down g ≡ suc n * up g * down e = cross (suc m * up e) (down e) c (suc n * up g) a (down g) C v.1 w.1 in
    let r = odd_pow (suc m) (suc n) (up_exp e + down_exp g) (up_exp g + down_exp e) (fits_parts f t m e p).0 (fits_parts f u n g q).0 (sym (flatten (suc m) e g) ∙ h ∙ flatten (suc n) g e) in
    λ i. fin ((v.0 ∙ sym w.0) i) (r.0 i) (exp_eq e g r.1 i)
  where
    flatten : (m : ℕ) (e g : ℤ) → m * up e * down g ≡ m * 2 ^ (up_exp e + down_exp g)
    flatten m e g = mul_assoc m (up e) (down g) ∙ ap (λ (x : ℕ). m * (x * down g)) (up_is e) ∙ ap (λ (x : ℕ). m * (2 ^ up_exp e * x)) (down_is g) ∙ ap (λ (x : ℕ). m * x) (sym (pow-add 2 (up_exp e) (down_exp g)))
