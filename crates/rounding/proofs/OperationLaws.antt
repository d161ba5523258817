-- One operation on floats, in units of 2 ^ -u: an exact result of n units is rounded to `rnd (prec f) n` units, for every u up to `low f`. So sums and products need no word of the normal range. Assumes nothing.
use mathlib.Core.Path.{◌≡◌, refl, sym, ap, ◌∙◌, subst}
use Prim.Native.Nat.{ℕ, zero, suc, ◌+◌, ◌-◌, ◌*◌, ◌/◌, ◌^◌, ◌≤◌, ◌<◌, zero-le}
use native.Mathlib.Nat.{le_refl, le_trans, le_of_eq, le_of_lt, mul_comm, mul_assoc, mul_right_comm, one-mul, zero-add, mul-pos, mul-div_cancel, mul-le-mul_right, mul-lt-mul_of_pos_right, le_of_mul-le-mul_right, mul-sub, le-div_iff_mul-le, pow-suc}
use native.Mathlib.Omega.{arith}
use mathlib.Core.Bool.{Bool, true, false, not, cond}
use lib.Dec.{T, ltb, ltb→lt, nltb→le, lit≤}
use lib.Pow.{pow-add, pow_pos, pow_mono}
use lib.Ieee.{Float, nan, inf, fin, Format, binary32, binary64, prec, emax, low, unlike, up, down, size, units, odd, round, sum, add, mul, neg, fits}
use lib.Ieee.Fits.{core, round_is, down_pos, cond-fits, mul-fits, neg-fits}
use lib.Ieee.Exact.{HasValue, units_val}
use lib.Ieee.Nearest.{closest, closest_same}
use lib.Ieee.Digits.{size_reaches}
use lib.Ieee.Scale.{round_same, grid, overflow, normal_of_fraction, finite}
use Rattle.rounding.specs.Round.{rnd, Near}
use Rattle.rounding.specs.Operation.{cap, RoundedSum, signed_one}
use Rattle.rounding.specs.Value.{sign_of, size_in}
use Rattle.rounding.proofs.RoundLaws.{split_pow, rnd_scale, half_near, closest_half}
use Rattle.rounding.proofs.ValueLaws.{rescale, neg_value}
use Rattle.rounding.proofs.FitsLaws.{prec_pos, fits_rnd, fits_cap, finite_whole, unique}

-- ---- One rounding.
pub round_rnd : (f : Format) (s : Bool) (num den u n : ℕ) → 0 < den → u ≤ low f → num * 2 ^ u ≡ n * den → rnd (prec f) n < cap f u → HasValue (round f s num den) s (rnd (prec f) n) (2 ^ u)
round_rnd f s num den u n D U e small =
    let l = low f in
    let p = prec f in
    let t = l - u in
    let M = n * 2 ^ t in
    let nl : n * 2 ^ l ≡ M * 2 ^ u = split_pow n l u U in
    let dv : n * 2 ^ l / 2 ^ u ≡ M = ap (λ (x : ℕ). x / 2 ^ u) nl ∙ mul-div_cancel M (pow_pos u) in
    let k = size M - p in
    let is : round f s num den ≡ units f s (closest M (2 ^ k)) k =
    round_same f s num den n (2 ^ u) D (pow_pos u) e
    ∙ round_is f s n (2 ^ u)
    ∙ ap (λ (x : ℕ). core f s (n * 2 ^ l) (2 ^ u) (size x - p)) dv
    ∙ ap (λ (x : ℕ). units f s x k) (closest_same (n * 2 ^ l) (2 ^ u * 2 ^ k) M (2 ^ k) (mul-pos (pow_pos u) (pow_pos k)) (pow_pos k) (ap (λ (x : ℕ). x * 2 ^ k) nl ∙ mul_assoc M (2 ^ u) (2 ^ k))) in
    let sc : rnd p M ≡ rnd p n * 2 ^ t = rnd_scale p n t (prec_pos f) in
    let cp : cap f u * 2 ^ t ≡ 2 ^ (l + suc (emax f)) = sym (pow-add 2 (u + suc (emax f)) t) ∙ ap (λ (x : ℕ). 2 ^ x) (omega arith) in
    let fine : rnd p M < 2 ^ (l + suc (emax f)) = subst (λ (x : ℕ). rnd p M < x) cp (subst (λ (x : ℕ). x < cap f u * 2 ^ t) (sym sc) (mul-lt-mul_of_pos_right small (pow_pos t))) in
    rescale (round f s num den) s (rnd p M) (2 ^ l) (rnd p n) (2 ^ u) (pow_pos l)
    (split_pow (rnd p n) l u U ∙ ap (λ (x : ℕ). x * 2 ^ u) (sym sc))
    (subst (λ (x : Float). HasValue x s (rnd p M) (2 ^ l)) (sym is) (units_val f s (closest M (2 ^ k)) k fine))

-- A fraction that is no whole number of units, as a quotient is: in the normal range it is rounded to within 2 ^ -prec of itself.
pub round_fraction : (f : Format) (s : Bool) (num den : ℕ) → 0 < den → 2 ^ (prec f - 1) * den ≤ num * 2 ^ low f → grid f num den < overflow f
    → HasValue (round f s num den) s (grid f num den) (2 ^ low f) × Near (2 ^ prec f) (num * 2 ^ low f) (grid f num den * den)
round_fraction f s num den D h c =
    let p = prec f in
    let n = num * 2 ^ low f in
    let z = size (n / den) in
    let k = z - p in
    let q = closest n (den * 2 ^ k) in
    let l : p ≤ z = normal_of_fraction f num den D h in
    let r : 2 ^ (z - 1) * den ≤ n = (le-div_iff_mul-le D).0 (size_reaches (n / den) (z - 1) (omega (arith, prec_pos f))) in
    let e : 2 ^ k * 2 ^ p ≡ 2 * 2 ^ (z - 1) = sym (pow-add 2 k p) ∙ ap (λ (x : ℕ). 2 ^ x) (omega (arith, prec_pos f)) ∙ pow-suc 2 (z - 1) ∙ mul_comm (2 ^ (z - 1)) 2 in
    let e' : 2 ^ k * 2 ^ p * den ≡ 2 * 2 ^ (z - 1) * den = ap (λ (x : ℕ). x * den) e in (
      subst (λ (x : Float). HasValue x s (grid f num den) (2 ^ low f)) (sym (round_is f s num den)) (units_val f s q k c),
      subst (λ (x : ℕ). Near (2 ^ p) n x) (sym (mul_assoc q den (2 ^ k)) ∙ mul_right_comm q den (2 ^ k))
          (half_near n q (den * 2 ^ k) (2 ^ p) (closest_half n (den * 2 ^ k) (mul-pos D (pow_pos k))) (omega arith)),
    )

-- A whole number that the format holds is rounded to itself.
pub round_whole : (f : Format) (s : Bool) (w : ℕ) → rnd (prec f) w ≡ w → w < cap f 0 → HasValue (round f s w 1) s w 1
round_whole f s w e c = rw e at (round_rnd f s w 1 0 w (pow_pos 0) zero-le refl (rw e c))

-- The sign passes through a rounding.
pub neg_round : (f : Format) (s : Bool) (a c : ℕ) → neg (round f s a c) ≡ round f (not s) a c
unfolding neg round units odd
neg_round f s a c = go (ltb (closest n u * 2 ^ k) (overflow f)) (closest n u)
  where
    n : ℕ
    n = a * 2 ^ low f

    k : ℕ
    k = size (n / c) - prec f

    u : ℕ
    u = c * 2 ^ k

    go : (b : Bool) (q : ℕ) → neg (cond b (odd (suc (prec f)) s q k (low f)) (inf s)) ≡ cond b (odd (suc (prec f)) (not s) q k (low f)) (inf (not s))
    go true zero = refl
    go true (suc q) = refl
    go false q = refl

-- What is at most 2 ^ prec units is below the cap.
pub under_cap : (f : Format) (u n : ℕ) → n ≤ 2 ^ prec f → n < cap f u
under_cap f u n h = le_trans (above n (2 ^ prec f) h) (le_trans (tops f) (pow_mono (wide (suc (emax f)))))
  where
    above : (n q : ℕ) → n ≤ q → n < q + 1
    above n q h = omega arith

    tops : (f : Format) → 2 ^ prec f + 1 ≤ 2 ^ suc (emax f)
    tops binary32 = lit≤ tt
    tops binary64 = lit≤ tt

    wide : (e : ℕ) → e ≤ u + e
    wide e = omega arith

-- ---- A product.
pub mul_law : (f : Format) (g h : ℕ) (x y : Float) (s t : Bool) (A B : ℕ) → g + h ≤ low f → HasValue x s A (2 ^ g) → HasValue y t B (2 ^ h) → rnd (prec f) (A * B) < cap f (g + h)
    → HasValue (mul f x y) (unlike s t) (rnd (prec f) (A * B)) (2 ^ (g + h))
unfolding mul
mul_law f g h nan y s t A B L v w c = absurd v
mul_law f g h (inf s') y s t A B L v w c = absurd v
mul_law f g h (fin s' m e) nan s t A B L v w c = absurd w
mul_law f g h (fin s' m e) (inf t') s t A B L v w c = absurd w
mul_law f g h (fin s' m e) (fin t' n d) s t A B L v w c =
    subst (λ (z : Bool). HasValue (round f (unlike s' t') (m * up e * (n * up d)) (down e * down d)) z (rnd (prec f) (A * B)) (2 ^ (g + h))) (ap (λ (z : Bool). unlike z t') v.0 ∙ ap (λ (z : Bool). unlike s z) w.0)
    (round_rnd f (unlike s' t') (m * up e * (n * up d)) (down e * down d) (g + h) (A * B) (mul-pos (down_pos e) (down_pos d)) L (cross (m * up e) (n * up d) (2 ^ g) (2 ^ h) A B (down e) (down d) (pow-add 2 g h) v.1 w.1) c)
  where
    cross : (x y G H A B p q : ℕ) {P : ℕ} → P ≡ G * H → x * G ≡ A * p → y * H ≡ B * q → x * y * P ≡ A * B * (p * q)
    cross x y G H A B p q e a b =
        ap (λ (z : ℕ). x * y * z) e ∙ swap x y G H ∙ ap (λ (z : ℕ). z * (y * H)) a ∙ ap (λ (z : ℕ). A * p * z) b ∙ swap A p B q
      where
        swap : (x y g h : ℕ) → x * y * (g * h) ≡ x * g * (y * h)
        swap x y g h = omega arith

-- ---- A product with ±1 is exact, and gives the other factor back, negated for -1.
unit_value_lem : (s : Bool) → HasValue (signed_one s) s 1 (2 ^ 0)
unit_value_lem s = (refl, refl)

pub times_unit_value : (f : Format) (u : ℕ) (r : Bool) (x : Float) (s : Bool) (n : ℕ) → u ≤ low f → T (fits f x) → HasValue x s n (2 ^ u) → HasValue (mul f (signed_one r) x) (unlike r s) n (2 ^ u)
times_unit_value f u r x s n L t v =
    let z : rnd (prec f) (1 * n) ≡ n = ap (λ (k : ℕ). rnd (prec f) k) (one-mul n) ∙ fits_rnd f u x s n t v in
    subst (λ (k : ℕ). HasValue (mul f (signed_one r) x) (unlike r s) k (2 ^ u)) z
    (subst (λ (k : ℕ). HasValue (mul f (signed_one r) x) (unlike r s) (rnd (prec f) (1 * n)) (2 ^ k)) (zero-add u)
    (mul_law f 0 u (signed_one r) x r s 1 n (subst (λ (k : ℕ). k ≤ low f) (sym (zero-add u)) L) (unit_value_lem r) v
    (subst (λ (k : ℕ). k < cap f (0 + u)) (sym z) (subst (λ (k : ℕ). n < cap f k) (sym (zero-add u)) (fits_cap f u x s n t v)))))

turn_value : (r : Bool) (x : Float) (s : Bool) (n c : ℕ) → HasValue x s n c → HasValue (cond r (neg x) x) (unlike r s) n c
turn_value false x false n c v = v
turn_value false x true n c v = v
turn_value true x false n c v = neg_value x false n c v
turn_value true x true n c v = neg_value x true n c v

-- As data, for every x: zero, an infinity and a NaN too.
pub times_unit : (f : Format) (r : Bool) (x : Float) → T (fits f x) → mul f (signed_one r) x ≡ cond r (neg x) x
unfolding mul neg
times_unit f false nan t = refl
times_unit f true nan t = refl
times_unit f false (inf false) t = refl
times_unit f false (inf true) t = refl
times_unit f true (inf false) t = refl
times_unit f true (inf true) t = refl
times_unit f r (fin s m e) t =
    let x = fin s m e in
    let n = size_in (low f) x in
    let w : HasValue x s n (2 ^ low f) = finite_whole f x tt t in
    unique f (mul f (signed_one r) x) (cond r (neg x) x) (unlike r s) n (2 ^ low f) (pow_pos (low f)) (mul-fits f (signed_one r) x) (cond-fits f r (neg x) x (neg-fits f x t) t)
    (times_unit_value f (low f) r x s n (le_refl (low f)) t w) (turn_value r x s n (2 ^ low f) w)

-- ---- A sum.
pub sub_mul : (m n k : ℕ) → (m - n) * k ≡ m * k - n * k
sub_mul m n k = mul_comm (m - n) k ∙ mul-sub k m n ∙ ap (λ (z : ℕ). z - k * n) (mul_comm k m) ∙ ap (λ (z : ℕ). m * k - z) (mul_comm k n)

difference : (f : Format) (u a b c A B : ℕ) → u ≤ low f → 0 < c → a * 2 ^ u ≡ A * c → b * 2 ^ u ≡ B * c → (s : Bool) → rnd (prec f) (A - B) < cap f u → HasValue (round f s (a - b) c) s (rnd (prec f) (A - B)) (2 ^ u)
difference f u a b c A B L C p q s =
    round_rnd f s (a - b) c u (A - B) C L (sub_mul a b (2 ^ u) ∙ ap (λ (z : ℕ). z - b * 2 ^ u) p ∙ ap (λ (z : ℕ). A * c - z) q ∙ sym (sub_mul A B c))

module _ (f : Format) (u a b c A B : ℕ) (L : u ≤ low f) (C : 0 < c) (p : a * 2 ^ u ≡ A * c) (q : b * 2 ^ u ≡ B * c) where
  le_of : {x y X Y : ℕ} → x * 2 ^ u ≡ X * c → y * 2 ^ u ≡ Y * c → x ≤ y → X ≤ Y
  le_of {x} {y} {X} {Y} v w h = le_of_mul-le-mul_right {k = c} (le_trans (le_of_eq (sym v)) (le_trans (mul-le-mul_right (2 ^ u) h) (le_of_eq w))) C

  same : (s : Bool) → rnd (prec f) (A + B) < cap f u → HasValue (round f s (a + b) c) s (rnd (prec f) (A + B)) (2 ^ u)
  same s = round_rnd f s (a + b) c u (A + B) C L (omega arith)

  sum_law : (s t : Bool) → RoundedSum f u (sum f s a t b c) s A t B
  unfolding sum
  sum_law false false = (false, A + B, omega arith, same false)
  sum_law true true = (true, A + B, omega arith, same true)
  sum_law false true = go (ltb a b) (ltb→lt a b) (nltb→le a b)
    where
      go : (z : Bool) → (T z → a < b) → (T (not z) → b ≤ a) → RoundedSum f u (cond z (round f true (b - a) c) (round f false (a - b) c)) false A true B
      go true h k = let l : A ≤ B = le_of p q (le_of_lt (h tt)) in (true, B - A, omega arith, difference f u b a c B A L C q p true)
      go false h k = let l : B ≤ A = le_of q p (k tt) in (false, A - B, omega arith, difference f u a b c A B L C p q false)
  sum_law true false = go (ltb a b) (ltb b a) (ltb→lt a b) (nltb→le a b) (nltb→le b a)
    where
      go : (z y : Bool) → (T z → a < b) → (T (not z) → b ≤ a) → (T (not y) → a ≤ b) → RoundedSum f u (cond z (round f false (b - a) c) (round f y (a - b) c)) true A false B
      go true y h k r = let l : A ≤ B = le_of p q (le_of_lt (h tt)) in (false, B - A, omega arith, difference f u b a c B A L C q p false)
      go false true h k r = let l : B ≤ A = le_of q p (k tt) in (true, A - B, omega arith, difference f u a b c A B L C p q true)
      go false false h k r = let l : B ≤ A = le_of q p (k tt) in let g : A ≤ B = le_of p q (r tt) in (false, A - B, omega arith, difference f u a b c A B L C p q false)

pub add_law : (f : Format) (u : ℕ) (x y : Float) (s t : Bool) (A B : ℕ) → u ≤ low f → HasValue x s A (2 ^ u) → HasValue y t B (2 ^ u) → RoundedSum f u (add f x y) s A t B
unfolding add
add_law f u nan y s t A B L v w = absurd v
add_law f u (inf s') y s t A B L v w = absurd v
add_law f u (fin s' m e) nan s t A B L v w = absurd w
add_law f u (fin s' m e) (inf t') s t A B L v w = absurd w
add_law f u (fin s' m e) (fin t' n d) s t A B L v w =
    subst (λ (z : Bool). RoundedSum f u (sum f s' (m * up e * down d) t' (n * up d * down e) (down e * down d)) z A t B) v.0
    (subst (λ (z : Bool). RoundedSum f u (sum f s' (m * up e * down d) t' (n * up d * down e) (down e * down d)) s' A z B) w.0
    (sum_law f u (m * up e * down d) (n * up d * down e) (down e * down d) A B L (mul-pos (down_pos e) (down_pos d))
    (mul_right_comm (m * up e) (down d) (2 ^ u) ∙ ap (λ (z : ℕ). z * down d) v.1 ∙ mul_assoc A (down e) (down d))
    (mul_right_comm (n * up d) (down e) (2 ^ u) ∙ ap (λ (z : ℕ). z * down e) w.1 ∙ mul_assoc B (down d) (down e) ∙ ap (λ (z : ℕ). B * z) (mul_comm (down d) (down e)))
    s' t'))

-- For any two finite values that fit, in units of the format's smallest.
pub add_finite : (f : Format) (x y : Float) → T (finite x) → T (finite y) → T (fits f x) → T (fits f y) → RoundedSum f (low f) (add f x y) (sign_of x) (size_in (low f) x) (sign_of y) (size_in (low f) y)
add_finite f x y h k t u = add_law f (low f) x y (sign_of x) (sign_of y) (size_in (low f) x) (size_in (low f) y) (le_refl (low f)) (finite_whole f x h t) (finite_whole f y k u)
