-- `snap` by the nearest whole number and by what is left of a float when it is taken away: of every float, in both formats. Assumes nothing.
use mathlib.Core.Path.{◌≡◌, refl, sym, ap, ap₂, ◌∙◌, subst}
use mathlib.Core.Logic.{inl, inr}
use Prim.Native.Nat.{ℕ, zero, suc, ◌+◌, ◌-◌, ◌*◌, ◌/◌, ◌%◌, ◌^◌, ◌≤◌, ◌<◌, zero-le}
use native.Mathlib.Nat.{le_of_eq, le_of_lt, lt_irrefl, lt_of_not-le, mul_assoc, mul-pos, zero-mul, mul-le-mul_left, mul-le-mul_right, lt_of_mul-lt-mul_right, le_of_mul-le-mul_right, div-add-mod', eq_of_mul-eq-mul_right, le-div_iff_mul-le, div-lt_iff_lt-mul}
use native.Mathlib.Omega.{arith}
use mathlib.Core.Bool.{Bool, true, false, not, cond, ◌&&◌, ◌||◌}
use lib.IntN.{ℤ, pos, negsuc}
use lib.Dec.{T, ltb, leb, eqb, leb→le, nleb→lt, ltb→lt, nltb→le, lt→ltb, eqb→eq, T_not, not_T, lit≤, lit<}
use lib.Pow.{pow_pos, pow_mono}
use lib.Ieee.{Float, nan, inf, fin, Format, binary32, binary64, prec, low, unlike, up, down, round, sum, add, sub, mul, neg, below, level, lt, le, eq, fits}
use lib.Ieee.Fits.{down_pos, cond-fits, round-fits, mul-fits, sub-fits, and_l}
use lib.Ieee.Bits.{is_true, is_false}
use lib.Ieee.Exact.{HasValue}
use lib.Ieee.Order.{round_mono}
use Rattle.rounding.specs.Snap.{tiny_num, tiny, snap_by, snap}
use Rattle.rounding.specs.Round.{rnd}
use Rattle.rounding.specs.Value.{size_in, Whole}
use Rattle.rounding.proofs.RoundLaws.{Half, apart, rnd_small}
use Rattle.rounding.proofs.ValueLaws.{rescale, zero_value, pow_le_back, whole_exp}
use Rattle.rounding.proofs.FitsLaws.{prec_pos, fits_prec, fits_down, unique}
use Rattle.rounding.proofs.OperationLaws.{round_whole, under_cap, neg_round, mul_law}
use Rattle.rounding.proofs.NearestWhole.{whole_step, stepped, quarter, quarters, OrZero, Nearest, nearest_whole, rest_exact}
use Rattle.rounding.proofs.SnapLaws.{tiny_lt, tiny_same, snap_by_lem, snap_fits, snap_exact}

abbrev plus_zero : Float
plus_zero = fin false 0 (pos 0)

-- e lies between -1e-14 and 1e-14.
abbrev pub near_zero : Float → Bool
near_zero e = lt e (fin false tiny_num (negsuc 98)) && lt (fin true tiny_num (negsuc 98)) e

-- r, and where that is zero, zero with the sign of x.
abbrev pub signed_as : Format → Float → Float → Float
signed_as f x r = cond (eq r plus_zero) (mul f plus_zero x) r

-- r where x lies that near to it, with the sign of x; x otherwise.
abbrev pub moved_to : Format → Float → Float → Float
moved_to f x r = cond (near_zero (sub f x r)) (signed_as f x r) x

-- ---- The test.

near_here : (w : Bool) (m : ℕ) (e : ℤ) → near_zero (fin w m e) ≡ tiny (m * up e) (down e)
unfolding lt tiny
near_here w m e = go w (m * up e * 2 ^ 99) (tiny_num * down e) (omega (arith, down_pos e))
  where
    right : (b c : Bool) → c ≡ true → (b && c) ≡ b
    right true c h = h
    right false c h = refl

    left : (b c : Bool) → c ≡ true → (c && b) ≡ b
    left b true h = refl
    left b false h = absurd (subst T (sym h) tt)

    go : (w : Bool) (a b : ℕ) → 0 < b → (below w a false b && below true b w a) ≡ ltb a b
    go false a b h = right (ltb a b) (ltb 0 (b + a)) (is_true (ltb 0 (b + a)) (lt→ltb 0 (b + a) (omega arith)))
    go true a b h = left (ltb a b) (ltb 0 (a + b)) (is_true (ltb 0 (a + b)) (lt→ltb 0 (a + b) (omega arith)))

near_tiny : (e : Float) (w : Bool) (E c : ℕ) → 0 < c → HasValue e w E c → near_zero e ≡ tiny E c
near_tiny nan w E c C v = absurd v
near_tiny (inf t) w E c C v = absurd v
near_tiny (fin t m e) w E c C v = near_here t m e ∙ tiny_same (m * up e) (down e) E c (down_pos e) C v.1

-- ---- `snap_by` by the nearest whole number k.
not_tiny : (r d : ℕ) → 0 < d → d ≤ 4 * r → tiny r d ≡ false
not_tiny r d D h = is_false (tiny r d) (not_T (tiny r d) (λ z. no (tiny_lt r d z)))
  where
    no : r * 2 ^ 46 < d → ⊥
    no l = omega arith

parts_of : (n d q : ℕ) → 0 < d → q * d ≤ n → n < suc q * d → (n / d ≡ q) × (n % d ≡ n - q * d)
parts_of n d q D l h =
    let a : q ≤ n / d = (le-div_iff_mul-le D).1 l in
    let b : n / d < suc q = (div-lt_iff_lt-mul D).1 h in
    let e : n / d ≡ q = omega arith in
    let m : q * d + n % d ≡ n = ap (λ (z : ℕ). z * d + n % d) (sym e) ∙ div-add-mod' n d in
    (e, omega arith)

snap_by-nearest : (f : Format) (s : Bool) (n d k : ℕ) (x : Float) → 0 < d → Half n d k → snap_by f s n d x ≡ cond (tiny (apart n (k * d)) d) (round f s k 1) x
unfolding snap_by
snap_by-nearest f s n d k x D h = go k (leb (k * d) n) (leb→le (k * d) n) (nleb→lt (k * d) n) h
  where
    go : (k : ℕ) (b : Bool) → (T b → k * d ≤ n) → (T (not b) → n < k * d) → Half n d k → snap_by f s n d x ≡ cond (tiny (apart n (k * d)) d) (round f s k 1) x
    go k true a b h =
        let l = a tt in
        let g = apart n (k * d) in
        let q = parts_of n d k D l (omega arith) in
        let e : n % d ≡ g = omega (arith, q.1) in
        let o : tiny (d - g) d ≡ false = not_tiny (d - g) d D (omega arith) in
        ap₂ (λ (w z : ℕ). cond (tiny z d) (round f s w 1) (cond (tiny (d - z) d) (round f s (suc w) 1) x)) q.0 e
        ∙ ap (λ (z : Bool). cond (tiny g d) (round f s k 1) (cond z (round f s (suc k) 1) x)) o
    go zero false a b h = absurd (no (b tt))
      where
        no : n < 0 * d → ⊥
        no l = omega arith
    go (suc j) false a b h =
        let l = b tt in
        let q = parts_of n d j D (omega arith) l in
        let e : d - n % d ≡ apart n (suc j * d) = omega (arith, q.1) in
        let o : tiny (n % d) d ≡ false = not_tiny (n % d) d D (omega (arith, q.1)) in
        ap₂ (λ (z w : Bool). cond z (round f s (n / d) 1) (cond w (round f s (suc (n / d)) 1) x)) o (ap (λ (z : ℕ). tiny z d) e)
        ∙ ap (λ (z : ℕ). cond (tiny (apart n (suc j * d)) d) (round f s (suc z) 1) x) q.0

-- ---- Below 2 ^ (prec - 2): the nearest whole number, with the sign of x.
eq_zero : (r : Float) (t : Bool) (k c : ℕ) → 0 < c → HasValue r t k c → (T (eq r plus_zero) → k ≡ 0) × (T (not (eq r plus_zero)) → 0 < k)
unfolding eq
eq_zero nan t k c C v = absurd v
eq_zero (inf w) t k c C v = absurd v
eq_zero (fin w m d) t k c C v = (λ a. none k (eqb→eq (m * up d * 1) (0 * down d) (and_l (eqb (m * up d * 1) (0 * down d)) _ a)) v.1, λ b. some k b v.1)
  where
    none : (k : ℕ) → m * up d * 1 ≡ 0 * down d → m * up d * c ≡ k * down d → k ≡ 0
    none k z e =
        let y : m * up d ≡ 0 = omega arith in
        let q : m * up d * c ≡ 0 * c = ap (λ (a : ℕ). a * c) y in
        eq_of_mul-eq-mul_right (down d) (down_pos d) k 0 (omega arith)

    level_zero : (w : Bool) (a b : ℕ) → a ≡ 0 → b ≡ 0 → T (level w a false b)
    level_zero true a b p q = rw (p, q) tt
    level_zero false a b p q = rw (p, q) tt

    some : (k : ℕ) → T (not (level w (m * up d * 1) false (0 * down d))) → m * up d * c ≡ k * down d → 0 < k
    some (suc k) b e = omega arith
    some zero b e =
        let y : m * up d ≡ 0 = eq_of_mul-eq-mul_right c C (m * up d) 0 (omega arith) in
        absurd (T_not (level w (m * up d * 1) false (0 * down d)) b (level_zero w (m * up d * 1) (0 * down d) (omega arith) (omega arith)))

-- A product with +0 is zero with the sign of x.
times_zero : (f : Format) (u : ℕ) (x : Float) (s : Bool) (n : ℕ) → u ≤ low f → HasValue x s n (2 ^ u) → HasValue (mul f plus_zero x) s 0 1
times_zero f u x s n L v =
    let y = mul f plus_zero x in
    let is : rnd (prec f) (0 * n) ≡ 0 = ap (λ (z : ℕ). rnd (prec f) z) (zero-mul n) ∙ rnd_small (prec f) 0 (prec_pos f) zero-le in
    let p = mul_law f 0 u plus_zero x false s 0 n (omega arith) (zero_value 0) v (rw is (under_cap f (0 + u) 0 zero-le)) in
    rescale y s 0 (2 ^ (0 + u)) 0 1 (pow_pos (0 + u)) (omega arith) (subst (λ (z : ℕ). HasValue y s z (2 ^ (0 + u))) is (subst (λ (b : Bool). HasValue y b (rnd (prec f) (0 * n)) (2 ^ (0 + u))) (like s) p))
  where
    like : (s : Bool) → unlike false s ≡ s
    like true = refl
    like false = refl

module _ (f : Format) (x : Float) (s : Bool) (u n : ℕ) (L : u ≤ low f) (v : HasValue x s n (2 ^ u)) (h : n < quarter f * 2 ^ u) where
  k : ℕ
  k = (nearest_whole f x s u n L v h).whole

  signed_value : HasValue (signed_as f x (stepped f x)) s k 1
  unfolding k
  signed_value = go (eq r plus_zero) q.0 q.1 z.signed
    where
      z : Nearest f x s u n L v h
      z = nearest_whole f x s u n L v h

      r : Float
      r = stepped f x

      q : (T (eq r plus_zero) → k ≡ 0) × (T (not (eq r plus_zero)) → 0 < k)
      q = eq_zero r z.sign k 1 (pow_pos 0) z.value

      go : (b : Bool) → (T b → k ≡ 0) → (T (not b) → 0 < k) → OrZero k z.sign s → HasValue (cond b (mul f plus_zero x) r) s k 1
      go true a b c = subst (λ (y : ℕ). HasValue (mul f plus_zero x) s y 1) (sym (a tt)) (times_zero f u x s n L v)
      go false a b (inl c) = absurd (no (b tt))
        where
          no : 0 < k → ⊥
          no l = omega arith
      go false a b (inr c) = subst (λ (y : Bool). HasValue r y k 1) c z.value

  snap_small : n ≤ 2 ^ prec f → snap f x ≡ moved_to f x (stepped f x)
  unfolding k
  snap_small H =
      let z = nearest_whole f x s u n L v h in
      let r = stepped f x in
      let e = rest_exact f x s u n L v h H in
      let y = signed_as f x r in
      let fits-y : T (fits f y) = cond-fits f (eq r plus_zero) (mul f plus_zero x) r (mul-fits f plus_zero x) (sub-fits f (add f x (whole_step f)) (whole_step f)) in
      let same : round f s k 1 ≡ y = unique f (round f s k 1) y s k 1 (pow_pos 0) (round-fits f s k 1) fits-y (round_whole f s k (rnd_small (prec f) k (prec_pos f) z.short) (under_cap f 0 k z.short)) signed_value in
      snap_by_lem f x s n (2 ^ u) (pow_pos u) v
      ∙ snap_by-nearest f s n (2 ^ u) k x (pow_pos u) z.half
      ∙ ap₂ (λ (b : Bool) (y : Float). cond b y x) (sym (near_tiny (sub f x r) e.0 (apart n (k * 2 ^ u)) (2 ^ u) (pow_pos u) e.1)) same

-- ---- A rounded fraction that passes the test is below a quarter.
quarter_value : (f : Format) → round f false 1 4 ≡ fin false 1 (negsuc 1)
unfolding round
quarter_value binary32 = refl
quarter_value binary64 = refl

far_from_zero : (s : Bool) (y : Float) → T (le (fin false 1 (negsuc 1)) y) → T (near_zero (cond s (neg y) y)) → ⊥
unfolding le lt neg
far_from_zero s nan l = absurd l
far_from_zero s (inf true) l = absurd l
far_from_zero false (inf false) l = λ n. n
far_from_zero true (inf false) l = λ n. n
far_from_zero s (fin t m e) l = go s (reach t (1 * down e) (m * up e * 4) l)
  where
    reach : (t : Bool) (a b : ℕ) → T (below false a t b || level false a t b) → a ≤ b
    reach true a b l = le_of_eq (eqb→eq a b (and_l (eqb a b) (eqb a 0) l))
    reach false a b l = either (ltb a b) (eqb a b) (ltb→lt a b) (eqb→eq a b) l
      where
        either : (p q : Bool) → (T p → a < b) → (T q → a ≡ b) → T (p || q && true) → a ≤ b
        either true q h k l = le_of_lt (h tt)
        either false q h k l = le_of_eq (k (and_l q true l))

    go : (s : Bool) → 1 * down e ≤ m * up e * 4 → T (near_zero (cond s (fin (not t) m e) (fin t m e))) → ⊥
    go true h n = subst T (near_here (not t) m e ∙ not_tiny (m * up e) (down e) (down_pos e) (omega arith)) n
    go false h n = subst T (near_here t m e ∙ not_tiny (m * up e) (down e) (down_pos e) (omega arith)) n

near_quarter : (f : Format) (s : Bool) (num den : ℕ) → 0 < den → T (near_zero (round f s num den)) → num * 4 < den
near_quarter f s num den D n = go (leb den (num * 4)) (leb→le den (num * 4)) (nleb→lt den (num * 4))
  where
    turned : (s : Bool) → round f s num den ≡ cond s (neg (round f false num den)) (round f false num den)
    turned true = sym (neg_round f false num den)
    turned false = refl

    go : (b : Bool) → (T b → den ≤ num * 4) → (T (not b) → num * 4 < den) → num * 4 < den
    go true a b =
        let l : 1 * den ≤ num * 4 = omega (arith, a tt) in
        absurd (far_from_zero s (round f false num den) (subst (λ (y : Float). T (le y (round f false num den))) (quarter_value f) (round_mono f 1 4 num den (lit< tt) D l)) (subst (λ (y : Float). T (near_zero y)) (turned s) n))
    go false a b = b tt

-- How far ±a and ±b are apart, with the signs s and t.
abbrev between : Bool → ℕ → Bool → ℕ → ℕ
between s a t b = cond (unlike s t) (a + b) (apart a b)

near_sum : (f : Format) (s : Bool) (a : ℕ) (t : Bool) (b c : ℕ) → 0 < c → T (near_zero (sum f s a (not t) b c)) → between s a t b * 4 < c
unfolding sum
near_sum f false a true b c C n = near_quarter f false (a + b) c C n
near_sum f true a false b c C n = near_quarter f true (a + b) c C n
near_sum f false a false b c C n = go (ltb a b) (ltb→lt a b) (nltb→le a b) n
  where
    go : (z : Bool) → (T z → a < b) → (T (not z) → b ≤ a) → T (near_zero (cond z (round f true (b - a) c) (round f false (a - b) c))) → apart a b * 4 < c
    go true h k n = let l = h tt in omega (arith, near_quarter f true (b - a) c C n)
    go false h k n = let l = k tt in omega (arith, near_quarter f false (a - b) c C n)
near_sum f true a true b c C n = go (ltb a b) (ltb→lt a b) (nltb→le a b) n
  where
    go : (z : Bool) → (T z → a < b) → (T (not z) → b ≤ a) → T (near_zero (cond z (round f false (b - a) c) (round f (ltb b a) (a - b) c))) → apart a b * 4 < c
    go true h k n = let l = h tt in omega (arith, near_quarter f false (b - a) c C n)
    go false h k n = let l = k tt in omega (arith, near_quarter f (ltb b a) (a - b) c C n)

-- ---- From 2 ^ (prec - 2) on, a float that passes the test with another is that other.
-- From a half of that on every float counts quarters.
on_quarters : (f : Format) (s : Bool) (m : ℕ) (e : ℤ) → T (fits f (fin s m e)) → quarter f * down e ≤ 2 * (m * up e) → Whole 2 (fin s m e)
on_quarters f s m (pos k) t h = whole_exp 2 s m (pos k) (lit≤ tt)
on_quarters f s m (negsuc k) t h = whole_exp 2 s m (negsuc k) (pow_mono (short (lt_of_not-le (λ (g : 3 ≤ suc k). no (pow_mono g)))))
  where
    short : suc k < 3 → suc k ≤ 2
    short l = omega arith

    no : 2 ^ 3 ≤ 2 ^ suc k → ⊥
    no g =
        let a : quarter f * 8 ≤ quarter f * 2 ^ suc k = mul-le-mul_left (quarter f) g in
        lt_irrefl (quarter f * 8) (omega (arith, fits_prec f s m (negsuc k) t, (quarters f).0))

same_number_lem : (N M c : ℕ) → apart (N * c) (M * c) < c → M ≡ N
same_number_lem N M c h =
    let a : N < suc M = lt_of_mul-lt-mul_right c (omega arith) in
    let b : M < suc N = lt_of_mul-lt-mul_right c (omega arith) in
    omega arith

module _ (f : Format) (m : ℕ) (e : ℤ) (k : ℕ) (d : ℤ) (h : quarter f * down e ≤ m * up e) where
  -- x over the denominator of both: that denominator at least.
  large : (quarter f * (down e * down d) ≤ m * up e * down d) × (1 * (down e * down d) ≤ quarter f * (down e * down d))
  large = (subst (λ (z : ℕ). z ≤ m * up e * down d) (mul_assoc (quarter f) (down e) (down d)) (mul-le-mul_right (down d) h), mul-le-mul_right (down e * down d) (pow_pos (prec f - 2)))

  signs_differ : (m * up e * down d + k * up d * down e) * 4 < down e * down d → ⊥
  signs_differ n = omega (arith, large.0, large.1, mul-pos (down_pos e) (down_pos d))

  signs_agree : (s : Bool) → T (fits f (fin s m e)) → T (fits f (fin s k d)) → apart (m * up e * down d) (k * up d * down e) * 4 < down e * down d → fin s k d ≡ fin s m e
  signs_agree s t q n =
      let c = down e * down d in
      let g : quarter f * down d ≤ 2 * (k * up d) = le_of_mul-le-mul_right {k = down e} (omega (arith, large.0, large.1)) (down_pos e) in
      let x = on_quarters f s m e t (omega arith) in
      let r = on_quarters f s k d q g in
      let N = size_in 2 (fin s m e) in
      let M = size_in 2 (fin s k d) in
      let p : m * up e * 4 * down d ≡ N * down e * down d = ap (λ (z : ℕ). z * down d) x.1 in
      let o : k * up d * 4 * down e ≡ M * down d * down e = ap (λ (z : ℕ). z * down e) r.1 in
      let same : M ≡ N = same_number_lem N M c (omega arith) in
      unique f (fin s k d) (fin s m e) s N 4 (lit< tt) q t (subst (λ (z : ℕ). HasValue (fin s k d) s z 4) same r) x

pub near_is_same : (f : Format) (s : Bool) (m : ℕ) (e : ℤ) (r : Float) → T (fits f (fin s m e)) → T (fits f r) → quarter f * down e ≤ m * up e → T (near_zero (sub f (fin s m e) r)) → r ≡ fin s m e
unfolding sub lt
near_is_same f s m e nan t q h n = absurd n
near_is_same f s m e (inf true) t q h n = absurd n
near_is_same f s m e (inf false) t q h n = absurd n
near_is_same f s m e (fin w k d) t q h n = go s w t q (near_sum f s (m * up e * down d) w (k * up d * down e) (down e * down d) (mul-pos (down_pos e) (down_pos d)) n)
  where
    go : (s w : Bool) → T (fits f (fin s m e)) → T (fits f (fin w k d)) → between s (m * up e * down d) w (k * up d * down e) * 4 < down e * down d → fin w k d ≡ fin s m e
    go true true t q n = signs_agree f m e k d h true t q n
    go false false t q n = signs_agree f m e k d h false t q n
    go true false t q n = absurd (signs_differ f m e k d h n)
    go false true t q n = absurd (signs_differ f m e k d h n)

-- So whatever r is, x is what comes out, and it is its own snap.
snap_large : (f : Format) (s : Bool) (m : ℕ) (e : ℤ) (r : Float) → T (fits f (fin s m e)) → T (fits f r) → quarter f * down e ≤ m * up e → snap f (fin s m e) ≡ moved_to f (fin s m e) r
snap_large f s m e r t q h = stays ∙ sym (go (near_zero (sub f x r)) (near_is_same f s m e r t q h))
  where
    x : Float
    x = fin s m e

    v : Whole 2 x
    v = on_quarters f s m e t (omega arith)

    stays : snap f x ≡ x
    stays = unique f (snap f x) x s (size_in 2 x) 4 (lit< tt) (snap_fits f x t) t (snap_exact f 2 x s (size_in 2 x) (lit≤ tt) t v) v

    itself : (b : Bool) → (T b → size_in 2 x ≡ 0) → cond b (mul f plus_zero x) x ≡ x
    itself false z = refl
    itself true z = absurd (no (z tt))
      where
        no : size_in 2 x ≡ 0 → ⊥
        no i = let o : size_in 2 x * down e ≡ 0 * down e = ap (λ (y : ℕ). y * down e) i in omega (arith, v.1, mul-pos (pow_pos (prec f - 2)) (down_pos e))

    go : (b : Bool) → (T b → r ≡ x) → cond b (signed_as f x r) x ≡ x
    go true i = subst (λ (y : Float). signed_as f x y ≡ x) (sym (i tt)) (itself (eq x plus_zero) (eq_zero x s (size_in 2 x) 4 (lit< tt) v).0)
    go false i = refl

-- ---- Every float.
finite_stepped : (f : Format) (s : Bool) (m : ℕ) (e : ℤ) → T (fits f (fin s m e)) → m * up e < quarter f * down e → snap f (fin s m e) ≡ moved_to f (fin s m e) (stepped f (fin s m e))
finite_stepped f s m (pos k) t h = snap_small f (fin s m (pos k)) s 0 (m * 2 ^ k) zero-le (refl, refl) h (omega (arith, (quarters f).0))
finite_stepped f s m (negsuc k) t h = snap_small f (fin s m (negsuc k)) s (suc k) (m * 1) (pow_le_back (suc k) (low f) (fits_down f s m (negsuc k) t)) (refl, refl) h (omega (arith, fits_prec f s m (negsuc k) t))

pub snap_stepped : (f : Format) (x : Float) → T (fits f x) → snap f x ≡ moved_to f x (stepped f x)
unfolding snap sub lt
snap_stepped f nan t = refl
snap_stepped f (inf true) t = refl
snap_stepped f (inf false) t = refl
snap_stepped f (fin s m e) t = go (leb (quarter f * down e) (m * up e)) (leb→le (quarter f * down e) (m * up e)) (nleb→lt (quarter f * down e) (m * up e))
  where
    x : Float
    x = fin s m e

    go : (b : Bool) → (T b → quarter f * down e ≤ m * up e) → (T (not b) → m * up e < quarter f * down e) → snap f x ≡ moved_to f x (stepped f x)
    go true a b = snap_large f s m e (stepped f x) t (sub-fits f (add f x (whole_step f)) (whole_step f)) (a tt)
    go false a b = finite_stepped f s m e t (b tt)
