-- What `snap` does: it leaves a value as it is, or makes it a whole number less than 2 ^ -46 away with the same sign. So it does not move a whole number of 2 ^ -46. Assumes nothing.
use mathlib.Core.Path.{◌≡◌, refl, sym, ap, ap₂, ◌∙◌, subst}
use mathlib.Core.Logic.{◌⊎◌, inl, inr}
use Prim.Native.Nat.{ℕ, suc, ◌+◌, ◌-◌, ◌*◌, ◌/◌, ◌%◌, ◌^◌, ◌≤◌, ◌<◌}
use native.Mathlib.Nat.{le_trans, le_of_lt, mul_comm, mul-one, mul-le-mul_right, mul-lt-mul_of_pos_right, lt_of_mul-lt-mul_right, le_of_mul-le-mul_right, div-add-mod', mod-lt, div-one, div-le_self, eq_of_mul-eq-mul_right}
use native.Mathlib.Omega.{arith}
use mathlib.Core.Bool.{Bool, true, false, cond}
use lib.IntN.{ℤ, pos, negsuc}
use lib.Dec.{T, ltb→lt, lt→ltb, lit≤}
use lib.Pow.{pow-add, pow_pos}
use lib.Ieee.{Float, nan, inf, fin, Format, prec, up, down, round, fits}
use lib.Ieee.Fits.{down_pos, round-fits, cond-fits}
use lib.Ieee.Nearest.{div_same}
use lib.Ieee.Exact.{HasValue}
use Rattle.rounding.specs.Snap.{tiny_num, tiny_exp, tiny, snap_by, snap, NearWhole, Snapped}
use Rattle.rounding.proofs.RoundLaws.{rnd_exact, rnd_small}
use Rattle.rounding.proofs.ValueLaws.{rescale}
use Rattle.rounding.proofs.FitsLaws.{prec_pos, fits_prec, fits_cap}
use Rattle.rounding.proofs.OperationLaws.{round_whole, under_cap, sub_mul}

-- ---- A fraction below 1e-14 is below 2 ^ -46.
pub tiny_lt : (r d : ℕ) → T (tiny r d) → r * 2 ^ 46 < d
unfolding tiny
tiny_lt r d t = scale (2 ^ tiny_exp) tiny_num (2 ^ 46) (pow_pos 46) (lit≤ tt) (ltb→lt (r * 2 ^ tiny_exp) (tiny_num * d) t)
  where
    scale : (K c P : ℕ) → 0 < P → c * P ≤ K → r * K < c * d → r * P < d
    scale K c P Q h l =
        let x : r * K * P < c * d * P = mul-lt-mul_of_pos_right l Q in
        let y : c * P * d ≤ K * d = mul-le-mul_right d h in
        lt_of_mul-lt-mul_right K (omega arith)

near_floor : (P a d w r : ℕ) → w * d + r ≡ a → r * P < d → NearWhole P a d w
near_floor P a d w r e h = let x : (w * d + r) * P ≡ a * P = ap (λ (z : ℕ). z * P) e in (omega arith, omega arith)

near_ceiling : (P a d w r : ℕ) → w * d + r ≡ a → r < d → (d - r) * P < d → NearWhole P a d (suc w)
near_ceiling P a d w r e l h =
    let x : (w * d + r) * P ≡ a * P = ap (λ (z : ℕ). z * P) e in
    let y : (d - r + r) * P ≡ d * P = ap (λ (z : ℕ). z * P) (omega arith) in
    (omega arith, omega arith)

-- ---- The format holds the whole number below a value that it holds, and the one above where `snap` takes it.
floor_value : (f : Format) (s : Bool) (m : ℕ) (e : ℤ) → T (fits f (fin s m e)) → HasValue (round f s (m * up e / down e) 1) s (m * up e / down e) 1
floor_value f s m (pos k) t = rw (div-one (m * 2 ^ k)) (round_whole f s (m * 2 ^ k) (rnd_exact (prec f) m k (prec_pos f) (le_of_lt (fits_prec f s m (pos k) t))) (fits_cap f 0 (fin s m (pos k)) s (m * 2 ^ k) t (refl, refl)))
floor_value f s m (negsuc k) t =
    let w = m * 1 / 2 ^ suc k in
    let l : w ≤ 2 ^ prec f = le_trans (div-le_self (m * 1) (2 ^ suc k)) (omega (arith, fits_prec f s m (negsuc k) t)) in
    round_whole f s w (rnd_small (prec f) w (prec_pos f) l) (under_cap f 0 w l)

ceiling_value : (f : Format) (s : Bool) (m : ℕ) (e : ℤ) → T (fits f (fin s m e)) → (down e - m * up e % down e) * 2 ^ 46 < down e → HasValue (round f s (suc (m * up e / down e)) 1) s (suc (m * up e / down e)) 1
ceiling_value f s m (pos k) t h = absurd (no (m * 2 ^ k % 1) (mod-lt (m * 2 ^ k) (pow_pos 0)) h)
  where
    no : (r : ℕ) → r < 1 → (1 - r) * 2 ^ 46 < 1 → ⊥
    no r l h = omega arith
ceiling_value f s m (negsuc k) t h =
    let w = m * 1 / 2 ^ suc k in
    let l : suc w ≤ 2 ^ prec f = omega (arith, div-le_self (m * 1) (2 ^ suc k), fits_prec f s m (negsuc k) t) in
    round_whole f s (suc w) (rnd_small (prec f) (suc w) (prec_pos f) l) (under_cap f 0 (suc w) l)

-- ---- What `snap` does to a float of the size n / c.
near_same : (P a d n c W : ℕ) → 0 < c → a * c ≡ n * d → NearWhole P a d W → NearWhole P n c W
near_same P a d n c W C e b =
    let z : a * c * P ≡ n * d * P = ap (λ (z : ℕ). z * P) e in
    let x : a * P * c < (W * d * P + d) * c = mul-lt-mul_of_pos_right b.0 C in
    let y : W * d * P * c < (a * P + d) * c = mul-lt-mul_of_pos_right b.1 C in
    (lt_of_mul-lt-mul_right d (omega arith), lt_of_mul-lt-mul_right d (omega arith))

pub snap_law : (f : Format) (x : Float) (s : Bool) (n c : ℕ) → 0 < c → T (fits f x) → HasValue x s n c → (snap f x ≡ x) ⊎ Snapped (snap f x) s n c
unfolding snap snap_by
snap_law f nan s n c C t v = absurd v
snap_law f (inf s') s n c C t v = absurd v
snap_law f (fin s' m e) s n c C t v = go (tiny r d) (tiny (d - r) d) (tiny_lt r d) (tiny_lt (d - r) d)
  where
    a : ℕ
    a = m * up e

    d : ℕ
    d = down e

    w : ℕ
    w = a / d

    r : ℕ
    r = a % d

    moved : (W : ℕ) → HasValue (round f s' W 1) s' W 1 → NearWhole (2 ^ 46) a d W → Snapped (round f s' W 1) s n c
    moved W h b = record { whole = W; value = subst (λ (z : Bool). HasValue (round f s' W 1) z W 1) v.0 h; near = near_same (2 ^ 46) a d n c W C v.1 b }

    go : (x y : Bool) → (T x → r * 2 ^ 46 < d) → (T y → (d - r) * 2 ^ 46 < d)
        → (cond x (round f s' w 1) (cond y (round f s' (suc w) 1) (fin s' m e)) ≡ fin s' m e) ⊎ Snapped (cond x (round f s' w 1) (cond y (round f s' (suc w) 1) (fin s' m e))) s n c
    go true y h k = inr (moved w (floor_value f s' m e t) (near_floor (2 ^ 46) a d w r (div-add-mod' a d) (h tt)))
    go false true h k = inr (moved (suc w) (ceiling_value f s' m e t (k tt)) (near_ceiling (2 ^ 46) a d w r (div-add-mod' a d) (mod-lt a (down_pos e)) (k tt)))
    go false false h k = inl refl

-- It gives what the format holds.
pub snap_fits : (f : Format) (x : Float) → T (fits f x) → T (fits f (snap f x))
unfolding snap snap_by
snap_fits f nan t = t
snap_fits f (inf s) t = t
snap_fits f (fin s m e) t =
    let w = m * up e / down e in
    let r = m * up e % down e in
    cond-fits f (tiny r (down e)) (round f s w 1) (cond (tiny (down e - r) (down e)) (round f s (suc w) 1) (fin s m e)) (round-fits f s w 1)
    (cond-fits f (tiny (down e - r) (down e)) (round f s (suc w) 1) (fin s m e) (round-fits f s (suc w) 1) t)

-- ---- In units of 2 ^ -u.
-- A whole number of units, for one that is W as a number.
in_units : (u : ℕ) (x : Float) (s : Bool) (W : ℕ) → HasValue x s W 1 → HasValue x s (W * 2 ^ u) (2 ^ u)
in_units u x s W v = rescale x s W 1 (W * 2 ^ u) (2 ^ u) (pow_pos 0) (mul-one (W * 2 ^ u)) v

-- On a grid finer than 2 ^ -46 it moves by 2 ^ -46 at most.
pub snap_near : (f : Format) (u : ℕ) (x : Float) (s : Bool) (N : ℕ) → 46 ≤ u → T (fits f x) → HasValue x s N (2 ^ u)
    → (M : ℕ) × HasValue (snap f x) s M (2 ^ u) × (N ≤ M + 2 ^ (u - 46)) × (M ≤ N + 2 ^ (u - 46))
snap_near f u x s N h t v = go (snap_law f x s N (2 ^ u) (pow_pos u) t v)
  where
    pw : 2 ^ u ≡ 2 ^ 46 * 2 ^ (u - 46)
    pw = let E : u ≡ 46 + (u - 46) = omega arith in ap (λ (z : ℕ). 2 ^ z) E ∙ pow-add 2 46 (u - 46)

    fine : (P Z U W : ℕ) → 0 < P → U ≡ P * Z → NearWhole P N U W → (N ≤ W * U + Z) × (W * U ≤ N + Z)
    fine P Z U W Q e b = (le_of_mul-le-mul_right {k = P} (omega arith) Q, le_of_mul-le-mul_right {k = P} (omega arith) Q)

    go : (snap f x ≡ x) ⊎ Snapped (snap f x) s N (2 ^ u) → (M : ℕ) × HasValue (snap f x) s M (2 ^ u) × (N ≤ M + 2 ^ (u - 46)) × (M ≤ N + 2 ^ (u - 46))
    go (inl i) = (N, subst (λ (z : Float). HasValue z s N (2 ^ u)) (sym i) v, omega arith, omega arith)
    go (inr i) = let g = fine (2 ^ 46) (2 ^ (u - 46)) (2 ^ u) i.whole (pow_pos 46) pw i.near in (i.whole * 2 ^ u, in_units u (snap f x) s i.whole i.value, g.0, g.1)

-- On a coarser one, or that one, it does not move.
pub snap_exact : (f : Format) (u : ℕ) (x : Float) (s : Bool) (N : ℕ) → u ≤ 46 → T (fits f x) → HasValue x s N (2 ^ u) → HasValue (snap f x) s N (2 ^ u)
snap_exact f u x s N h t v = go (snap_law f x s N (2 ^ u) (pow_pos u) t v)
  where
    pw : 2 ^ 46 ≡ 2 ^ u * 2 ^ (46 - u)
    pw = let E : 46 ≡ u + (46 - u) = omega arith in ap (λ (z : ℕ). 2 ^ z) E ∙ pow-add 2 u (46 - u)

    coarse : (U Z W : ℕ) → 0 < Z → NearWhole (U * Z) N U W → W * U ≡ N
    coarse U Z W P b =
        let p : N * Z < W * U * Z + 1 = lt_of_mul-lt-mul_right U (omega arith) in
        let q : W * U * Z < N * Z + 1 = lt_of_mul-lt-mul_right U (omega arith) in
        eq_of_mul-eq-mul_right Z P (W * U) N (omega arith)

    go : (snap f x ≡ x) ⊎ Snapped (snap f x) s N (2 ^ u) → HasValue (snap f x) s N (2 ^ u)
    go (inl i) = subst (λ (z : Float). HasValue z s N (2 ^ u)) (sym i) v
    go (inr i) =
        subst (λ (z : ℕ). HasValue (snap f x) s z (2 ^ u)) (coarse (2 ^ u) (2 ^ (46 - u)) i.whole (pow_pos (46 - u)) (subst (λ (z : ℕ). NearWhole z N (2 ^ u) i.whole) pw i.near))
        (in_units u (snap f x) s i.whole i.value)

-- ---- `snap` by any fraction of the same size.
tiny_across : (r d r' d' : ℕ) → 0 < d' → r * d' ≡ r' * d → T (tiny r d) → T (tiny r' d')
unfolding tiny
tiny_across r d r' d' D e t = lt→ltb (r' * 2 ^ tiny_exp) (tiny_num * d') (across (2 ^ tiny_exp) tiny_num (ltb→lt (r * 2 ^ tiny_exp) (tiny_num * d) t))
  where
    across : (K c : ℕ) → r * K < c * d → r' * K < c * d'
    across K c h =
        let x : r * K * d' < c * d * d' = mul-lt-mul_of_pos_right h D in
        let y : r * d' * K ≡ r' * d * K = ap (λ (z : ℕ). z * K) e in
        lt_of_mul-lt-mul_right d (omega arith)

pub tiny_same : (r d r' d' : ℕ) → 0 < d → 0 < d' → r * d' ≡ r' * d → tiny r d ≡ tiny r' d'
tiny_same r d r' d' D D' e = bool_eq (tiny r d) (tiny r' d') (tiny_across r d r' d' D' e) (tiny_across r' d' r d D (sym e))
  where
    bool_eq : (a b : Bool) → (T a → T b) → (T b → T a) → a ≡ b
    bool_eq false false h k = refl
    bool_eq true true h k = refl
    bool_eq false true h k = absurd (k tt)
    bool_eq true false h k = absurd (h tt)

rest_same : (a d a' d' w : ℕ) → a / d ≡ w → a' / d' ≡ w → a * d' ≡ a' * d → a % d * d' ≡ a' % d' * d
rest_same a d a' d' w p q e =
    let x : (w * d + a % d) * d' ≡ a * d' = ap (λ (z : ℕ). z * d') (ap (λ (z : ℕ). z * d + a % d) (sym p) ∙ div-add-mod' a d) in
    let y : (w * d' + a' % d') * d ≡ a' * d = ap (λ (z : ℕ). z * d) (ap (λ (z : ℕ). z * d' + a' % d') (sym q) ∙ div-add-mod' a' d') in
    omega arith

less_same : (r d r' d' : ℕ) → r * d' ≡ r' * d → (d - r) * d' ≡ (d' - r') * d
less_same r d r' d' e = sub_mul d r d' ∙ ap₂ (λ (x y : ℕ). x - y) (mul_comm d d') e ∙ sym (sub_mul d' r' d)

snap_by-same : (f : Format) (s : Bool) (a d a' d' : ℕ) (x : Float) → 0 < d → 0 < d' → a * d' ≡ a' * d → snap_by f s a d x ≡ snap_by f s a' d' x
unfolding snap_by
snap_by-same f s a d a' d' x D D' e =
    let w : a / d ≡ a' / d' = div_same a d a' d' D D' e in
    let r : a % d * d' ≡ a' % d' * d = rest_same a d a' d' (a' / d') w refl e in
    let t : tiny (a % d) d ≡ tiny (a' % d') d' = tiny_same (a % d) d (a' % d') d' D D' r in
    let u : tiny (d - a % d) d ≡ tiny (d' - a' % d') d' = tiny_same (d - a % d) d (d' - a' % d') d' D D' (less_same (a % d) d (a' % d') d' r) in
    rw (t, u, w)

pub snap_by_lem : (f : Format) (x : Float) (s : Bool) (n c : ℕ) → 0 < c → HasValue x s n c → snap f x ≡ snap_by f s n c x
unfolding snap
snap_by_lem f nan s n c C v = absurd v
snap_by_lem f (inf t) s n c C v = absurd v
snap_by_lem f (fin t m e) s n c C v =
    snap_by-same f t (m * up e) (down e) n c (fin t m e) (down_pos e) C v.1
    ∙ ap (λ (b : Bool). snap_by f b n c (fin t m e)) v.0
