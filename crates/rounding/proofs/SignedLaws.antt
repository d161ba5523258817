-- How an error grows along a sum of rounded numbers, in whole numbers only. Q stands for 2 ^ prec, and the exact sum is p - m. Assumes nothing.
use mathlib.Core.Path.{◌≡◌, sym, ap}
use Prim.Native.Nat.{ℕ, suc, ◌+◌, ◌*◌, ◌≤◌, ◌<◌}
use native.Mathlib.Nat.{mul-le-mul_left, mul-le-mul_right, le_of_mul-le-mul_left}
use native.Mathlib.Omega.{arith}
use mathlib.Core.Bool.{Bool, true, false}
use Rattle.rounding.specs.Round.{Near}
use Rattle.rounding.specs.Signed.{above_zero, below_zero, AddsTo, Within}

-- ---- A number with a sign, as a difference.
pub parts : (t : Bool) (X : ℕ) → above_zero t X + below_zero t X ≡ X
parts false X = omega arith
parts true X = omega arith

pub sum_le : (s : Bool) (N : ℕ) (t : Bool) (Y : ℕ) (w : Bool) (D : ℕ) → AddsTo s N t Y w D → D ≤ N + Y
sum_le s N t Y false D e = omega (arith, parts s N, parts t Y)
sum_le s N t Y true D e = omega (arith, parts s N, parts t Y)

pub zero_plus : (t : Bool) (Y : ℕ) (w : Bool) (D : ℕ) → AddsTo false 0 t Y w D → D ≡ Y
zero_plus false Y false D e = omega arith
zero_plus false Y true D e = omega arith
zero_plus true Y false D e = omega arith
zero_plus true Y true D e = omega arith

near_within : (Q : ℕ) (t : Bool) (X Y : ℕ) → Near Q X Y → Within Q (above_zero t X + below_zero t X) (above_zero t Y) (below_zero t Y) (above_zero t X) (below_zero t X)
near_within Q false X Y h = omega arith
near_within Q true X Y h = omega arith

pub within_shift : (s : Bool) (N M Q C p m Z : ℕ) → N ≤ M + Z → M ≤ N + Z → Within Q C (above_zero s N) (below_zero s N) p m → Within Q (C + Q * Z) (above_zero s M) (below_zero s M) p m
within_shift s N M Q C p m Z h k w = go s w (mul-le-mul_left Q h) (mul-le-mul_left Q k)
  where
    go : (s : Bool) → Within Q C (above_zero s N) (below_zero s N) p m → Q * N ≤ Q * (M + Z) → Q * M ≤ Q * (N + Z) → Within Q (C + Q * Z) (above_zero s M) (below_zero s M) p m
    go false w x y = (omega arith, omega arith)
    go true w x y = (omega arith, omega arith)

-- ---- The error after k products is at most k * T / Q and a 1024th part more: the roundings of the products add T / Q together, and each sum but the first, to +0, adds as much.
abbrev pub ErrorAfter : ℕ → ℕ → Bool → ℕ → ℕ → ℕ → Type 0
ErrorAfter Q k s N p m = Within (1024 * Q) (1025 * (k * (p + m))) (above_zero s N) (below_zero s N) p m

bounded : (Q k : ℕ) (s : Bool) (N p m : ℕ) → 0 < Q → 1025 * k ≤ Q → ErrorAfter Q k s N p m → 1024 * N ≤ 1025 * (p + m)
bounded Q k s N p m P h v = go s v (mul-le-mul_right (p + m) h)
  where
    go : (s : Bool) → ErrorAfter Q k s N p m → 1025 * k * (p + m) ≤ Q * (p + m) → 1024 * N ≤ 1025 * (p + m)
    go false v x = le_of_mul-le-mul_left {k = Q} (omega arith) P
    go true v x = le_of_mul-le-mul_left {k = Q} (omega arith) P

rounded : (Q X Y : ℕ) → 1024 ≤ Q → Near Q X Y → 1024 * Y ≤ 1025 * X
rounded Q X Y h v = let x : 1024 * X ≤ Q * X = mul-le-mul_right X h in le_of_mul-le-mul_left {k = Q} (omega arith) (omega arith)

-- A rounded number is below the cap C where T is below a fourth of it.
pub below_cap : (Q D R T C : ℕ) → 1024 ≤ Q → Near Q D R → 1024 * D ≤ 1025 * T → 4 * T < C → R < C
below_cap Q D R T C h v d c = let x = rounded Q D R h v in omega arith

-- The first product.
pub first_step : (Q : ℕ) (t : Bool) (X Y : ℕ) (w : Bool) → Near Q X Y → AddsTo false 0 t Y w Y → ErrorAfter Q 1 w Y (0 + above_zero t X) (0 + below_zero t X)
first_step Q t X Y w v e = go t w v (ap (λ (z : ℕ). Q * z) e)
  where
    go : (t w : Bool) → Near Q X Y → Q * (above_zero w Y + 0 + below_zero t Y) ≡ Q * (below_zero w Y + 0 + above_zero t Y) → ErrorAfter Q 1 w Y (0 + above_zero t X) (0 + below_zero t X)
    go false false v e = omega arith
    go false true v e = omega arith
    go true false v e = omega arith
    go true true v e = omega arith

-- One half of `Within`.
abbrev Over : ℕ → ℕ → ℕ → ℕ → ℕ → ℕ → Type 0
Over Q C a b p m = Q * a + Q * m ≤ Q * b + Q * p + C

-- One half of a later product's step: from a - b, near p - m, to rp - rm, near (p + xp) - (m + xm).
half_step : (Q k a b p m xp xm yp ym dp dm rp rm : ℕ)
    → Over (1024 * Q) (1025 * (suc k * (p + m))) a b p m
    → Over Q (xp + xm) yp ym xp xm
    → dp + b + ym ≡ dm + a + yp
    → Over Q (dp + dm) rp rm dp dm
    → 1024 * (dp + dm) ≤ 1025 * (p + m + (xp + xm))
    → Over (1024 * Q) (1025 * (suc (suc k) * (p + xp + (m + xm)))) rp rm (p + xp) (m + xm)
half_step Q k a b p m xp xm yp ym dp dm rp rm h y e d g =
    let e' : Q * (dp + b + ym) ≡ Q * (dm + a + yp) = ap (λ (z : ℕ). Q * z) e in
    omega arith

module _ (Q k : ℕ) (s : Bool) (N p m : ℕ) (t : Bool) (X Y : ℕ) (w : Bool) (D : ℕ) (K : 1024 ≤ Q) (L : 1025 * suc k ≤ Q) (i : ErrorAfter Q (suc k) s N p m) (y : Near Q X Y) (e : AddsTo s N t Y w D) where
  pub next_small : 1024 * D ≤ 1025 * (p + m + (above_zero t X + below_zero t X))
  next_small = rw (parts t X) (omega (arith, bounded Q (suc k) s N p m (omega arith) L i, rounded Q X Y K y, sum_le s N t Y w D e))

  -- Each later product.
  pub next_step : (R : ℕ) → Near Q D R → ErrorAfter Q (suc (suc k)) w R (p + above_zero t X) (m + below_zero t X)
  next_step R d =
      let yy = near_within Q t X Y y in
      let dd = near_within Q w D R d in
      let g : 1024 * (above_zero w D + below_zero w D) ≤ 1025 * (p + m + (above_zero t X + below_zero t X)) = rw (parts w D) next_small in (
        half_step Q k (above_zero s N) (below_zero s N) p m (above_zero t X) (below_zero t X) (above_zero t Y) (below_zero t Y) (above_zero w D) (below_zero w D) (above_zero w R) (below_zero w R) i.0 yy.0 e dd.0 g,
        other (below_zero t X) (above_zero t X)
            (half_step Q k (below_zero s N) (above_zero s N) m p (below_zero t X) (above_zero t X) (below_zero t Y) (above_zero t Y) (below_zero w D) (above_zero w D) (below_zero w R) (above_zero w R) (omega arith) (omega arith) (sym e) (omega arith) (omega arith)),
      )
    where
      other : (x z : ℕ) → Over (1024 * Q) (1025 * (suc (suc k) * (m + x + (p + z)))) (below_zero w R) (above_zero w R) (m + x) (p + z)
          → Over (1024 * Q) (1025 * (suc (suc k) * (p + z + (m + x)))) (below_zero w R) (above_zero w R) (m + x) (p + z)
      other x z h = omega arith

-- For up to 1024 products the bound is (k + 1) * T / Q.
pub last_step : (Q k a b p m : ℕ) → k ≤ 1024 → Within (1024 * Q) (1025 * (k * (p + m))) a b p m → Within Q (suc k * (p + m)) a b p m
last_step Q k a b p m h v = let x : k * (p + m) ≤ 1024 * (p + m) = mul-le-mul_right (p + m) h in (omega arith, omega arith)
