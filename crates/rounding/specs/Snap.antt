-- Snap, which document 01 has after each product: where the fraction of the size is below 1e-14, or 1 less it is, the nearest whole number replaces it, sign kept. NaN and infinities stay. Definitions only.
use Rattle.std.specs.Prelude.{ℕ, suc, ◌+◌, ◌-◌, ◌*◌, ◌/◌, ◌%◌, ◌^◌, ◌<◌, Bool, cond, ltb, Float}
use Rattle.std.specs.Float.{nan, inf, fin, Format}
use Rattle.std.specs.Float.Ieee.{up, down, round}
use Rattle.std.specs.Float.Ieee.Exact.{HasValue}

-- The f64 that is written 1e-14 is this number over a power of two.
abbrev pub tiny_num : ℕ
tiny_num = 6338253001141147

-- The exponent of that power.
abbrev pub tiny_exp : ℕ
tiny_exp = 99

-- The fraction r / d is below 1e-14.
unfoldable pub tiny : ℕ → ℕ → Bool
tiny r d = ltb (r * 2 ^ tiny_exp) (tiny_num * d)

-- The snap of x, whose sign is s and whose size is a / d.
unfoldable pub snap_by : Format → Bool → ℕ → ℕ → Float → Float
unfolding tiny
snap_by f s a d x = cond (tiny (a % d) d) (round f s (a / d) 1) (cond (tiny (d - a % d) d) (round f s (suc (a / d)) 1) x)

-- The snap of any float.
unfoldable pub snap : Format → Float → Float
unfolding snap_by
snap f nan = nan
snap f (inf s) = inf s
snap f (fin s m e) = snap_by f s (m * up e) (down e) (fin s m e)

-- The whole number W is less than 1 / P from a / d.
abbrev pub NearWhole : ℕ → ℕ → ℕ → ℕ → Type 0
NearWhole P a d W = (a * P < W * d * P + d) × (W * d * P < a * P + d)

-- y has the sign s and is a whole number less than 2 ^ -46 from a / d.
pub record Snapped (y : Float) (s : Bool) (a d : ℕ) : Type 0 where
  pub whole : ℕ
  pub value : HasValue y s whole 1
  pub near : NearWhole (2 ^ 46) a d whole
