-- One operation on floats, in units of 2 ^ -u: `HasValue x s n (2 ^ u)` says that x is finite, has the sign s (true is minus) and is n units in size. Definitions only.
use Rattle.std.specs.Prelude.{ℕ, suc, ◌+◌, ◌^◌, ◌<◌, Bool, pos, Float}
use Rattle.std.specs.Float.{fin, Format}
use Rattle.std.specs.Float.Ieee.{prec, emax}
use Rattle.std.specs.Float.Ieee.Exact.{HasValue}
use Rattle.rounding.specs.Round.{rnd}
use Rattle.rounding.specs.Signed.{AddsTo}

-- The format's finite values are below this many units.
abbrev pub cap : Format → ℕ → ℕ
cap f u = 2 ^ (u + suc (emax f))

-- x is the sum of ±A and ±B units, rounded once, unless that is too large for the format.
abbrev pub RoundedSum : Format → ℕ → Float → Bool → ℕ → Bool → ℕ → Type 0
RoundedSum f u x s A t B = (w : Bool) × (D : ℕ) × AddsTo s A t B w D × (rnd (prec f) D < cap f u → HasValue x w (rnd (prec f) D) (2 ^ u))

-- 1, or -1 where s is true.
abbrev pub signed_one : Bool → Float
signed_one s = fin s 1 (pos 0)
