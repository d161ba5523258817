-- The value of a finite float in units of 2 ^ -u, and how near it is to an exact one. Definitions only.
use Rattle.std.specs.Prelude.{◌≡◌, ℕ, ◌+◌, ◌*◌, ◌/◌, ◌^◌, Bool, false, Float}
use Rattle.std.specs.Float.{nan, inf, fin, Format}
use Rattle.std.specs.Float.Ieee.{prec, up, down}
use Rattle.std.specs.Float.Ieee.Exact.{HasValue}
use Rattle.rounding.specs.Signed.{above_zero, below_zero, Within}

-- A float's sign: true is minus.
abbrev pub sign_of : Float → Bool
sign_of nan = false
sign_of (inf s) = s
sign_of (fin s m e) = s

-- A finite float's size in units of 2 ^ -u, cut to a whole number.
abbrev pub size_in : ℕ → Float → ℕ
size_in u nan = 0
size_in u (inf s) = 0
size_in u (fin s m e) = m * up e * 2 ^ u / down e

-- x is finite and a whole number of 2 ^ -u.
abbrev pub Whole : ℕ → Float → Type 0
Whole u x = HasValue x (sign_of x) (size_in u x) (2 ^ u)

-- x is finite, and within C * 2 ^ -prec units of the exact p - m units.
pub record Close (f : Format) (u : ℕ) (x : Float) (C p m : ℕ) : Type 0 where
  pub sign : Bool
  pub amount : ℕ
  pub value : HasValue x sign amount (2 ^ u)
  pub near : Within (2 ^ prec f) C (above_zero sign amount) (below_zero sign amount) p m

-- x is exactly p - m units.
pub record Exact (u : ℕ) (x : Float) (p m : ℕ) : Type 0 where
  pub sign : Bool
  pub amount : ℕ
  pub value : HasValue x sign amount (2 ^ u)
  pub exact : above_zero sign amount + m ≡ below_zero sign amount + p
