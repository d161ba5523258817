-- The coefficients that the bound is promised for: zero, or neither too small nor too large. Definitions only.
use Rattle.std.specs.Prelude.{ℕ, zero, suc, ◌+◌, ◌-◌, ◌*◌, ◌^◌, ◌≤◌, T, Float}
use Rattle.std.specs.Float.{nan, inf, fin, Format, binary32, binary64}
use Rattle.std.specs.Float.Ieee.{prec, up, down, fits}
use Rattle.rounding.specs.Terms.{Term}

-- x is zero, or of a size from 2 ^ -r to 2 ^ r.
abbrev pub Sized : ℕ → Float → Type 0
Sized r nan = ⊥
Sized r (inf s) = ⊥
Sized r (fin s zero e) = Unit {0}
Sized r (fin s (suc m) e) = (down e ≤ suc m * up e * 2 ^ r) × (suc m * up e ≤ 2 ^ r * down e)

-- Both factors of a term are so, and the format holds them.
abbrev pub InRange : Format → ℕ → Term → Type 0
InRange f r t = T (fits f t.left) × T (fits f t.right) × Sized r t.left × Sized r t.right

-- The r that is promised for each format.
abbrev pub reach : Format → ℕ
reach binary32 = 50
reach binary64 = 400

-- The g for which such a coefficient of the format is a whole number of 2 ^ -g.
abbrev pub grain : Format → ℕ → ℕ
grain f r = r + (prec f - 1)

-- That g at the promised r: 73 and 452, so that a product is a whole number of 2 ^ -146 or of 2 ^ -904.
abbrev pub grain_of : Format → ℕ
grain_of f = grain f (reach f)
