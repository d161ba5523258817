-- Numbers with a sign, as a sign (true is minus) and a size, or as a difference of two natural numbers. Definitions only.
use Rattle.std.specs.Prelude.{◌≡◌, ℕ, ◌+◌, ◌*◌, ◌≤◌, Bool, cond}

-- How far the number of sign s and size n lies above zero: n for plus, 0 for minus.
abbrev pub above_zero : Bool → ℕ → ℕ
above_zero s n = cond s 0 n

-- How far it lies below zero: 0 for plus, n for minus.
abbrev pub below_zero : Bool → ℕ → ℕ
below_zero s n = cond s n 0

-- ±A ± B is ±D, with the signs s, t and w.
abbrev pub AddsTo : Bool → ℕ → Bool → ℕ → Bool → ℕ → Type 0
AddsTo s A t B w D = above_zero w D + below_zero s A + below_zero t B ≡ below_zero w D + above_zero s A + above_zero t B

-- a - b is within C / Q of p - m.
abbrev pub Within : ℕ → ℕ → ℕ → ℕ → ℕ → ℕ → Type 0
Within Q C a b p m = (Q * a + Q * m ≤ Q * b + Q * p + C) × (Q * b + Q * p ≤ Q * a + Q * m + C)
