-- Rounding a whole number to p binary digits. Definitions only.
use Rattle.std.specs.Prelude.{ℕ, ◌+◌, ◌-◌, ◌*◌, ◌^◌, ◌≤◌}
use Rattle.std.specs.Float.Ieee.{size}
use Rattle.std.specs.Float.Ieee.Nearest.{closest}

-- n rounded to p binary digits: the nearest multiple of the power of two that leaves p digits, and of two equally near the even one.
abbrev pub rnd : ℕ → ℕ → ℕ
rnd p n = closest n (2 ^ (size n - p)) * 2 ^ (size n - p)

-- r is within n / Q of n.
abbrev pub Near : ℕ → ℕ → ℕ → Type 0
Near Q n r = (r * Q ≤ n * Q + n) × (n * Q ≤ r * Q + n)
