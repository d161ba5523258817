-- The products count their contributing pairs.
use Rattle.std.specs.Prelude.{Bool, true, false, not, ◌&&◌, ℕ, zero, suc, ◌^◌, eqb, ℤ, pos, negsuc}
use Rattle.std.specs.Int.Bits.{bit_and}
use Rattle.clifford.specs.Blade.{count}
use Rattle.clifford.specs.Metric.{metric}
use Rattle.clifford.specs.Sum.{total}

-- `nonzero` tells whether a metric is nonzero.
abbrev pub nonzero : ℤ → Bool
nonzero (pos zero) = false
nonzero (pos (suc n)) = true
nonzero (negsuc n) = true

-- The mask a is within b where every bit of a is one of b.
unfoldable pub within : ℕ → ℕ → Bool
within a b = eqb (bit_and a b) a

-- `pairs` is the number of pairs of masks a, b that the mode takes, with a nonzero metric.
unfoldable pub pairs : (ℕ → ℤ) → ℕ → (ℕ → ℕ → Bool) → ℕ
pairs g d takes = total (2 ^ d) (λ a. count (2 ^ d) (λ b. takes a b && nonzero (metric g d a b)))

-- `nulls` is the number of vectors below d whose flavor metric is 0.
unfoldable pub nulls : (ℕ → ℤ) → ℕ → ℕ
nulls g d = count d (λ i. not (nonzero (g i)))
