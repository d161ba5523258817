-- The metric of a pair by counts of ones, which is how the code works it out. A reader need not believe this page: `pair_live` and `pair_minus` (proofs/MetricLaws) hold it to specs/Mode. Assumes nothing.
use Rattle.std.specs.Prelude.{Bool, not, cond, ℕ, zero, suc, ◌+◌, ◌%◌, ◌^◌, eqb}
use Rattle.std.specs.Int.Bits.{bit_and, bit_xor}
use Rattle.clifford.specs.Blade.{has, count}
use Rattle.clifford.specs.Metric.{turned}
use Rattle.clifford.specs.Pairs.{nonzero}
use Rattle.masks.specs.declared.flavor.Flavor.{Flavor}
use Rattle.masks.specs.Flavor.{metric_of}
use Rattle.product.specs.declared.metric.Squares.{Squares}
use Rattle.product.specs.declared.metric.Blade.{Blade}
use Rattle.product.specs.inner.Pairwise.{negative}

-- `mask_of n test` has the bits below n that pass a test.
unfoldable pub mask_of : ℕ → (ℕ → Bool) → ℕ
mask_of zero test = 0
mask_of (suc i) test = mask_of i test + cond (test i) (2 ^ i) 0

-- The masks of the basis vectors below n that square to 0, and of those that square to -1.
unfoldable pub squares_below : ℕ → Flavor → Squares
squares_below n f = record { null = mask_of n (λ i. not (nonzero (metric_of f i))); minus = mask_of n (λ i. negative (metric_of f i)) }

-- `odd_below b` has the bits that an odd number of b's bits stand below.
unfoldable pub odd_below : ℕ → ℕ
odd_below b = mask_of 9 (λ i. eqb (count i (has b) % 2) 1)

-- A blade of b, with the vectors of a that it makes the metric 0 by, and those that change the sign.
unfoldable pub blade_of : Squares → ℕ → Blade
blade_of s b = record { mask = b; null = bit_and b s.null; flips = bit_xor (odd_below b) (bit_and b s.minus) }

-- Whether an odd number of a, b and a xor b are turned.
unfoldable pub turns : ℕ → ℕ → ℕ → ℕ
turns d a b = (turned d a + turned d b + turned d (bit_xor a b)) % 2
