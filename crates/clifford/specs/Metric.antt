-- The metric of a pair of masks a, b in d dimensions, where g gives each index its flavor metric.
use Rattle.std.specs.Prelude.{◌&&◌, cond, ℕ, zero, suc, ◌+◌, eqb, ltb, ℤ, pos, ◌*ℤ◌}
use Rattle.std.specs.Int.Bits.{bit_xor}
use Rattle.clifford.specs.Blade.{Blade, has, count}
use Rattle.clifford.specs.Sign.{sign}
use Rattle.clifford.specs.Sum.{total}

-- `swaps` is the number of index pairs i in a, j in b with j < i.
unfoldable pub swaps : ℕ → Blade → Blade → ℕ
swaps d a b = total d (λ i. count d (λ j. a i && b j && ltb j i))

-- `shared` multiplies the flavor metrics of shared bits.
unfoldable pub shared : (ℕ → ℤ) → ℕ → Blade → Blade → ℤ
shared g zero a b = pos 1
shared g (suc i) a b = shared g i a b *ℤ cond (a i && b i) (g i) (pos 1)

-- At d = 3, a mask that is 101 brings one more sign change, so that place 5 means e31.
unfoldable pub turned : ℕ → ℕ → ℕ
turned d m = cond (eqb d 3 && eqb m 5) 1 0

-- The metric is -1 to the number of index pairs and of sign changes for a, b and a xor b, times the flavor metrics of shared bits.
unfoldable pub metric : (ℕ → ℤ) → ℕ → ℕ → ℕ → ℤ
metric g d a b = sign (swaps d (has a) (has b) + (turned d a + turned d b + turned d (bit_xor a b))) *ℤ shared g d (has a) (has b)
