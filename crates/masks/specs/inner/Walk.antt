-- Masks backwards, as a walk through an order meets them. Assumes nothing.
use Rattle.std.specs.Prelude.{cond, ℕ, zero, suc, ◌+◌, ◌-◌, ◌*◌, ◌/◌, ◌%◌, ◌^◌, eqb}
use Rattle.std.specs.Int.Bits.{bit_and}
use Rattle.std.specs.Int.Count.{count_trailing_zeros}

-- `backwards n m` is a mask of n dimensions, its bits from the other end: bit i becomes bit n - 1 - i.
unfoldable pub backwards : ℕ → ℕ → ℕ
backwards zero m = 0
backwards (suc n) m = m % 2 * 2 ^ n + backwards n (m / 2)

-- `fallen b x`: x's lowest one moves down by one, and a block of ones that stood below it, b of them, follows.
abbrev pub fallen : ℕ → ℕ → ℕ
fallen b x = x - 2 ^ count_trailing_zeros 32 x / 2 ^ (b + 1)

-- `next_backwards n x` follows x, which ends with some ones, b of them: of the others the lowest moves down by one, and the b follow it. Where there are no
-- others, x is the last of its grade, and b + 1 ones from the highest bit down are the first of the next.
unfoldable pub next_backwards : ℕ → ℕ → ℕ
next_backwards n x = fallen (count_trailing_zeros 32 (x + 1)) (cond (eqb (bit_and x (x + 1)) 0) (2 ^ n) (bit_and x (x + 1)))
