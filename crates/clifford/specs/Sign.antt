-- A sign is 1 or -1.
use Rattle.std.specs.Prelude.{cond, ℕ, ◌%◌, ltb, ℤ, pos, neg_ℤ}
use Rattle.std.proofs.Math.IntN.{pow}

-- `sign k` is -1 to the k.
unfoldable pub sign : ℕ → ℤ
sign k = pow (neg_ℤ (pos 1)) k

-- `reverse` negates grades 2, 3 mod 4, and `reversal k` is the sign that it gives to grade k.
unfoldable pub reversal : ℕ → ℤ
reversal k = cond (ltb (k % 4) 2) (pos 1) (neg_ℤ (pos 1))
