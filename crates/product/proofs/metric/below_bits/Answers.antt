use mathlib.Core.Bool.{Bool}
use Prim.Native.Nat.{ℕ, ◌*◌, ◌%◌}
use lib.Dec.{T, eqb, eqb→eq}
use lib.Bits.{bit_and, bit_xor}
use Rattle.clifford.specs.Blade.{has, count}
use Rattle.product.specs.inner.Metric.{mask_of, odd_below}
use Rattle.masks.proofs.ListLaws.{upto, upto_at}
use Rattle.product.proofs.metric.below_bits.Goals as goal

-- x ^ x << k, where p is 2 ^ k.
fold : ℕ → ℕ → ℕ
fold x p = bit_xor x (x * p % 4294967296)

code : ℕ → ℕ
code b = bit_and (fold (fold (fold (b * 2 % 4294967296) 2) 4) 16) 511

same : ℕ → Bool
same b = eqb (code b) (odd_below b)

all_same : T (upto same 512)
unfolding fold code same odd_below mask_of count has
all_same = tt

pub returns : goal.returns
unfolding fold code same
returns c = eqb→eq (code c.args.b) (odd_below c.args.b) (upto_at same 512 c.args.b all_same c.requires)
