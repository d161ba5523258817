use mathlib.Core.Path.{◌≡◌}
use mathlib.Core.Bool.{Bool}
use Prim.Native.Nat.{ℕ, ◌-◌, ◌*◌, ◌%◌, ◌^◌, ◌≤◌}
use native.Mathlib.Omega.{arith}
use lib.Dec.{T, eqb, eqb→eq, ltb, leb, leb→le}
use borrow.Author.Tests.{lt-ltb}
use Rattle.masks.proofs.ListLaws.{upto, upto_at}
use Rattle.product.specs.inner.Metric.{mask_of}
use Rattle.product.proofs.metric.low_bits.Goals as goal

-- What the code gives for k, and that it may take 1 away.
right : ℕ → Bool
right k = eqb (1 * 2 ^ k % 4294967296 - 1) (mask_of 9 (λ i. ltb i k))

above : ℕ → Bool
above k = leb 1 (1 * 2 ^ k % 4294967296)

all_right : T (upto right 9)
unfolding right mask_of
all_right = tt

all_above : T (upto above 9)
unfolding above
all_above = tt

all_bits : (k : ℕ) → 9 ≤ k → 511 ≡ mask_of 9 (λ i. ltb i k)
unfolding mask_of
all_bits k h =
    rw (
      lt-ltb 0 k (omega arith),
      lt-ltb 1 k (omega arith),
      lt-ltb 2 k (omega arith),
      lt-ltb 3 k (omega arith),
      lt-ltb 4 k (omega arith),
      lt-ltb 5 k (omega arith),
      lt-ltb 6 k (omega arith),
      lt-ltb 7 k (omega arith),
      lt-ltb 8 k (omega arith),
    )

pub overflow_sub-result : goal.overflow_sub-result
unfolding above
overflow_sub-result c = let k = c.args.k in leb→le 1 (1 * 2 ^ k % 4294967296) (upto_at above 9 k all_above c.if-k-lt9.true)

pub returns-then-k-lt9 : goal.returns-then-k-lt9
unfolding right
returns-then-k-lt9 c = let k = c.args.k in eqb→eq _ _ (upto_at right 9 k all_right c.if-k-lt9.true)

pub returns-else-k-lt9 : goal.returns-else-k-lt9
returns-else-k-lt9 c = all_bits c.args.k (omega arith)
