use mathlib.Core.Path.{◌≡◌}
use mathlib.Core.Bool.{Bool, ◌&&◌}
use Prim.Native.Nat.{ℕ, ◌-◌, ◌≤◌}
use lib.Bits.{bit_and}
use lib.Dec.{ltb}
use Rattle.product.specs.inner.Sums.{with_pairs, subset_from}
use Rattle.product.proofs.sums.add_subsets.Given as goal

-- A mask that passes has a subset before s.
abbrev before : ℕ → ℕ → ℕ → ℕ → ℕ → Bool
before base free from s m = subset_from base free from m && ltb (bit_and m free) s

abbrev pub invariant-loop-s : goal.invariant-loop-s
invariant-loop-s l =
    record {
      subset : bit_and l.s l.free ≡ l.s;
      later : l.from ≤ l.s;
      added : l.acc ≡ with_pairs (before l.base l.free l.from l.s) l.blade l.y l.left.am.now l.initial.acc;
    }

abbrev pub decreases-loop-s : goal.decreases-loop-s
decreases-loop-s l = l.free - l.s
