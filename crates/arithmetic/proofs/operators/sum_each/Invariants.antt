use mathlib.Core.Path.{◌≡◌}
use mathlib.Core.List.{List}
use lib.Ieee.{Float}
use lib.ListN.{length, take}
use Rattle.masks.proofs.ListLaws.{front}
use Rattle.arithmetic.specs.Operators.{Sum, summed_each}
use Rattle.arithmetic.specs.inner.Sums.{Sums}
use Rattle.arithmetic.proofs.operators.sum_each.Given as goal

-- The sums of the numbers at the front with those of b.
abbrev pub sums : Sum → List Float → List Float → List Float
sums op b out = summed_each op (take (length b) out) b

abbrev pub invariant-loop-k : goal.invariant-loop-k
invariant-loop-k g l = (op : Sum) → Sums (goal.F-post g l.sum) op → l.out ≡ front l.k (sums op l.b l.initial.out) l.initial.out
