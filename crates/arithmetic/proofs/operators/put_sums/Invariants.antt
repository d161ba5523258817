use mathlib.Core.Path.{◌≡◌}
use Rattle.masks.proofs.ListLaws.{front}
use Rattle.arithmetic.specs.Operators.{Sum, summed_each}
use Rattle.arithmetic.specs.inner.Sums.{Sums}
use Rattle.arithmetic.proofs.operators.put_sums.Given as goal

abbrev pub invariant-loop-i : goal.invariant-loop-i
invariant-loop-i g l = (op : Sum) → Sums (goal.F-post g l.sum) op → l.out ≡ front l.i (summed_each op l.a l.b) l.initial.out
