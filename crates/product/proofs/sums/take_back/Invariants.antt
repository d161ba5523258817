use mathlib.Core.Path.{◌≡◌}
use Rattle.masks.proofs.ListLaws.{front}
use Rattle.product.specs.inner.Plan.{taken_by}
use Rattle.product.proofs.sums.take_back.Given as goal

abbrev pub invariant-loop-k : goal.invariant-loop-k
invariant-loop-k l = l.x-items ≡ front l.k (taken_by l.plan l.acc) l.initial.x-items
