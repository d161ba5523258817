use mathlib.Core.Path.{◌≡◌}
use lib.Dec.{ltb}
use Rattle.product.specs.inner.Sums.{with_pairs}
use Rattle.product.proofs.sums.add_all.Given as goal

abbrev pub invariant-loop-m : goal.invariant-loop-m
invariant-loop-m l = l.acc ≡ with_pairs (λ k. ltb k l.m) l.blade l.y l.left.am.now l.initial.acc
