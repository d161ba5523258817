use mathlib.Core.Path.{◌≡◌}
use Rattle.clifford.specs.Pairs.{nulls}
use Rattle.masks.specs.Flavor.{metric_of}
use Rattle.product.proofs.pairs.null_count.Given as goal

abbrev pub invariant-loop-i : goal.invariant-loop-i
invariant-loop-i l = l.n ≡ nulls (metric_of l.flavor) l.i
