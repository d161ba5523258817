use mathlib.Core.Path.{◌≡◌}
use lib.ListN.{drop}
use Rattle.arithmetic.specs.Compare.{compared_places}
use Rattle.arithmetic.proofs.compare.compare_from.Given as goal

abbrev pub invariant-loop-i : goal.invariant-loop-i
invariant-loop-i l = compared_places (drop l.first l.a) (drop l.first l.b) ≡ compared_places (drop l.i l.a) (drop l.i l.b)
