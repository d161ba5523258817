use mathlib.Core.Path.{◌≡◌}
use Prim.Native.Nat.{◌*◌}
use lib.ListN.{drop}
use Rattle.arithmetic.specs.Compare.{compared_places}
use Rattle.arithmetic.proofs.compare.compare_by_fours.Given as goal

abbrev pub invariant-loop-k : goal.invariant-loop-k
invariant-loop-k l = compared_places l.a l.b ≡ compared_places (drop (4 * l.k) l.a) (drop (4 * l.k) l.b)
