use mathlib.Core.Path.{◌≡◌}
use Rattle.arithmetic.specs.Magnitude.{weighed_sum}
use Rattle.arithmetic.proofs.magnitude.sum_squares.Given as goal

abbrev pub invariant-loop-i : goal.invariant-loop-i
invariant-loop-i l = l.sum ≡ weighed_sum l.fn.flavor l.dims l.a l.i
