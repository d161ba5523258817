use mathlib.Core.Path.{◌≡◌, ap, ◌∙◌}
use mathlib.Core.List.{List}
use lib.Ieee.{Float}
use Rattle.masks.specs.declared.shape.Shape.{Shape}
use Rattle.masks.specs.Outcome.{laid}
use Rattle.arithmetic.specs.declared.scalar.ScalarTest.{ScalarTest}
use Rattle.arithmetic.specs.Scalar.{test_of}
use Rattle.arithmetic.specs.Inverse.{inverse_by, inverse_of}
use Rattle.arithmetic.proofs.inverse.put_inverse.Goals as goal

-- What the test answers decides.
decided : (s : Shape) (a out : List Float) (u : ScalarTest) → u ≡ test_of s a → laid (inverse_by u s a) out ≡ laid (inverse_of s a) out
decided s a out u e = ap (λ (v : ScalarTest). laid (inverse_by v s a) out) e

pub returns-in-Scalar : goal.returns-in-Scalar
unfolding inverse_by
returns-in-Scalar c = let a = c.args in c.put_reciprocal.ensures ∙ decided a.value.shape a.value.numbers.now a.out.now _ c.in-Scalar.ensures

pub returns-in-Planar : goal.returns-in-Planar
unfolding inverse_by
returns-in-Planar c = let a = c.args in decided a.value.shape a.value.numbers.now a.out.now _ c.in-Planar.ensures

pub returns-in-Neither : goal.returns-in-Neither
unfolding inverse_by
returns-in-Neither c = let a = c.args in c.put_general.ensures ∙ decided a.value.shape a.value.numbers.now a.out.now _ c.in-Neither.ensures
