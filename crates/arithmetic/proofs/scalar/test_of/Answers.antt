use mathlib.Core.Path.{sym, ◌∙◌}
use Rattle.arithmetic.proofs.ScalarLaws.{test_scalar}
use Rattle.arithmetic.proofs.scalar.test_of.Goals as goal

pub returns-then-is_scalar : goal.returns-then-is_scalar
returns-then-is_scalar c =
    let s = c.args in
    sym (test_scalar s.value.shape s.value.numbers.now (sym c.is_scalar.ensures ∙ c.if-is_scalar.true))
