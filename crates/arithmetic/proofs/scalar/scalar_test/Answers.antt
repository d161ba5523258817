use mathlib.Core.Path.{refl, sym, ◌∙◌}
use mathlib.Core.List.{[]}
use native.Mathlib.Omega.{arith}
use lib.ListN.{length}
use lib.Pow.{pow_pos}
use Rattle.std.proofs.lemmas.Result.{err_from_is_err_and}
use Rattle.masks.proofs.OutcomeLaws.{answered_err, answered_ok, Valued, valued}
use Rattle.arithmetic.specs.Scalar.{Tested, scalar_test, refused_test}
use Rattle.arithmetic.proofs.ScalarLaws.{test_scalar}
use Rattle.arithmetic.proofs.scalar.scalar_test.Goals.{In_ok-value_refusal}
use Rattle.arithmetic.proofs.scalar.scalar_test.Goals as goal

-- A value that is not refused has the numbers of its dimensions.
counts : (c : In_ok-value_refusal) → let a = c.args in Valued a.shape.dims (length a.a.now)
counts c = (valued _ _ [] c.in_ok-value_refusal.ensures.0).0

pub returns-in_err-value_refusal : goal.returns-in_err-value_refusal
unfolding scalar_test
returns-in_err-value_refusal c =
    let p = err_from_is_err_and c.from_residual.result c.from_residual.ensures.1 in
    let f = c.in_err-value_refusal in
    rw (p.1, p.2) (answered_err (λ (o : Tested). o.number) (λ o. o.test) refused_test _ _ f.field-0.0 refl f.ensures)

pub bounds-a-0 : goal.bounds-a-0
bounds-a-0 c = omega (arith, (counts (goal.at.bounds-a-0 c).In_ok-value_refusal).counted, pow_pos c.args.shape.dims)

pub returns-then-is_scalar : goal.returns-then-is_scalar
unfolding scalar_test
returns-then-is_scalar c =
    let a = c.args in
    answered_ok (λ (o : Tested). o.number) (λ o. o.test) refused_test _ _ _ refl c.in_ok-value_refusal.ensures.0 (sym (test_scalar a.shape a.a.now (sym c.is_scalar.ensures ∙ c.if-is_scalar.true)))

pub test_other-requires : goal.test_other-requires
test_other-requires c = ((counts (goal.at.test_other-requires c).In_ok-value_refusal).counted, sym c.is_scalar.ensures ∙ c.if-is_scalar.false)

pub returns : goal.returns
unfolding scalar_test
returns c = answered_ok (λ (o : Tested). o.number) (λ o. o.test) refused_test _ _ _ refl c.in_ok-value_refusal.ensures.0 c.test_other.ensures
