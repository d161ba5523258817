use mathlib.Core.Path.{◌≡◌, sym}
use mathlib.Core.List.{List}
use lib.Ieee.{Float}
use lib.ListN.{length}
use Rattle.std.specs.Prelude.{Result}
use Rattle.std.proofs.lemmas.Result.{err_from_is_err_and}
use Rattle.masks.specs.declared.outcome.Refusal.{Refusal}
use Rattle.masks.specs.declared.shape.Shape.{Shape}
use Rattle.masks.specs.Outcome.{Gives, refusal}
use Rattle.masks.specs.Shape.{conform_to}
use Rattle.masks.proofs.OutcomeLaws.{gives_refused}
use Rattle.product.specs.Products.{general_product}
use Rattle.arithmetic.specs.declared.scalar.ScalarTest.{ScalarTest}
use Rattle.arithmetic.specs.declared.scalar.ScalarTest.TheVariants.{Scalar}
use Rattle.arithmetic.specs.Scalar.{test_of, if_scalar}
use Rattle.arithmetic.specs.Scale.{scaled}
use Rattle.arithmetic.specs.Operators.{operator_tests, with_coefs, multiplication}
use Rattle.arithmetic.proofs.OperatorsLaws.{if_not_scalar, operator_passed, by_test}
use Rattle.arithmetic.proofs.operators.mul_by.Goals as goal

-- What is done where it is not refused.
by : (s t : Shape) (a b before : List Float) → refusal (operator_tests s t a b (length before)) ≡ 0 → (T : ScalarTest) (r : Result Shape Refusal) (after : List Float) → T ≡ test_of t b
    → Gives (if_scalar T (λ f. with_coefs (scaled f) (conform_to s t a (length before))) (general_product s t a b (length before)).outcome) r before after
    → Gives (multiplication s t a b (length before)) r before after
unfolding multiplication
by s t a b before z T r after e g = rw (by_test s t a b (length before) T _ _ z (sym e)) g

pub returns-in_err-operator_refusal : goal.returns-in_err-operator_refusal
unfolding multiplication
returns-in_err-operator_refusal c =
    let p = err_from_is_err_and c.from_residual.result c.from_residual.ensures.1 in
    rw (p.1, p.2) (gives_refused _ _ _ _ c.in_err-operator_refusal.ensures)

pub invariant_of-test_of : goal.invariant_of-test_of
invariant_of-test_of c =
    let a = c.args in
    let p = operator_passed a.left a.right a.a.now a.b.now (length a.out.now) c.in_ok-operator_refusal.ensures.0 in
    record { small = p.small_right; counted = p.counted_right }

pub returns-in-Scalar : goal.returns-in-Scalar
unfolding if_scalar
returns-in-Scalar c = by _ _ _ _ _ c.in_ok-operator_refusal.ensures.0 (Scalar c.in-Scalar.f) c.mul_scalar.result _ c.in-Scalar.ensures c.mul_scalar.ensures

pub returns-in_default : goal.returns-in_default
returns-in_default c =
    by _ _ _ _ _ c.in_ok-operator_refusal.ensures.0 c.test_of.result c.mul_other.result _ c.test_of.ensures
    (rw (if_not_scalar c.test_of.result _ _ c.in_default.not-Scalar) c.mul_other.ensures)
