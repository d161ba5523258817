use mathlib.Core.Path.{◌≡◌, refl, sym, ap, ◌∙◌}
use mathlib.Core.List.{List, ◌++◌}
use Prim.Native.Nat.{◌<◌}
use native.Mathlib.Omega.{arith}
use lib.Ieee.{Float, nan}
use lib.ListN.{length, get_or, take, drop}
use lib.Pow.{pow_pos}
use Rattle.masks.specs.declared.shape.Shape.{Shape}
use Rattle.masks.specs.Outcome.{laid}
use Rattle.masks.proofs.ListLaws.{lay_front}
use Rattle.arithmetic.specs.declared.scalar.ScalarTest.{ScalarTest}
use Rattle.arithmetic.specs.Scalar.{test_of, if_scalar}
use Rattle.arithmetic.specs.Inverse.{square_of, less_scalar, by_square, nanified, general_inverse}
use Rattle.arithmetic.proofs.KeptLaws.{relaid, first_laid}
use Rattle.arithmetic.proofs.InverseLaws.{less_scalar_length, by_square_length}
use Rattle.arithmetic.proofs.OperatorsLaws.{if_not_scalar}
use Rattle.arithmetic.proofs.inverse.put_general.Goals as goal

-- A copy that is changed where it lies is the inverse by the square q.
by_copy : (a before mid after : List Float) (q : Float) → 0 < length a → mid ≡ laid a before
    → after ≡ laid (by_square (get_or mid 0 nan) (less_scalar (take (length a) mid)) q) mid → after ≡ laid (by_square (get_or a 0 nan) (less_scalar a) q) before
by_copy a before mid after q some c e =
    let first : get_or mid 0 nan ≡ get_or a 0 nan = ap (λ (xs : List Float). get_or xs 0 nan) c ∙ first_laid a before some in
    relaid (λ xs. by_square (get_or mid 0 nan) (less_scalar xs) q) a before mid after (length a) refl (by_square_length (get_or mid 0 nan) (less_scalar a) q ∙ less_scalar_length a) c e
    ∙ ap (λ (x : Float). laid (by_square x (less_scalar a) q) before) first

-- What the test of the square answers decides.
general_by : (s : Shape) (a out : List Float) (u : ScalarTest) → u ≡ test_of s (square_of s (less_scalar a))
    → laid (if_scalar u (by_square (get_or a 0 nan) (less_scalar a)) (nanified s.dims)) out ≡ laid (general_inverse s a) out
unfolding general_inverse
general_by s a out u e = ap (λ (v : ScalarTest). laid (if_scalar v (by_square (get_or a 0 nan) (less_scalar a)) (nanified s.dims)) out) e

pub returns-in-Scalar : goal.returns-in-Scalar
unfolding if_scalar
returns-in-Scalar c =
    let a = c.args in
    by_copy a.value.numbers.now a.out.now (c.lay.new.out ++ drop (length a.value.numbers.now) a.out.now) _ c.in-Scalar.q (omega (arith, c.args.value.counted, pow_pos a.value.shape.dims)) (ap (λ (xs : List Float). xs ++ drop (length a.value.numbers.now) a.out.now) (c.lay.ensures ∙ lay_front a.value.numbers.now a.out.now (omega (arith, c.requires.room, c.args.value.counted)))) c.put_by_square.ensures
    ∙ general_by a.value.shape a.value.numbers.now a.out.now _ c.in-Scalar.ensures

pub returns-in_default : goal.returns-in_default
returns-in_default c =
    let a = c.args in
    c.put_nan.ensures
    ∙ ap (λ (xs : List Float). laid xs a.out.now) (sym (if_not_scalar c.test_square.result (by_square (get_or a.value.numbers.now 0 nan) (less_scalar a.value.numbers.now)) _ c.in_default.not-Scalar))
    ∙ general_by a.value.shape a.value.numbers.now a.out.now _ c.test_square.ensures
