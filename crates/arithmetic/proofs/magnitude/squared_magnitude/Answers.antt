use mathlib.Core.Path.{refl}
use mathlib.Core.List.{[]}
use native.Mathlib.Omega.{arith}
use lib.ListN.{length}
use lib.Pow.{pow_mono}
use Rattle.std.proofs.lemmas.Result.{err_from_is_err_and}
use Rattle.masks.specs.Outcome.{Real, refused_real}
use Rattle.masks.proofs.OutcomeLaws.{answered_err, answered_ok, Valued, valued}
use Rattle.arithmetic.specs.Magnitude.{squared_magnitude}
use Rattle.arithmetic.proofs.magnitude.squared_magnitude.Goals.{In_ok-value_refusal}
use Rattle.arithmetic.proofs.magnitude.squared_magnitude.Goals as goal

-- A value that is not refused has the numbers of its dimensions.
counts : (c : In_ok-value_refusal) → let a = c.args in Valued a.shape.dims (length a.a.now)
counts c = (valued _ _ [] c.in_ok-value_refusal.ensures.0).0

pub returns-in_err-value_refusal : goal.returns-in_err-value_refusal
unfolding squared_magnitude
returns-in_err-value_refusal c =
    let p = err_from_is_err_and c.from_residual.result c.from_residual.ensures.1 in
    let f = c.in_err-value_refusal in
    rw (p.1, p.2) (answered_err (λ (o : Real). o.number) (λ o. o.value) refused_real _ _ f.field-0.0 refl f.ensures)

pub sum_in-requires : goal.sum_in-requires
sum_in-requires c =
    let v = counts (goal.at.sum_in-requires c).In_ok-value_refusal in
    (v.small, omega (arith, pow_mono {j = 6} c.if-shape-le6.true), omega arith, v.counted)

pub returns-then-shape-le6 : goal.returns-then-shape-le6
unfolding squared_magnitude
returns-then-shape-le6 c = answered_ok (λ (o : Real). o.number) (λ o. o.value) refused_real _ _ _ refl c.in_ok-value_refusal.ensures.0 c.sum_in.ensures

pub sum_in-requires-2 : goal.sum_in-requires-2
sum_in-requires-2 c =
    let v = counts (goal.at.sum_in-requires-2 c).In_ok-value_refusal in
    (v.small, omega (arith, pow_mono {j = 9} v.small), omega arith, v.counted)

pub returns : goal.returns
unfolding squared_magnitude
returns c = answered_ok (λ (o : Real). o.number) (λ o. o.value) refused_real _ _ _ refl c.in_ok-value_refusal.ensures.0 c.sum_in-2.ensures
