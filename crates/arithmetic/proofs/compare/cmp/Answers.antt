use mathlib.Core.Path.{refl}
use Rattle.std.proofs.lemmas.Result.{err_from_is_err_and}
use Rattle.masks.proofs.OutcomeLaws.{answered_err, answered_ok}
use Rattle.arithmetic.specs.Compare.{Ordered, refused_ordered, compared}
use Rattle.arithmetic.proofs.CompareLaws.{both_valued}
use Rattle.arithmetic.proofs.compare.cmp.Goals as goal

pub returns-in_err-compare_refusal : goal.returns-in_err-compare_refusal
unfolding compared
returns-in_err-compare_refusal c =
    let p = err_from_is_err_and c.from_residual.result c.from_residual.ensures.1 in
    let f = c.in_err-compare_refusal in
    rw (p.1, p.2) (answered_err (λ (o : Ordered). o.number) (λ o. o.order) refused_ordered _ _ f.field-0.0 refl f.ensures)

pub invariant_of-value : goal.invariant_of-value
invariant_of-value c =
    let a = c.args in
    let v = (both_valued a.left a.right a.a.now a.b.now c.in_ok-compare_refusal.ensures.0).0 in
    record { small = v.small; counted = v.counted }

pub invariant_of-value_right : goal.invariant_of-value_right
invariant_of-value_right c =
    let a = c.args in
    let v = (both_valued a.left a.right a.a.now a.b.now c.in_ok-compare_refusal.ensures.0).1 in
    record { small = v.small; counted = v.counted }

pub returns : goal.returns
unfolding compared
returns c = answered_ok (λ (o : Ordered). o.number) (λ o. o.order) refused_ordered _ _ _ refl c.in_ok-compare_refusal.ensures.0 c.compare_values.ensures
