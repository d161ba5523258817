use mathlib.Core.Path.{refl}
use mathlib.Core.List.{[]}
use Rattle.std.proofs.lemmas.Result.{err_from_is_err_and}
use Rattle.masks.specs.Outcome.{Real, refused_real}
use Rattle.masks.specs.Blade.{get_blade}
use Rattle.masks.proofs.OutcomeLaws.{valued, answered_err, answered_ok}
use Rattle.masks.proofs.shape.Shape.get_blade.Goals as goal

pub returns-in_err-value_refusal : goal.returns-in_err-value_refusal
unfolding get_blade
returns-in_err-value_refusal c =
    let p = err_from_is_err_and c.from_residual.result c.from_residual.ensures.1 in
    let f = c.in_err-value_refusal in
    rw (p.1, p.2) (answered_err (λ (o : Real). o.number) (λ (o : Real). o.value) refused_real _ _ f.field-0.0 refl f.ensures)

pub invariant_of-coefficient : goal.invariant_of-coefficient
invariant_of-coefficient c = let v = (valued _ _ [] c.in_ok-value_refusal.ensures.0).0 in record { small = v.small; counted = v.counted }

pub returns : goal.returns
unfolding get_blade
returns c = answered_ok (λ (o : Real). o.number) (λ (o : Real). o.value) refused_real _ _ _ refl c.in_ok-value_refusal.ensures.0 c.coefficient.ensures
