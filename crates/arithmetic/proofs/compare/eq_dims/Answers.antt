use mathlib.Core.Path.{◌≡◌, refl, sym, ap₂, ◌∙◌}
use mathlib.Core.Bool.{◌||◌}
use Rattle.std.proofs.lemmas.Result.{err_from_is_err_and}
use Rattle.masks.specs.declared.flavor.Flavor.TheVariants.{Vanilla}
use Rattle.masks.specs.declared.shape.Shape.{Shape}
use Rattle.masks.specs.Outcome.{refusal, shape_of}
use Rattle.masks.proofs.OutcomeLaws.{answered_err, answered_ok}
use Rattle.arithmetic.specs.Scalar.{test_of}
use Rattle.arithmetic.specs.Compare.{YesNo, compared_tests, answers_agree, same_places, refused_yes_no, equals}
use Rattle.arithmetic.proofs.compare.eq_dims.Goals.{After-compare_refusal}
use Rattle.arithmetic.proofs.compare.eq_dims.Goals as goal

number : (c : After-compare_refusal) → let s = c.args in refusal (compared_tests (shape_of s.dims Vanilla) (shape_of s.other Vanilla) s.a.now s.b.now) ≡ refusal (compared_tests c.shape_of-plain.result c.shape_of-plain_right.result s.a.now s.b.now)
number c = let s = c.args in sym (ap₂ (λ (p q : Shape). refusal (compared_tests p q s.a.now s.b.now)) c.shape_of-plain.ensures c.shape_of-plain_right.ensures)

pub returns-in_err-compare_refusal : goal.returns-in_err-compare_refusal
unfolding equals
returns-in_err-compare_refusal c =
    let p = err_from_is_err_and c.from_residual.result c.from_residual.ensures.1 in
    let f = c.in_err-compare_refusal in
    rw (p.1, p.2) (answered_err (λ (o : YesNo). o.number) (λ o. o.yes) refused_yes_no _ _ f.field-0.0 refl (number (goal.at.returns-in_err-compare_refusal c).After-compare_refusal ∙ f.ensures))

pub returns : goal.returns
unfolding equals
returns c =
    let s = c.args in
    answered_ok (λ (o : YesNo). o.number) (λ o. o.yes) refused_yes_no _ _ _ refl (number (goal.at.returns c).After-compare_refusal ∙ c.in_ok-compare_refusal.ensures.0)
    (c.equal_values.ensures ∙ ap₂ (λ (p q : Shape). answers_agree (test_of p s.a.now) (test_of q s.b.now) || same_places s.a.now s.b.now) c.shape_of-plain.ensures c.shape_of-plain_right.ensures)
