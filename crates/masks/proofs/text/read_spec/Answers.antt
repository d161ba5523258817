use mathlib.Core.Path.{◌≡◌, sym, ap, ap₂, ◌∙◌}
use mathlib.Core.List.{List}
use Prim.Native.Nat.{ℕ}
use borrow.Author.Tests.{eqb-true, eqb-false}
use lib.ListN.{length}
use Rattle.std.proofs.lemmas.Result.{err_from_is_err_and}
use Rattle.masks.specs.declared.flavor.Flavor.TheVariants.{Cl}
use Rattle.masks.specs.declared.outcome.Refusal.TheVariants.{NoSpec}
use Rattle.masks.specs.Text.{octet, or_zero, part, after_part, read_as}
use Rattle.masks.specs.inner.Text.{spec_of}
use Rattle.masks.proofs.ListLaws.{missing_err}
use Rattle.masks.proofs.TextLaws.{spec_missing, spec_four, spec_read, read_done, read_refused}
use Rattle.masks.proofs.text.read_spec.Goals.{After-octet_in}
use Rattle.masks.proofs.text.read_spec.Goals as goal

-- the parts
module _ (c : After-octet_in) where
  text : List ℕ
  text = c.args.t.now

  first_is : c.octet_in.result ≡ octet (part c.args.t.now)
  first_is = c.octet_in.ensures ∙ ap octet c.split_part.ensures.part

  second_is : c.split_part-2.result.0.now ≡ part (after_part c.args.t.now)
  second_is = c.split_part-2.ensures.part ∙ ap part c.split_part.ensures.after

  after_second : c.split_part-2.result.1.now ≡ after_part (after_part c.args.t.now)
  after_second = c.split_part-2.ensures.after ∙ ap after_part c.split_part.ensures.after

  third_is : c.split_part-3.result.0.now ≡ part (after_part (after_part c.args.t.now))
  third_is = c.split_part-3.ensures.part ∙ ap part after_second

  fourth_is : c.split_part-4.result.0.now ≡ part (after_part (after_part (after_part c.args.t.now)))
  fourth_is = c.split_part-4.ensures.part ∙ ap part (c.split_part-3.ensures.after ∙ ap after_part after_second)

pub returns-in_err-p : goal.returns-in_err-p
returns-in_err-p c =
    let p = err_from_is_err_and c.from_residual.result c.from_residual.ensures.1 in
    let f = c.in_err-p in
    let a = (goal.at.returns-in_err-p c).After-octet_in in
    rw (p.1, p.2, missing_err _ _ _ f.ensures.value)
    (read_refused (spec_of c.args.t.now) NoSpec (spec_missing c.args.t.now (sym (first_is a) ∙ f.ensures.ok_part)))

pub returns-then-not-is_empty : goal.returns-then-not-is_empty
returns-then-not-is_empty c =
    let a = (goal.at.returns-then-not-is_empty c).After-octet_in in
    let h : length c.split_part-4.result.0.now ≡ 0 → ⊥ = eqb-false _ _ (sym c.is_empty.ensures ∙ c.if-not-is_empty.true) in
    read_refused (spec_of c.args.t.now) NoSpec
    (spec_four c.args.t.now c.in_ok-p.p (sym (first_is a) ∙ c.in_ok-p.ensures.ok_part) (λ q. h (ap length (fourth_is a) ∙ q)))

pub returns : goal.returns
returns c =
    let a = (goal.at.returns c).After-octet_in in
    let h : length c.split_part-4.result.0.now ≡ 0 = eqb-true _ _ (sym c.is_empty.ensures ∙ c.if-not-is_empty.false) in
    let s = c.octet_or_zero.ensures ∙ ap (λ x. or_zero (octet x)) (second_is a) in
    let t = c.octet_or_zero-2.ensures ∙ ap (λ x. or_zero (octet x)) (third_is a) in
    read_done (spec_of c.args.t.now) (Cl c.in_ok-p.p c.octet_or_zero.result c.octet_or_zero-2.result)
    (spec_read c.args.t.now c.in_ok-p.p (sym (first_is a) ∙ c.in_ok-p.ensures.ok_part) (sym (ap length (fourth_is a)) ∙ h)
    ∙ sym (ap₂ (λ n z. read_as (Cl c.in_ok-p.p n z)) s t))
