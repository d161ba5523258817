use mathlib.Core.Path.{◌≡◌, refl, sym, ap, ◌∙◌}
use Prim.Native.Nat.{◌^◌}
use native.Mathlib.Omega.{arith}
use lib.ListN.{length}
use Rattle.std.proofs.lemmas.Result.{err_from_is_err_and}
use Rattle.masks.specs.Outcome.{refusal, laid, result_tests}
use Rattle.masks.specs.Shape.{set_dims}
use Rattle.masks.proofs.ShapeLaws.{conformed_none}
use Rattle.masks.proofs.OrderLaws.{none_counted}
use Rattle.masks.proofs.OutcomeLaws.{Taken, taken, needed_same, gives_refused, gives_ok}
use Rattle.masks.proofs.shape.Shape.set_dims.Goals.{After-refusal_of}
use Rattle.masks.proofs.shape.Shape.set_dims.Goals as goal

-- the definition's number is the code's
module _ (c : After-refusal_of) where
  number : let a = c.args in refusal (result_tests a.self.dims a.new_dims (length a.a.now) (length a.out.now) (2 ^ a.new_dims)) ≡ refusal (result_tests a.self.dims a.new_dims (length a.a.now) (length a.out.now) c.blades_or_none.result)
  number = let a = c.args in sym (needed_same a.self.dims a.new_dims (length a.a.now) (length a.out.now) _ _ (none_counted c.blades_or_none.ensures))

  -- The call is not refused.
  ok : let a = c.args in refusal (result_tests a.self.dims a.new_dims (length a.a.now) (length a.out.now) c.blades_or_none.result) ≡ 0 → Taken a.self.dims a.new_dims (length a.a.now) (length a.out.now) (2 ^ a.new_dims)
  ok z = let a = c.args in taken a.self.dims a.new_dims (length a.a.now) (length a.out.now) _ (number ∙ z)

pub returns-in_err-refusal_of : goal.returns-in_err-refusal_of
unfolding set_dims
returns-in_err-refusal_of c =
    let p = err_from_is_err_and c.from_residual.result c.from_residual.ensures.1 in
    let f = c.in_err-refusal_of in
    rw (p.1, p.2) (gives_refused _ f.field-0.0 _ _ (number (goal.at.returns-in_err-refusal_of c).After-refusal_of ∙ f.ensures))

pub invariant_of-conform_one : goal.invariant_of-conform_one
invariant_of-conform_one c =
    let t = ok (goal.at.invariant_of-conform_one c).After-refusal_of c.in_ok-refusal_of.ensures.0 in
    record { small = t.small; counted = t.counted }

pub conform_one-requires : goal.conform_one-requires
conform_one-requires c =
    let t = ok (goal.at.conform_one-requires c).After-refusal_of c.in_ok-refusal_of.ensures.0 in
    (omega arith, omega (arith, t.small), t.result, t.roomy)

pub returns : goal.returns
unfolding set_dims
returns c =
    let a = c.args in
    gives_ok _ _ _ _ _ (number (goal.at.returns c).After-refusal_of ∙ c.in_ok-refusal_of.ensures.0) refl c.with_dims.ensures (c.conform_one.ensures
    ∙ ap (λ xs. laid xs a.out.now) (sym (conformed_none 0 a.self.dims a.new_dims a.a.now refl)))
