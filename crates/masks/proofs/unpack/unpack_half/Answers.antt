use mathlib.Core.Path.{◌≡◌, refl, sym, ◌∙◌}
use Prim.Native.Nat.{◌-◌, ◌^◌, ◌≤◌}
use borrow.Author.Tests.{le-ltb}
use lib.ListN.{length}
use Rattle.std.proofs.lemmas.Result.{err_from_is_err_and}
use Rattle.masks.specs.Outcome.{refusal, result_tests}
use Rattle.masks.specs.Shape.{coef}
use Rattle.masks.specs.Build.{odd_of}
use Rattle.masks.specs.Unpack.{half_of, half_masks}
use Rattle.masks.proofs.OutcomeLaws.{Taken, taken, needed_same, writes_refused, writes_done}
use Rattle.masks.proofs.BuildLaws.{odd-le}
use Rattle.masks.proofs.UnpackLaws.{length_half, counts}
use Rattle.masks.proofs.unpack.unpack_half.Goals.{After-refusal_of}
use Rattle.masks.proofs.unpack.unpack_half.Goals as goal

-- the definition's number is the one that is worked out
module _ (c : After-refusal_of) where
  needed : c.args.d ≤ 9 → c.half_count-needed.result ≡ 2 ^ (c.args.d - 1)
  needed h = rw (le-ltb 9 c.args.d h) at c.half_count-needed.ensures

  number : let a = c.args in refusal (result_tests a.dims a.d (length a.a.now) (length a.out.now) (2 ^ (a.d - 1))) ≡ refusal (result_tests a.dims a.d (length a.a.now) (length a.out.now) c.half_count-needed.result)
  number = let a = c.args in sym (needed_same a.dims a.d (length a.a.now) (length a.out.now) _ _ needed)

  -- The call is not refused.
  ok : let a = c.args in refusal (result_tests a.dims a.d (length a.a.now) (length a.out.now) c.half_count-needed.result) ≡ 0 → Taken a.dims a.d (length a.a.now) (length a.out.now) (2 ^ (a.d - 1))
  ok z = let a = c.args in taken a.dims a.d (length a.a.now) (length a.out.now) (2 ^ (a.d - 1)) (number ∙ z)

pub returns-in_err-refusal_of : goal.returns-in_err-refusal_of
unfolding half_of
returns-in_err-refusal_of c =
    let p = err_from_is_err_and c.from_residual.result c.from_residual.ensures.1 in
    let f = c.in_err-refusal_of in
    rw (p.1, p.2) (writes_refused _ f.field-0.0 _ _ (number (goal.at.returns-in_err-refusal_of c).After-refusal_of ∙ f.ensures))

pub invariant_of-half : goal.invariant_of-half
invariant_of-half c =
    let t = ok (goal.at.invariant_of-half c).After-refusal_of c.in_ok-refusal_of.ensures.0 in
    record { small = t.small; counted = t.counted }

pub half-requires : goal.half-requires
half-requires c =
    let t = ok (goal.at.half-requires c).After-refusal_of c.in_ok-refusal_of.ensures.0 in
    (t.result, t.roomy)

pub returns : goal.returns
unfolding half_of
returns c =
    let r = (goal.at.returns c).After-refusal_of in
    let a = c.args in
    let k = number r ∙ c.in_ok-refusal_of.ensures.0 in
    let t = ok r c.in_ok-refusal_of.ensures.0 in
    let odd = odd_of a.parity in
    writes_done _ _ _ _ _ k refl
    (counts _ (coef a.dims a.a.now) (half_masks odd a.lone a.d) (needed r t.result ∙ sym (length_half odd a.lone a.d (odd-le a.parity)))) c.half.ensures
