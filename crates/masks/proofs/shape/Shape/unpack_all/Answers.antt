use mathlib.Core.Path.{◌≡◌, refl, sym, ◌∙◌}
use Prim.Native.Nat.{◌^◌}
use lib.ListN.{length}
use Rattle.std.proofs.lemmas.Result.{err_from_is_err_and}
use Rattle.masks.specs.Order.{order}
use Rattle.masks.specs.Outcome.{refusal, result_tests}
use Rattle.masks.specs.Shape.{coef}
use Rattle.masks.specs.Unpack.{unpack_all}
use Rattle.masks.proofs.OrderLaws.{length_order, none_counted}
use Rattle.masks.proofs.OutcomeLaws.{Taken, taken, needed_same, writes_refused, writes_done}
use Rattle.masks.proofs.UnpackLaws.{counts}
use Rattle.masks.proofs.shape.Shape.unpack_all.Goals.{After-refusal_of}
use Rattle.masks.proofs.shape.Shape.unpack_all.Goals as goal

-- the definition's number is the one that is worked out
number : (c : After-refusal_of) → let a = c.args in refusal (result_tests a.self.dims a.d (length a.a.now) (length a.out.now) (2 ^ a.d)) ≡ refusal (result_tests a.self.dims a.d (length a.a.now) (length a.out.now) c.blades_or_none-needed.result)
number c = let a = c.args in sym (needed_same a.self.dims a.d (length a.a.now) (length a.out.now) _ _ (none_counted c.blades_or_none-needed.ensures))

pub returns-in_err-refusal_of : goal.returns-in_err-refusal_of
unfolding unpack_all
returns-in_err-refusal_of c =
    let p = err_from_is_err_and c.from_residual.result c.from_residual.ensures.1 in
    let f = c.in_err-refusal_of in
    rw (p.1, p.2) (writes_refused _ f.field-0.0 _ _ (number (goal.at.returns-in_err-refusal_of c).After-refusal_of ∙ f.ensures))

-- the call is not refused
ok : (c : After-refusal_of) → let a = c.args in refusal (result_tests a.self.dims a.d (length a.a.now) (length a.out.now) c.blades_or_none-needed.result) ≡ 0 → Taken a.self.dims a.d (length a.a.now) (length a.out.now) (2 ^ a.d)
ok c z = let a = c.args in taken a.self.dims a.d (length a.a.now) (length a.out.now) (2 ^ a.d) (number c ∙ z)

pub invariant_of-read_all : goal.invariant_of-read_all
invariant_of-read_all c =
    let t = ok (goal.at.invariant_of-read_all c).After-refusal_of c.in_ok-refusal_of.ensures.0 in
    record { small = t.small; counted = t.counted }

pub read_all-requires : goal.read_all-requires
read_all-requires c =
    let t = ok (goal.at.read_all-requires c).After-refusal_of c.in_ok-refusal_of.ensures.0 in
    (t.result, t.roomy)

pub returns : goal.returns
unfolding unpack_all
returns c =
    let a = c.args in
    let r = (goal.at.returns c).After-refusal_of in
    let k = number r ∙ c.in_ok-refusal_of.ensures.0 in
    let t = ok r c.in_ok-refusal_of.ensures.0 in
    let n = none_counted c.blades_or_none-needed.ensures t.result in
    writes_done _ _ _ _ _ k refl (counts _ (coef a.self.dims a.a.now) (order a.d) (n ∙ sym (length_order a.d))) c.read_all.ensures
