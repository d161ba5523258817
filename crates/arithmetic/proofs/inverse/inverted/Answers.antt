use mathlib.Core.Path.{◌≡◌, sym, ap, ◌∙◌}
use lib.ListN.{length}
use Rattle.std.proofs.lemmas.Result.{err_from_is_err_and}
use Rattle.arithmetic.specs.Scalar.{test_of, was_planar}
use Rattle.arithmetic.proofs.KeptLaws.{kept_accepted}
use Rattle.arithmetic.proofs.InverseLaws.{gives_not_kept, gives_no_inverse, gives_inverse}
use Rattle.arithmetic.proofs.OrderPassed.{passed_none}
use Rattle.arithmetic.proofs.inverse.inverted.Goals.{After-was_planar}
use Rattle.arithmetic.proofs.inverse.inverted.Goals as goal

-- What was asked is whether the value is planar.
asked : (c : After-was_planar) → c.was_planar.result ≡ was_planar (test_of c.args.shape c.args.a.now)
asked c = c.was_planar.ensures ∙ ap was_planar c.test_of.ensures

pub returns-in_err-kept_refusal : goal.returns-in_err-kept_refusal
returns-in_err-kept_refusal c =
    let a = c.args in
    let p = err_from_is_err_and c.from_residual.result c.from_residual.ensures.1 in
    rw (p.1, p.2) (gives_not_kept a.shape a.a.now a.out.now c.in_err-kept_refusal.field-0.0 c.in_err-kept_refusal.ensures)

pub invariant_of-value : goal.invariant_of-value
invariant_of-value c =
    let a = c.args in
    let f = kept_accepted a.shape a.a.now (length a.out.now) c.in_ok-kept_refusal.ensures.0 in
    record { small = f.small; counted = f.counted }

pub returns-then-was_planar : goal.returns-then-was_planar
returns-then-was_planar c =
    let a = c.args in
    gives_no_inverse a.shape a.a.now a.out.now c.in_ok-kept_refusal.ensures.0 (sym (asked (goal.at.returns-then-was_planar c).After-was_planar) ∙ c.if-was_planar.true)

pub put_inverse-requires : goal.put_inverse-requires
put_inverse-requires c =
    let a = c.args in
    record { in_order = passed_none _; room = (kept_accepted a.shape a.a.now (length a.out.now) c.in_ok-kept_refusal.ensures.0).roomy }

pub returns : goal.returns
returns c =
    let a = c.args in
    gives_inverse a.shape a.a.now a.out.now _ c.in_ok-kept_refusal.ensures.0 (sym (asked (goal.at.returns c).After-was_planar) ∙ c.if-was_planar.false) c.put_inverse.ensures
