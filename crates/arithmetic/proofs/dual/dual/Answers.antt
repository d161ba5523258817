use lib.ListN.{length}
use Rattle.std.proofs.lemmas.Result.{err_from_is_err_and}
use Rattle.arithmetic.specs.Dual.{dual_of}
use Rattle.arithmetic.proofs.KeptLaws.{kept_accepted, kept_refused, kept_done}
use Rattle.arithmetic.proofs.OrderPassed.{passed_none}
use Rattle.arithmetic.proofs.dual.dual.Goals as goal

pub returns-in_err-kept_refusal : goal.returns-in_err-kept_refusal
returns-in_err-kept_refusal c =
    let a = c.args in
    let p = err_from_is_err_and c.from_residual.result c.from_residual.ensures.1 in
    rw (p.1, p.2) (kept_refused (dual_of a.shape.dims) a.shape a.a.now a.out.now c.in_err-kept_refusal.field-0.0 c.in_err-kept_refusal.ensures)

pub put_dual-requires-clause-in_order : goal.put_dual-requires-clause-in_order
put_dual-requires-clause-in_order c = passed_none _

pub put_dual-requires-clause-room : goal.put_dual-requires-clause-room
put_dual-requires-clause-room c = let a = c.args in (kept_accepted a.shape a.a.now (length a.out.now) c.in_ok-kept_refusal.ensures.0).roomy

pub invariant_of-put_dual : goal.invariant_of-put_dual
invariant_of-put_dual c =
    let a = c.args in
    let f = kept_accepted a.shape a.a.now (length a.out.now) c.in_ok-kept_refusal.ensures.0 in
    record { small = f.small; counted = f.counted }

pub returns : goal.returns
returns c =
    let a = c.args in
    kept_done (dual_of a.shape.dims) a.shape a.a.now a.out.now _ c.in_ok-kept_refusal.ensures.0 c.put_dual.ensures
