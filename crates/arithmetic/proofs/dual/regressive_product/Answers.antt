use lib.ListN.{length}
use Rattle.std.proofs.lemmas.Result.{err_from_is_err_and}
use Rattle.masks.proofs.OutcomeLaws.{passed}
use Rattle.arithmetic.proofs.DualRegressive.{meeting_refused}
use Rattle.arithmetic.proofs.dual.regressive_product.Goals as goal

pub returns-in_err-joined_refusal : goal.returns-in_err-joined_refusal
returns-in_err-joined_refusal c =
    let a = c.args in
    let p = err_from_is_err_and c.from_residual.result c.from_residual.ensures.1 in
    rw (p.1, p.2) (meeting_refused a.left a.right a.a.now a.b.now (length a.out.now) c.in_err-joined_refusal.field-0.0 a.out.now c.in_err-joined_refusal.ensures)

pub put_regressive-requires : goal.put_regressive-requires
put_regressive-requires c = let p = passed _ _ _ _ _ _ c.in_ok-joined_refusal.ensures.0 in record { meeting = (p.result, p.roomy) }

pub invariant_of-value : goal.invariant_of-value
invariant_of-value c = let p = passed _ _ _ _ _ _ c.in_ok-joined_refusal.ensures.0 in record { small = p.small; counted = p.counted }

pub invariant_of-value_right : goal.invariant_of-value_right
invariant_of-value_right c = let p = passed _ _ _ _ _ _ c.in_ok-joined_refusal.ensures.0 in record { small = p.small_right; counted = p.counted_right }
