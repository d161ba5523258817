use mathlib.Core.Path.{refl, sym, ◌∙◌}
use native.Mathlib.Omega.{arith}
use lib.ListN.{length, take, drop}
use Rattle.std.proofs.lemmas.Result.{err_from_is_err_and}
use Rattle.masks.specs.Order.{order}
use Rattle.masks.specs.Shape.{coef}
use Rattle.masks.specs.Unpack.{unpack_vector}
use Rattle.masks.proofs.OutcomeLaws.{Taken, taken, writes_refused, writes_done}
use Rattle.masks.proofs.BuildLaws.{lt_blades}
use Rattle.masks.proofs.UnpackLaws.{vector_length, vector_read, counts}
use Rattle.masks.proofs.shape.Shape.unpack_vector.Goals.{In_ok-refusal_of}
use Rattle.masks.proofs.shape.Shape.unpack_vector.Goals as goal

-- the call is not refused
ok : (c : In_ok-refusal_of) → let a = c.args in Taken a.self.dims a.self.dims (length a.a.now) (length a.out.now) a.self.dims
ok c = taken _ _ _ _ _ c.in_ok-refusal_of.ensures.0

pub returns-in_err-refusal_of : goal.returns-in_err-refusal_of
unfolding unpack_vector
returns-in_err-refusal_of c =
    let p = err_from_is_err_and c.from_residual.result c.from_residual.ensures.1 in
    let f = c.in_err-refusal_of in
    rw (p.1, p.2) (writes_refused _ f.field-0.0 _ _ f.ensures)

pub copy_part-requires : goal.copy_part-requires
copy_part-requires c =
    let d = c.args.self.dims in
    let t = ok (goal.at.copy_part-requires c).In_ok-refusal_of in
    (omega (arith, t.counted, lt_blades d), omega (arith, t.roomy))

pub returns : goal.returns
unfolding unpack_vector
returns c =
    let a = c.args in
    let d = a.self.dims in
    let t = ok (goal.at.returns c).In_ok-refusal_of in
    writes_done _ _ _ _ _ c.in_ok-refusal_of.ensures.0 refl (counts d (coef d a.a.now) (take d (drop 1 (order d))) (sym (vector_length d)))
    (c.copy_part.ensures ∙ vector_read d a.a.now a.out.now t.counted t.roomy)
