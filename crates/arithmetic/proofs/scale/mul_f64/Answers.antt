use mathlib.Core.Path.{sym}
use Prim.Native.Nat.{◌≤◌}
use lib.ListN.{length}
use lib.Seq.{length-take-le}
use Rattle.std.proofs.lemmas.Result.{err_from_is_err_and}
use Rattle.arithmetic.specs.Scale.{scaled}
use Rattle.arithmetic.proofs.KeptLaws.{copy_refused, copy_room, copy_changed, changed_front, scaled_length}
use Rattle.arithmetic.proofs.scale.mul_f64.Goals.{In_ok-kept}
use Rattle.arithmetic.proofs.scale.mul_f64.Goals as goal

room : (c : In_ok-kept) → length c.args.a.now ≤ length c.set_dims.new.out
room c = copy_room c.args.shape c.args.a.now c.in_ok-kept.kept c.args.out.now _ c.in_ok-kept.ensures

pub returns-in_err-kept : goal.returns-in_err-kept
returns-in_err-kept c =
    let s = c.args in
    let p = err_from_is_err_and c.from_residual.result c.from_residual.ensures.1 in
    let f = c.in_err-kept in
    rw (p.1, p.2) (copy_refused s.shape s.a.now f.field-0.0 s.out.now _ f.ensures (scaled s.f))

pub slice_bounds-scale-end : goal.slice_bounds-scale-end
slice_bounds-scale-end c = room c

pub slice_bounds-scale-end-2 : goal.slice_bounds-scale-end-2
slice_bounds-scale-end-2 c = sym (length-take-le _ _ (room (goal.at.slice_bounds-scale-end-2 c).In_ok-kept))

pub returns : goal.returns
returns c =
    let s = c.args in
    copy_changed s.shape s.a.now c.in_ok-kept.kept s.out.now _ c.in_ok-kept.ensures (scaled s.f) _ (scaled_length s.f s.a.now)
    (changed_front (scaled s.f) (length s.a.now) _ _ (room (goal.at.returns c).In_ok-kept) (scaled_length s.f) c.scale.ensures)
