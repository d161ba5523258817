use mathlib.Core.Path.{sym}
use Prim.Native.Nat.{◌≤◌}
use native.Mathlib.Omega.{arith}
use lib.ListN.{length}
use lib.Pow.{pow_pos}
use lib.Seq.{length-take-le}
use Rattle.std.proofs.lemmas.Result.{err_from_is_err_and}
use Rattle.arithmetic.specs.Kept.{scalar_only}
use Rattle.arithmetic.proofs.KeptLaws.{copy_refused, copy_accepted, copy_room, copy_changed, changed_front, scalar_only_length}
use Rattle.arithmetic.proofs.kept.make_scalar_only.Goals.{In_ok-kept}
use Rattle.arithmetic.proofs.kept.make_scalar_only.Goals as goal

room : (c : In_ok-kept) → length c.args.a.now ≤ length c.set_dims.new.out
room c = copy_room c.args.shape c.args.a.now c.in_ok-kept.kept c.args.out.now _ c.in_ok-kept.ensures

pub returns-in_err-kept : goal.returns-in_err-kept
returns-in_err-kept c =
    let s = c.args in
    let p = err_from_is_err_and c.from_residual.result c.from_residual.ensures.1 in
    let f = c.in_err-kept in
    rw (p.1, p.2) (copy_refused s.shape s.a.now f.field-0.0 s.out.now _ f.ensures scalar_only)

pub slice_bounds-clear_rest-end : goal.slice_bounds-clear_rest-end
slice_bounds-clear_rest-end c = room c

pub slice_bounds-clear_rest-end-2 : goal.slice_bounds-clear_rest-end-2
slice_bounds-clear_rest-end-2 c = sym (length-take-le _ _ (room (goal.at.slice_bounds-clear_rest-end-2 c).In_ok-kept))

pub clear_rest-requires : goal.clear_rest-requires
clear_rest-requires c =
    let s = c.args in
    let f = c.in_ok-kept in
    omega (
      arith,
      length-take-le _ _ (room (goal.at.clear_rest-requires c).In_ok-kept),
      (copy_accepted s.shape s.a.now f.kept s.out.now _ f.ensures).counted,
      pow_pos s.shape.dims,
    )

pub returns : goal.returns
returns c =
    let s = c.args in
    copy_changed s.shape s.a.now c.in_ok-kept.kept s.out.now _ c.in_ok-kept.ensures scalar_only _ (scalar_only_length s.a.now)
    (changed_front scalar_only (length s.a.now) _ _ (room (goal.at.returns c).In_ok-kept) scalar_only_length c.clear_rest.ensures)
