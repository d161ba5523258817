use mathlib.Core.Path.{sym}
use Prim.Native.Nat.{◌≤◌}
use mathlib.Core.List.{map}
use lib.Ieee.{neg}
use lib.ListN.{length, length-map}
use lib.Seq.{length-take-le}
use Rattle.std.proofs.lemmas.Result.{err_from_is_err_and}
use Rattle.arithmetic.proofs.KeptLaws.{copy_refused, copy_room, copy_changed, changed_front}
use Rattle.arithmetic.proofs.scale.neg.Goals.{In_ok-kept}
use Rattle.arithmetic.proofs.scale.neg.Goals as goal

room : (c : In_ok-kept) → length c.args.a.now ≤ length c.set_dims.new.out
room c = copy_room c.args.shape c.args.a.now c.in_ok-kept.kept c.args.out.now _ c.in_ok-kept.ensures

pub returns-in_err-kept : goal.returns-in_err-kept
returns-in_err-kept c =
    let s = c.args in
    let p = err_from_is_err_and c.from_residual.result c.from_residual.ensures.1 in
    let f = c.in_err-kept in
    rw (p.1, p.2) (copy_refused s.shape s.a.now f.field-0.0 s.out.now _ f.ensures (map neg))

pub slice_bounds-negate-end : goal.slice_bounds-negate-end
slice_bounds-negate-end c = room c

pub slice_bounds-negate-end-2 : goal.slice_bounds-negate-end-2
slice_bounds-negate-end-2 c = sym (length-take-le _ _ (room (goal.at.slice_bounds-negate-end-2 c).In_ok-kept))

pub returns : goal.returns
returns c =
    let s = c.args in
    copy_changed s.shape s.a.now c.in_ok-kept.kept s.out.now _ c.in_ok-kept.ensures (map neg) _ (length-map s.a.now neg)
    (changed_front (map neg) (length s.a.now) _ _ (room (goal.at.returns c).In_ok-kept) (λ xs. length-map xs neg) c.negate.ensures)
