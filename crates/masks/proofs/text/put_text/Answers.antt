use mathlib.Core.Path.{sym, ap}
use mathlib.Core.List.{◌++◌}
use Prim.Native.Nat.{◌≤◌}
use lib.ListN.{length, drop}
use lib.Seq.{length-take-le}
use Rattle.masks.specs.Text.{text_of}
use Rattle.masks.proofs.text.put_text.Goals.{In-Vanilla, In-Projective}
use Rattle.masks.proofs.text.put_text.Goals as goal

-- there is room for three bytes
room_vanilla : (c : In-Vanilla) → 3 ≤ length c.args.out.now
unfolding text_of
room_vanilla c = rw c.in-Vanilla.is at c.requires

room_projective : (c : In-Projective) → 3 ≤ length c.args.out.now
unfolding text_of
room_projective c = rw c.in-Projective.is at c.requires

pub slice_bounds-copy_from_slice-end : goal.slice_bounds-copy_from_slice-end
slice_bounds-copy_from_slice-end c = room_vanilla c

pub slice_bounds-copy_from_slice-end-in-Vanilla : goal.slice_bounds-copy_from_slice-end-in-Vanilla
slice_bounds-copy_from_slice-end-in-Vanilla c = sym (length-take-le 3 _ (room_vanilla (goal.at.slice_bounds-copy_from_slice-end-in-Vanilla c).In-Vanilla))

pub copy_from_slice-requires : goal.copy_from_slice-requires
copy_from_slice-requires c = length-take-le 3 _ (room_vanilla (goal.at.copy_from_slice-requires c).In-Vanilla)

pub slice_bounds-copy_from_slice-end-in-Projective : goal.slice_bounds-copy_from_slice-end-in-Projective
slice_bounds-copy_from_slice-end-in-Projective c = room_projective c

pub slice_bounds-copy_from_slice-end-in-Projective-2 : goal.slice_bounds-copy_from_slice-end-in-Projective-2
slice_bounds-copy_from_slice-end-in-Projective-2 c = sym (length-take-le 3 _ (room_projective (goal.at.slice_bounds-copy_from_slice-end-in-Projective-2 c).In-Projective))

pub copy_from_slice-requires-in-Projective : goal.copy_from_slice-requires-in-Projective
copy_from_slice-requires-in-Projective c = length-take-le 3 _ (room_projective (goal.at.copy_from_slice-requires-in-Projective c).In-Projective)

pub returns-in-Vanilla : goal.returns-in-Vanilla
unfolding text_of
returns-in-Vanilla c = rw c.in-Vanilla.is (ap (λ xs. xs ++ drop 3 c.args.out.now) c.copy_from_slice.ensures.after)

pub returns-in-Projective : goal.returns-in-Projective
unfolding text_of
returns-in-Projective c = rw c.in-Projective.is (ap (λ xs. xs ++ drop 3 c.args.out.now) c.copy_from_slice-in-Projective.ensures.after)
