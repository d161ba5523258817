-- In the list of tests of each call on sheets the numbers rise, so that the lowest that applies is given (`refused_lowest` of masks); the reader gives 9 before 3. Assumes nothing.
use mathlib.Core.Path.{◌≡◌}
use mathlib.Core.Bool.{false}
use mathlib.Core.List.{List}
use Prim.Native.Nat.{ℕ}
use lib.Dec.{T}
use Rattle.masks.specs.declared.shape.Shape.{Shape}
use Rattle.masks.specs.Outcome.{refusal}
use Rattle.masks.proofs.Lowest.{rises}
use Rattle.sheets.specs.declared.shapes.Shapes.{Shapes}
use Rattle.sheets.specs.Read.{is_sheet_bytes, read_sheet_tests}
use Rattle.sheets.specs.Write.{write_sheet_tests}
use Rattle.sheets.specs.Values.{value_at_tests}
use Rattle.sheets.specs.Patterns.{converted_tests}
use Rattle.sheets.specs.Shapes.{shape_list_tests}

pub write_sheet_rises : (s : Shapes) (xs : List ℕ) (room : ℕ) → T (rises 1 (write_sheet_tests s xs room))
write_sheet_rises s xs room = tt

pub value_at_rises : (ss : List Shape) (i : ℕ) → T (rises 1 (value_at_tests ss i))
value_at_rises ss i = tt

pub shape_list_rises : (s : Shapes) (room : ℕ) → T (rises 1 (shape_list_tests s room))
shape_list_rises s room = tt

pub converted_rises : {A : Type 0} (xs : List A) (room : ℕ) → T (rises 1 (converted_tests xs room))
converted_rises xs room = tt

-- Bytes that are no sheet's are refused with 9, whatever the room.
pub read_nine_first : (b : List ℕ) (room : ℕ) → is_sheet_bytes b ≡ false → refusal (read_sheet_tests b room) ≡ 9
unfolding refusal
read_nine_first b room e = rw e
