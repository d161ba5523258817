-- Writing a sheet. Assumes nothing.
use Rattle.std.specs.Prelude.{List, [], ◌∷◌, ◌++◌, ℕ, length}
use Rattle.masks.specs.Outcome.{Test, Written, refusal, no_room, unless, refused_list, listed}
use Rattle.sheets.specs.declared.shapes.Shapes.{Shapes}
use Rattle.sheets.specs.Format.{Sheet, sheet_bytes, limits}
use Rattle.sheets.specs.Shapes.{listed_shapes}

-- The sheet of the shapes that a record lists.
abbrev pub sheet_of : Shapes → List ℕ → Sheet
sheet_of s xs = record { shapes = listed_shapes s; patterns = xs }

-- 1 and 2 by the limits, then 3.
abbrev pub write_sheet_tests : Shapes → List ℕ → ℕ → List Test
write_sheet_tests s xs room = limits s.count (listed_shapes s) (length xs) ++ (no_room room (length (sheet_bytes (sheet_of s xs))) ∷ [])

unfoldable pub write_sheet : Shapes → List ℕ → ℕ → Written ℕ
write_sheet s xs room = unless refused_list (refusal (write_sheet_tests s xs room)) (listed (sheet_bytes (sheet_of s xs)))
