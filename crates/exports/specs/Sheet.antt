-- A sheet whose shapes are bytes, six to a shape. Assumes nothing.
use Rattle.std.specs.Prelude.{◌≡◌, not, List, [], ◌∷◌, ◌++◌, ℕ, ◌*◌, ◌%◌, eqb, length, take}
use Rattle.masks.specs.declared.shape.Shape.{Shape}
use Rattle.masks.specs.Outcome.{Test, Written, refusal, no_room, unless, refused_list, listed, laid}
use Rattle.masks.specs.ShapeBytes.{shape_bytes}
use Rattle.sheets.specs.Bytes.{all_bytes}
use Rattle.sheets.specs.Format.{Sheet, sheet_bytes, above_nine, limits}
use Rattle.sheets.specs.Read.{said, malformed, ReadOutcome, refused_sheet, a_sheet}
use Rattle.sheets.specs.Shapes.{said_shapes}
use Rattle.sheets.specs.Values.{value_at_tests, PlaceOutcome, placed_at, refused_place}
use Rattle.exports.specs.Reports.{Reports}

-- 2: The length is not a multiple of six.
abbrev pub not_sixes : List ℕ → Test
not_sixes b = record { fails = not (eqb (length b % 6) 0); number = 2 }

-- ---- a sheet that is written

-- The sheet of the shapes that bytes say.
abbrev pub sheet_from : List ℕ → List ℕ → Sheet
sheet_from b xs = record { shapes = said_shapes 6 b; patterns = xs }

-- 1 and 2 by the limits, 2 by the length, then 3.
abbrev pub write_from_tests : List ℕ → List ℕ → ℕ → List Test
write_from_tests b xs room = limits (length (said_shapes 6 b)) (said_shapes 6 b) (length xs) ++ (not_sixes b ∷ no_room room (length (sheet_bytes (sheet_from b xs))) ∷ [])

unfoldable pub write_from : List ℕ → List ℕ → ℕ → Written ℕ
write_from b xs room = unless refused_list (refusal (write_from_tests b xs room)) (listed (sheet_bytes (sheet_from b xs)))

-- ---- the value at an index

-- A sheet has at most 64 shapes: those past them are no value's.
abbrev pub first_shapes : List ℕ → List Shape
first_shapes b = take 64 (said_shapes 6 b)

-- 1: A dimension is above 9, past the 64th shape too. 2: So many shapes are not listed, or the length is not a multiple of six.
abbrev pub value_from_tests : List ℕ → ℕ → List Test
value_from_tests b i = above_nine (said_shapes 6 b) ∷ value_at_tests (first_shapes b) i ++ (not_sixes b ∷ [])

unfoldable pub value_from : List ℕ → ℕ → PlaceOutcome
value_from b i = unless refused_place (refusal (value_from_tests b i)) (record { number = 0; place = placed_at (first_shapes b) i })

-- ---- a sheet that is read

-- 9: The bytes are no sheet's. 3: The output of the shapes is shorter than six bytes for each, or that of the patterns than their number.
abbrev pub read_from_tests : List ℕ → ℕ → ℕ → List Test
read_from_tests b roomShapes room = malformed b ∷ no_room roomShapes (6 * length (said b).shapes) ∷ no_room room (length (said b).patterns) ∷ []

unfoldable pub read_from : List ℕ → ℕ → ℕ → ReadOutcome
read_from b roomShapes room = unless refused_sheet (refusal (read_from_tests b roomShapes room)) (a_sheet (said b))

-- How many shapes and how many patterns there are is reported; the shapes are in one output, six bytes each, and the patterns in the other.
pub record ReportsSheet (o : ReadOutcome) (r : ℕ) (beforeShapes afterShapes before after held holds : List ℕ) : Type 0 where
  pub reports : Reports o.number (length o.sheet.shapes ∷ length o.sheet.patterns ∷ []) r held holds
  pub shapes : afterShapes ≡ laid (all_bytes shape_bytes o.sheet.shapes) beforeShapes
  pub left : after ≡ laid o.sheet.patterns before
