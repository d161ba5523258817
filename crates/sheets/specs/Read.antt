-- Reading a sheet. Assumes nothing.
use Rattle.std.specs.Prelude.{◌≡◌, Bool, not, ◌&&◌, List, [], ◌∷◌, map, ℕ, eqb, length, Result}
use Rattle.masks.specs.declared.outcome.Refusal.{Refusal}
use Rattle.masks.specs.Outcome.{Test, refusal, no_room, unless, laid, IsAnswer}
use Rattle.masks.specs.ShapeBytes.{shape_from}
use Rattle.masks.specs.Text.{same}
use Rattle.sheets.specs.declared.read.SheetRead.{SheetRead}
use Rattle.sheets.specs.Bytes.{from_little_endian, items_in, after_section}
use Rattle.sheets.specs.Format.{Sheet, sheet_bytes, limits}
use Rattle.sheets.specs.Shapes.{shapes_of}

-- ---- what bytes say

-- `said` is the sheet that bytes would be, by their counts.
unfoldable pub said : List ℕ → Sheet
said b = record { shapes = map shape_from (items_in 2 5 b); patterns = map from_little_endian (items_in 4 8 (after_section 2 5 b)) }

-- A sheet is within its limits.
abbrev pub is_sheet : Sheet → Bool
is_sheet s = eqb (refusal (limits (length s.shapes) s.shapes (length s.patterns))) 0

-- Bytes are a sheet's where they are those of the sheet that they say, and it is within its limits.
unfoldable pub is_sheet_bytes : List ℕ → Bool
is_sheet_bytes b = is_sheet (said b) && same b (sheet_bytes (said b))

-- 9: The bytes are no sheet's.
abbrev pub malformed : List ℕ → Test
malformed b = record { fails = not (is_sheet_bytes b); number = 9 }

-- ---- what the call gives

pub record ReadOutcome : Type 0 where
  pub number : ℕ
  pub sheet : Sheet

-- A refusal has its number and no shapes, and writes nothing.
abbrev pub refused_sheet : ℕ → ReadOutcome
refused_sheet k = record { number = k; sheet = record { shapes = []; patterns = [] } }

abbrev pub a_sheet : Sheet → ReadOutcome
a_sheet s = record { number = 0; sheet = s }

-- 9, then 3.
abbrev pub read_sheet_tests : List ℕ → ℕ → List Test
read_sheet_tests b room = malformed b ∷ no_room room (length (said b).patterns) ∷ []

unfoldable pub read_sheet : List ℕ → ℕ → ReadOutcome
read_sheet b room = unless refused_sheet (refusal (read_sheet_tests b room)) (a_sheet (said b))

-- Where no pattern is wanted, 9 alone: the shapes, and how many patterns there are.
unfoldable pub checked : List ℕ → ReadOutcome
checked b = unless refused_sheet (refusal (malformed b ∷ [])) (a_sheet (said b))

-- ---- as the answer

-- The answer has the shapes and the count of the patterns; the patterns are in the output.
abbrev pub read_of : Sheet → SheetRead
read_of s = record { shapes = shapes_of s.shapes; count = length s.patterns }

-- The answer r has the sheet's shapes and count or the refusal, and the output before and after is that of the outcome.
pub record Reads (o : ReadOutcome) (r : Result SheetRead Refusal) (before after : List ℕ) : Type 0 where
  pub answered : IsAnswer o.number (read_of o.sheet) r
  pub left : after ≡ laid o.sheet.patterns before
