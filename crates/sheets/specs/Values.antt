-- The value at an index of a sheet. Assumes nothing.
use Rattle.std.specs.Prelude.{List, [], ◌∷◌, ℕ, leb, length, take, get_or}
use Rattle.masks.specs.declared.flavor.Flavor.TheVariants.{Vanilla}
use Rattle.masks.specs.declared.shape.Shape.{Shape}
use Rattle.masks.specs.Outcome.{Test, refusal, unless, shape_of}
use Rattle.sheets.specs.declared.shapes.Shapes.{Shapes}
use Rattle.sheets.specs.declared.values.Placed.{Placed}
use Rattle.sheets.specs.Format.{above_nine, blade_total}
use Rattle.sheets.specs.Shapes.{listed_shapes}

-- Its patterns start after those of the shapes before it.
abbrev pub start_of : List Shape → ℕ → ℕ
start_of ss i = blade_total (take i ss)

-- 1: A dimension is above 9. 2: So many shapes are not listed.
abbrev pub value_at_tests : List Shape → ℕ → List Test
value_at_tests ss i = above_nine ss ∷ record { fails = leb (length ss) i; number = 2 } ∷ []

pub record PlaceOutcome : Type 0 where
  pub number : ℕ
  pub place : Placed

-- A refusal has its number, shape 0 Vanilla and 0.
abbrev pub refused_place : ℕ → PlaceOutcome
refused_place k = record { number = k; place = record { shape = shape_of 0 Vanilla; start = 0 } }

-- The shape at an index, and where its patterns start.
abbrev pub placed_at : List Shape → ℕ → Placed
placed_at ss i = record { shape = get_or ss i (shape_of 0 Vanilla); start = start_of ss i }

unfoldable pub value_at : Shapes → ℕ → PlaceOutcome
value_at s i =
    unless refused_place (refusal (value_at_tests (listed_shapes s) i)) (record { number = 0; place = placed_at (listed_shapes s) i })
