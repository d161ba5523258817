-- The record in which a sheet's shapes travel, and its list in bytes. Assumes nothing.
use Rattle.std.specs.Prelude.{List, [], ◌∷◌, map, ℕ, ◌/◌, length, take, replicate}
use Rattle.masks.specs.declared.flavor.Flavor.TheVariants.{Vanilla}
use Rattle.masks.specs.declared.shape.Shape.{Shape}
use Rattle.masks.specs.Outcome.{Test, Written, refusal, no_room, unless, refused_list, listed, shape_of, laid}
use Rattle.masks.specs.ShapeBytes.{shape_bytes, shape_from}
use Rattle.sheets.specs.Bytes.{all_bytes, parts}
use Rattle.sheets.specs.declared.shapes.Shapes.{Shapes}

-- The shapes that a record lists: the first of those that it holds.
abbrev pub listed_shapes : Shapes → List Shape
listed_shapes s = take s.count s.held

-- Shape 0 Vanilla in all of the 64 places.
unfoldable pub blank_shapes : List Shape
blank_shapes = replicate 64 (shape_of 0 Vanilla)

-- A record made of a list counts all of it and holds its first 64 shapes, shape 0 Vanilla past those.
abbrev pub shapes_of : List Shape → Shapes
shapes_of ss = record { count = length ss; held = laid (take 64 ss) blank_shapes }

-- ---- a list of shapes in bytes

-- The shapes that bytes say, w bytes each.
unfoldable pub said_shapes : ℕ → List ℕ → List Shape
said_shapes w b = map shape_from (parts w (length b / w) b)

-- The six bytes of each shape that a record lists, one shape after the other.
abbrev pub list_bytes : Shapes → List ℕ
list_bytes s = all_bytes shape_bytes (listed_shapes s)

-- 3: The output is shorter than the list.
abbrev pub shape_list_tests : Shapes → ℕ → List Test
shape_list_tests s room = no_room room (length (list_bytes s)) ∷ []

unfoldable pub shape_list : Shapes → ℕ → Written ℕ
shape_list s room = unless refused_list (refusal (shape_list_tests s room)) (listed (list_bytes s))
