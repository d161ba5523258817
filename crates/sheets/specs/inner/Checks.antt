-- What is checked of a sheet's shapes. For the contracts of private functions: no public contract rests on it. Assumes nothing.
use Rattle.std.specs.Prelude.{Bool, true, not, ◌&&◌, List, [], ◌∷◌, ℕ, ltb, get_or}
use Rattle.masks.specs.ShapeBytes.{shape_from}
use Rattle.masks.specs.Text.{same}
use Rattle.sheets.specs.Format.{shape_in}

-- Bytes are those of a shape of at most nine dimensions.
unfoldable pub is_shape : List ℕ → Bool
is_shape c = not (ltb 9 (get_or c 0 0)) && same c (shape_in 5 (shape_from c))

unfoldable pub are_shapes : List (List ℕ) → Bool
are_shapes [] = true
are_shapes (c ∷ cs) = is_shape c && are_shapes cs
