-- A place stands for a word of basis vectors, by its mask.
use Rattle.std.specs.Prelude.{◌&&◌, cond, List, [], ◌∷◌, ℕ, eqb}
use Rattle.clifford.specs.Blade.{has}
use Rattle.clifford.specs.Relations.{word}

-- A place stands for its vectors multiplied in rising order, but at d = 3 the mask 101 stands for e3 e1.
unfoldable pub stands : ℕ → ℕ → List ℕ
stands d m = cond (eqb d 3 && eqb m 5) (2 ∷ 0 ∷ []) (word d (has m))
