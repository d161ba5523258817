-- The rig sheet: what it holds, and its bytes. Assumes nothing.
use Rattle.std.specs.Prelude.{Bool, false, not, ◌||◌, List, [], ◌∷◌, ◌++◌, ℕ, ◌+◌, ◌^◌, eqb, ltb, take}
use Rattle.masks.specs.declared.shape.Shape.{Shape}
use Rattle.masks.specs.Outcome.{Test}
use Rattle.masks.specs.ShapeBytes.{shape_bytes}
use Rattle.sheets.specs.Bytes.{little_endian, section}

-- A sheet has shapes, and their coefficients in shape order, each as its bit pattern.
pub record Sheet : Type 0 where
  pub shapes : List Shape
  pub patterns : List ℕ

-- ---- its bytes

-- `shape_in w` has the first w of a shape's six bytes.
abbrev pub shape_in : ℕ → Shape → List ℕ
shape_in w s = take w (shape_bytes s)

-- Each coefficient has eight bytes.
abbrev pub pattern_bytes : ℕ → List ℕ
pattern_bytes x = little_endian 8 x

-- Sections in order, each after its count: u16 shapes, each five bytes, dims, kind, p, n, z; u32 coefficients. Nothing follows.
unfoldable pub sheet_bytes : Sheet → List ℕ
sheet_bytes s = section 2 (shape_in 5) s.shapes ++ section 4 pattern_bytes s.patterns

-- ---- its limits

unfoldable pub any_above_nine : List Shape → Bool
any_above_nine [] = false
any_above_nine (s ∷ ss) = ltb 9 s.dims || any_above_nine ss

-- The sum of the 2^d.
unfoldable pub blade_total : List Shape → ℕ
blade_total [] = 0
blade_total (s ∷ ss) = 2 ^ s.dims + blade_total ss

-- 1: A dimension is above 9.
abbrev pub above_nine : List Shape → Test
above_nine ss = record { fails = any_above_nine ss; number = 1 }

-- The tests of a sheet of n shapes and m coefficients. 1: A dimension is above 9. 2: There are more than 64 shapes or 4,096 coefficients, or there are not as many coefficients as the sum of the 2^d.
abbrev pub limits : ℕ → List Shape → ℕ → List Test
limits n ss m =
    above_nine ss ∷
    record { fails = ltb 64 n; number = 2 } ∷
    record { fails = ltb 4096 m; number = 2 } ∷
    record { fails = not (eqb m (blade_total ss)); number = 2 } ∷
    []
