-- Bytes to shape and shape to bytes are inverse to each other on shapes; the mark is not looked at. Assumes nothing.
use mathlib.Core.Path.{◌≡◌, refl, sym, ap, ◌∙◌}
use mathlib.Core.List.{List, [], ◌∷◌, ◌++◌}
use Prim.Native.Nat.{ℕ, ◌≤◌}
use native.Mathlib.Omega.{arith}
use lib.ListN.{length, get_or, take}
use lib.Seq.{get_or-take}
use Rattle.masks.specs.declared.flavor.Flavor.{Flavor}
use Rattle.masks.specs.declared.flavor.Flavor.TheVariants.{Vanilla, Projective, Cl}
use Rattle.masks.specs.declared.shape.Shape.{Shape}
use Rattle.masks.specs.Outcome.{shape_of}
use Rattle.masks.specs.ShapeBytes.{flavor_bytes, shape_bytes, flavor_from, shape_from}

pub flavor_bytes-length : (f : Flavor) → length (flavor_bytes f) ≡ 4
flavor_bytes-length Vanilla = refl
flavor_bytes-length Projective = refl
flavor_bytes-length (Cl p n z) = refl

-- A shape has six bytes.
pub shape_bytes-length : (s : Shape) → length (shape_bytes s) ≡ 6
shape_bytes-length s = go s.flavor
  where
    go : (f : Flavor) → length (s.dims ∷ flavor_bytes f ++ (0 ∷ [])) ≡ 6
    go Vanilla = refl
    go Projective = refl
    go (Cl p n z) = refl

-- A shape comes back from its bytes.
pub shape_back : (s : Shape) → shape_from (shape_bytes s) ≡ s
unfolding shape_from
shape_back s = ap (shape_of s.dims) (go s.flavor)
  where
    go : (f : Flavor) → flavor_from (get_or (flavor_bytes f ++ (0 ∷ [])) 0 0) (get_or (flavor_bytes f ++ (0 ∷ [])) 1 0) (get_or (flavor_bytes f ++ (0 ∷ [])) 2 0) (get_or (flavor_bytes f ++ (0 ∷ [])) 3 0) ≡ f
    go Vanilla = refl
    go Projective = refl
    go (Cl p n z) = refl

-- The bytes of a shape come back from the shape that they say.
pub bytes_back : (s : Shape) (b : List ℕ) → b ≡ shape_bytes s → shape_bytes (shape_from b) ≡ b
bytes_back s b e = ap shape_bytes (ap shape_from e ∙ shape_back s) ∙ sym e

-- No byte past the fifth is looked at.
pub first_five : (k : ℕ) (b : List ℕ) → 5 ≤ k → shape_from (take k b) ≡ shape_from b
unfolding shape_from
first_five k b h =
    rw (get_or-take k b 0 0 (omega arith), get_or-take k b 1 0 (omega arith), get_or-take k b 2 0 (omega arith), get_or-take k b 3 0 (omega arith), get_or-take k b 4 0 (omega arith))
