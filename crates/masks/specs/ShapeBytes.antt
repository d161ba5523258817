-- A shape as six bytes: dims, kind, p, n, z, mark. Assumes nothing.
use Rattle.std.specs.Prelude.{List, [], ◌∷◌, ◌++◌, ℕ, zero, suc, get_or}
use Rattle.masks.specs.declared.flavor.Flavor.{Flavor}
use Rattle.masks.specs.declared.flavor.Flavor.TheVariants.{Vanilla, Projective, Cl}
use Rattle.masks.specs.declared.shape.Shape.{Shape}
use Rattle.masks.specs.Outcome.{shape_of}

-- Kind 0 Vanilla, 1 Projective or 2 Cl, then p, n, z, zero unless kind 2.
abbrev pub flavor_bytes : Flavor → List ℕ
flavor_bytes Vanilla = 0 ∷ 0 ∷ 0 ∷ 0 ∷ []
flavor_bytes Projective = 1 ∷ 0 ∷ 0 ∷ 0 ∷ []
flavor_bytes (Cl p n z) = 2 ∷ p ∷ n ∷ z ∷ []

-- `shape_bytes` has dims, then the flavor's bytes, then the mark, which is 0.
abbrev pub shape_bytes : Shape → List ℕ
shape_bytes s = s.dims ∷ flavor_bytes s.flavor ++ (0 ∷ [])

-- Kind 0 is Vanilla, 1 Projective, and any other is taken for Cl; p, n, z are not looked at outside Cl.
abbrev pub flavor_from : ℕ → ℕ → ℕ → ℕ → Flavor
flavor_from zero p n z = Vanilla
flavor_from (suc zero) p n z = Projective
flavor_from (suc (suc k)) p n z = Cl p n z

-- `shape_from` is the shape that bytes say. The mark is not looked at.
unfoldable pub shape_from : List ℕ → Shape
shape_from b = shape_of (get_or b 0 0) (flavor_from (get_or b 1 0) (get_or b 2 0) (get_or b 3 0) (get_or b 4 0))
