-- Unpacking a value by mask; no sign is adjusted. Assumes nothing.
use Rattle.std.specs.Prelude.{cond, List, [], ◌∷◌, map, ℕ, ◌-◌, ◌^◌, eqb, Float, length, take, drop}
use Rattle.masks.specs.declared.shape.Shape.{Shape}
use Rattle.masks.specs.Order.{order}
use Rattle.masks.specs.Outcome.{Written, refusal, result_tests, unless, refused_list, listed}
use Rattle.masks.specs.Shape.{coef}
use Rattle.masks.specs.Build.{of_parity}

-- `choose` keeps the masks of one parity, in order.
unfoldable pub choose : ℕ → List ℕ → List ℕ
choose odd [] = []
choose odd (m ∷ ms) = cond (of_parity odd m) (m ∷ choose odd ms) (choose odd ms)

-- `half_masks odd lone d` has the masks of the even (0) or odd (1) blades at d dimensions; where d is 0, the one mask `lone`.
unfoldable pub half_masks : ℕ → ℕ → ℕ → List ℕ
half_masks odd lone d = cond (eqb d 0) (lone ∷ []) (choose odd (order d))

-- `unpack_all` reads all blades at d.
unfoldable pub unpack_all : Shape → ℕ → List Float → ℕ → Written Float
unpack_all s d a room =
    unless refused_list (refusal (result_tests s.dims d (length a) room (2 ^ d))) (listed (map (coef s.dims a) (order d)))

-- `half_of` reads the even or odd blades at d of a value of `dims` dimensions: 2 ^ (d - 1) numbers, which is one where d is 0.
unfoldable pub half_of : ℕ → ℕ → ℕ → ℕ → List Float → ℕ → Written Float
half_of odd lone dims d a room =
    unless refused_list (refusal (result_tests dims d (length a) room (2 ^ (d - 1)))) (listed (map (coef dims a) (half_masks odd lone d)))

-- Stated d = 0 gives the scalar.
abbrev pub unpack_half : ℕ → Shape → ℕ → List Float → ℕ → Written Float
unpack_half odd s d a room = half_of odd 0 s.dims d a room

-- Own d = 0 gives one number, 0 for odd, since mask 1 is outside.
abbrev pub unpack_own_half : ℕ → Shape → List Float → ℕ → Written Float
unpack_own_half odd s a room = half_of odd odd s.dims s.dims a room

-- `unpack_vector` reads the masks of grade 1 at own dimensions.
unfoldable pub unpack_vector : Shape → List Float → ℕ → Written Float
unpack_vector s a room =
    unless refused_list (refusal (result_tests s.dims s.dims (length a) room s.dims))
    (listed (map (coef s.dims a) (take s.dims (drop 1 (order s.dims)))))
