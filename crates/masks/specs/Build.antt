-- Building values from few numbers. Assumes nothing.
use Rattle.std.specs.Prelude.{Bool, true, false, cond, List, [], ◌∷◌, ◌++◌, ℕ, zero, suc, ◌+◌, ◌-◌, ◌*◌, ◌^◌, ◌/◌, ◌%◌, eqb, ltb, Float, length, replicate, Option, None, Some}
use Rattle.std.specs.Int.Count.{ones}
use Rattle.masks.specs.declared.flavor.Flavor.{Flavor}
use Rattle.masks.specs.declared.flavor.Flavor.TheVariants.{Vanilla}
use Rattle.masks.specs.declared.build.Packing.{Packing}
use Rattle.masks.specs.declared.build.Packing.TheVariants.{Full, Half, Grade}
use Rattle.masks.specs.declared.build.Parity.{Parity}
use Rattle.masks.specs.declared.build.Parity.TheVariants.{Even, Odd}
use Rattle.masks.specs.Order.{order, size, start, built_tests}
use Rattle.masks.specs.Outcome.{Test, Outcome, refusal, too_many, no_room, unless, value, refused_value, shape_of, nought}
use Rattle.masks.specs.Flavor.{added_dims}

-- `padded first v n` has n numbers: those of v from the place `first` on, and +0 elsewhere.
unfoldable pub padded : ℕ → List Float → ℕ → List Float
padded first v n = replicate first nought ++ v ++ replicate (n - (first + length v)) nought

-- `at_grade d g v` has v at grade g, and +0 in the others.
unfoldable pub at_grade : ℕ → ℕ → List Float → List Float
at_grade d g v = padded (start d g) v (2 ^ d)

-- `one_grade n g v` is a value of n dimensions that has v at grade g.
unfoldable pub one_grade : ℕ → ℕ → List Float → Flavor → ℕ → Outcome
one_grade n g v f room = unless refused_value (refusal (built_tests n room)) (value (shape_of n f) (at_grade n g v))

-- `vector` takes 0 to 9 numbers at grade 1; their count is the dimensions.
unfoldable pub vector : List Float → Flavor → ℕ → Outcome
vector v f room = one_grade (length v) 1 v f room

-- The tests of building a value of n dimensions from n numbers: fewer than two refuse 2.
abbrev pub n_1_tests : ℕ → ℕ → List Test
n_1_tests n room = too_many n ∷ record { fails = ltb n 2; number = 2 } ∷ no_room room (2 ^ n) ∷ []

-- `n_1_blades` takes 2 to 9 numbers at grade d-1, where d is their count.
unfoldable pub n_1_blades : List Float → Flavor → ℕ → Outcome
n_1_blades v f room =
    unless refused_value (refusal (n_1_tests (length v) room))
    (value (shape_of (length v) f) (at_grade (length v) (length v - 1) v))

-- `scalar` has one number, at grade 0, and adds a dimension under Projective.
unfoldable pub scalar : ℕ → Float → Flavor → ℕ → Outcome
scalar d x f room = one_grade (d + added_dims f) 0 (x ∷ []) f room

-- `pseudoscalar` has one number, at the last grade, and adds a dimension under Projective.
unfoldable pub pseudoscalar : ℕ → Float → Flavor → ℕ → Outcome
pseudoscalar d x f room = one_grade (d + added_dims f) (d + added_dims f) (x ∷ []) f room

-- ---- sets of blades

-- `first_grade d n k g` is the first grade of n numbers among the k grades from g on.
unfoldable pub first_grade : ℕ → ℕ → ℕ → ℕ → Option Packing
first_grade d n zero g = None
first_grade d n (suc k) g = cond (eqb (size d g) n) (Some (Grade g)) (first_grade d n k (g + 1))

-- The grades of a side go left (0) from 0 through ceil((d+1)/2)-1, right (1) from floor((d+1)/2) up.
abbrev pub side_start : ℕ → ℕ → ℕ
side_start zero d = 0
side_start (suc odd) d = (d + 1) / 2

abbrev pub side_end : ℕ → ℕ → ℕ
side_end zero d = (d + 2) / 2
side_end (suc odd) d = d + 1

-- `packing odd d n` is how n numbers fill a value of d dimensions: a full set, a half set, else the first grade of that size on its side.
unfoldable pub packing : ℕ → ℕ → ℕ → Option Packing
packing odd d n =
    cond (eqb n (2 ^ d)) (Some Full)
    (cond (eqb (2 * n) (2 ^ d)) (Some Half) (first_grade d n (side_end odd d - side_start odd d) (side_start odd d)))

-- `unpacked` holds where no packing was found.
abbrev pub unpacked : Option Packing → Bool
unpacked (Some p) = false
unpacked None = true

-- The number of a parity: 0 for even, and 1 for odd.
abbrev pub odd_of : Parity → ℕ
odd_of Even = 0
odd_of Odd = 1

-- A mask's number of one bits is odd (1) or even (0).
abbrev pub of_parity : ℕ → ℕ → Bool
of_parity odd m = eqb (ones m % 2) odd

-- `spread` gives numbers in turn to the masks of one parity, and +0 to the others.
unfoldable pub spread : ℕ → List ℕ → List Float → List Float
spread odd [] v = []
spread odd (m ∷ ms) [] = nought ∷ spread odd ms []
spread odd (m ∷ ms) (x ∷ v) = cond (of_parity odd m) (x ∷ spread odd ms v) (nought ∷ spread odd ms (x ∷ v))

-- A full set is taken as it stands and becomes Vanilla, whatever flavor was given; a half set fills even (left) or odd (right) grades.
abbrev pub packed : Option Packing → ℕ → ℕ → List Float → Flavor → Outcome
packed (Some Full) odd d v f = value (shape_of d Vanilla) v
packed (Some Half) odd d v f = value (shape_of d f) (spread odd (order d) v)
packed (Some (Grade g)) odd d v f = value (shape_of d f) (at_grade d g v)
packed None odd d v f = refused_value 2

-- The tests of packing numbers at d dimensions: 2 where no packing fits.
abbrev pub packed_tests : ℕ → Option Packing → ℕ → List Test
packed_tests d p room = too_many d ∷ record { fails = unpacked p; number = 2 } ∷ no_room room (2 ^ d) ∷ []

-- `blades_of_side` is `blades_left` (0) and `blades_right` (1).
unfoldable pub blades_of_side : ℕ → ℕ → List Float → Flavor → ℕ → Outcome
blades_of_side odd d v f room =
    let p = packing odd d (length v) in
    unless refused_value (refusal (packed_tests d p room)) (packed p odd d v f)
