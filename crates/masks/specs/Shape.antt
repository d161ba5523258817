-- Changes of shape. Assumes nothing.
use Rattle.std.specs.Prelude.{Bool, ◌&&◌, ◌||◌, cond, List, [], ◌∷◌, ◌++◌, map, ℕ, zero, suc, ◌+◌, ◌^◌, ◌/◌, ◌%◌, max, eqb, ltb, Float, length, get_or}
use Rattle.std.specs.Float.{nan}
use Rattle.std.specs.Float.Ieee.{neg}
use Rattle.masks.specs.declared.flavor.Flavor.{Flavor}
use Rattle.masks.specs.declared.flavor.Flavor.TheVariants.{Vanilla, Projective, Cl}
use Rattle.masks.specs.declared.shape.Shape.{Shape}
use Rattle.masks.specs.Order.{order, place}
use Rattle.masks.specs.Outcome.{Test, Outcome, Pair, nought, refusal, no_room, result_tests, pair_tests, unless, value, refused_value, refused_pair}

-- ---- coefficients by mask

-- `coef d a m` is the coefficient of a mask in a value of d dimensions: +0 for a mask outside.
unfoldable pub coef : ℕ → List Float → ℕ → Float
coef d a m = cond (ltb m (2 ^ d)) (get_or a (place d m) nan) nought

-- `negated_if t x` negates a number where the test holds.
abbrev pub negated_if : Bool → Float → Float
negated_if t x = cond t (neg x) x

-- ---- dimensions

-- `with_dims` gives a shape other dimensions.
abbrev pub with_dims : Shape → ℕ → Shape
with_dims s d = record { dims = d; flavor = s.flavor }

-- `with_flavor` gives a shape another flavor.
abbrev pub with_flavor : Shape → Flavor → Shape
with_flavor s f = record { dims = s.dims; flavor = f }

-- `negates d n m` says whether a change from d to n dimensions negates a mask: growing from 3, or shrinking to 3 from more, negates mask 101.
unfoldable pub negates : ℕ → ℕ → ℕ → Bool
negates d n m = eqb m 5 && ((eqb d 3 && ltb 3 n) || (ltb 3 d && eqb n 3))

-- `moved d n a m` is the coefficient of a mask of a value of d dimensions, as it stands at n.
abbrev pub moved : ℕ → ℕ → List Float → ℕ → Float
moved d n a m = negated_if (negates d n m) (coef d a m)

-- `resized d n a` moves each coefficient of a value of d dimensions to its mask's new place, fills with +0, and drops masks with bits outside.
unfoldable pub resized : ℕ → ℕ → List Float → List Float
resized d n a = map (moved d n a) (order n)

-- `set_dims` is the value at n dimensions, in an output of `room` numbers.
unfoldable pub set_dims : Shape → ℕ → List Float → ℕ → Outcome
set_dims s n a room =
    unless refused_value (refusal (result_tests s.dims n (length a) room (2 ^ n)))
    (value (with_dims s n) (resized s.dims n a))

-- ---- flavors

-- A change of flavor from Vanilla to Projective adds a dimension; any other renames only.
unfoldable pub promotes : Flavor → Flavor → ℕ
promotes Vanilla Projective = 1
promotes Vanilla Vanilla = 0
promotes Vanilla (Cl p n z) = 0
promotes Projective g = 0
promotes (Cl p n z) g = 0

-- `promoted_coef d a m` is the coefficient of a mask where bit i of a value of d dimensions has become bit i + 1: +0 for a mask that has bit 0.
abbrev pub promoted_coef : ℕ → List Float → ℕ → Float
promoted_coef d a m = cond (eqb (m % 2) 0) (coef d a (m / 2)) nought

-- `promoted up d a` is a value of d dimensions promoted by `up` of them, 0 or 1.
unfoldable pub promoted : ℕ → ℕ → List Float → List Float
promoted zero d a = a
promoted (suc up) d a = map (promoted_coef d a) (order (d + 1))

-- `set_flavor` is the value in another flavor, in an output of `room` numbers.
unfoldable pub set_flavor : Shape → Flavor → List Float → ℕ → Outcome
set_flavor s f a room =
    let up = promotes s.flavor f in
    let n = s.dims + up in
    unless refused_value (refusal (result_tests s.dims n (length a) room (2 ^ n)))
    (value (with_flavor (with_dims s n) f) (promoted up s.dims a))

-- ---- conforming

-- `conformed up d n a` is a value of d dimensions promoted by `up` and then grown to n.
unfoldable pub conformed : ℕ → ℕ → ℕ → List Float → List Float
conformed up d n a = resized (d + up) n (promoted up d a)

-- A promoted shape is Projective.
abbrev pub promoted_flavor : ℕ → Flavor → Flavor
promoted_flavor zero f = f
promoted_flavor (suc up) f = Projective

-- `conformed_shape up s n` is a shape promoted by `up`, with n dimensions.
unfoldable pub conformed_shape : ℕ → Shape → ℕ → Shape
conformed_shape up s n = with_flavor (with_dims s n) (promoted_flavor up s.flavor)

-- The left of two values is promoted where Vanilla meets Projective, then grown to the right's dimensions as they are given.
unfoldable pub conform_to : Shape → Shape → List Float → ℕ → Outcome
conform_to s t a room =
    let up = promotes s.flavor t.flavor in
    let n = max (s.dims + up) t.dims in
    unless refused_value (refusal (result_tests s.dims n (length a) room (2 ^ n)))
    (value (conformed_shape up s n) (conformed up s.dims n a))

-- The tests of two values of d and e dimensions that are conformed to n, each in an output of its own.
abbrev pub both_tests : ℕ → ℕ → ℕ → ℕ → ℕ → ℕ → ℕ → List Test
both_tests d e n count countRight room roomRight =
    pair_tests d e n count countRight room ++ no_room roomRight (2 ^ n) ∷ []

-- The dimensions that two values meet in, where the Vanilla one of a Vanilla and Projective pair is promoted.
abbrev pub meeting_dims : Shape → Shape → ℕ
meeting_dims s t = max (s.dims + promotes s.flavor t.flavor) (t.dims + promotes t.flavor s.flavor)

-- Two values conform as they stand where their dimensions are equal and neither is promoted.
abbrev pub agree : Shape → Shape → Bool
agree s t = eqb s.dims t.dims && eqb (promotes s.flavor t.flavor + promotes t.flavor s.flavor) 0

-- The Vanilla one of a Vanilla and Projective pair is promoted, then the smaller is grown.
unfoldable pub conform : Shape → Shape → List Float → List Float → ℕ → ℕ → Pair
conform s t a b room roomRight =
    let up = promotes s.flavor t.flavor in
    let up_right = promotes t.flavor s.flavor in
    let n = meeting_dims s t in
    unless refused_pair (refusal (both_tests s.dims t.dims n (length a) (length b) room roomRight))
    (record {
      number = 0;
      left_shape = conformed_shape up s n;
      right_shape = conformed_shape up_right t n;
      left_coefs = conformed up s.dims n a;
      right_coefs = conformed up_right t.dims n b;
    })
