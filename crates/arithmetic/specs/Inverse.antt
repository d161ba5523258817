-- The inverse. Assumes nothing.
use Rattle.std.specs.Prelude.{List, [], ◌∷◌, ◌++◌, map, ℕ, ◌-◌, ◌^◌, Float, get_or, set, replicate}
use Rattle.std.specs.Float.{nan, binary64}
use Rattle.std.specs.Float.Ieee.{add, sub, mul, neg}
use Rattle.masks.specs.declared.shape.Shape.{Shape}
use Rattle.masks.specs.Outcome.{Test, Outcome, refusal, unless, value, refused_value, nought}
use Rattle.product.specs.declared.mode.Mode.TheVariants.{All}
use Rattle.product.specs.Pairwise.{product}
use Rattle.arithmetic.specs.declared.scalar.ScalarTest.{ScalarTest}
use Rattle.arithmetic.specs.declared.scalar.ScalarTest.TheVariants.{Scalar, Planar, Neither}
use Rattle.arithmetic.specs.Scalar.{test_of, if_scalar, no_inverse}
use Rattle.arithmetic.specs.Kept.{kept_tests}
use Rattle.arithmetic.specs.Scale.{scaled, reciprocal}

-- A value of one shape squared by the pairwise product.
abbrev pub square_of : Shape → List Float → List Float
square_of s x = product All s.flavor s.dims binary64 x x

-- s is place 0, x the value with -s added there.
unfoldable pub less_scalar : List Float → List Float
less_scalar a = set a 0 (add binary64 (get_or a 0 nan) (neg (get_or a 0 nan)))

-- If x squared is scalar q: negate x, add s, divide by s x s - q.
unfoldable pub by_square : Float → List Float → Float → List Float
by_square s x q = scaled (reciprocal (sub binary64 (mul binary64 s s) q)) (set (map neg x) 0 (add binary64 (get_or (map neg x) 0 nan) s))

-- Else all zero, NaN at place 0.
unfoldable pub nanified : ℕ → List Float
nanified d = nan ∷ replicate (2 ^ d - 1) nought

-- The inverse of a value that is neither scalar nor planar.
unfoldable pub general_inverse : Shape → List Float → List Float
general_inverse s a =
    let x = less_scalar a in
    if_scalar (test_of s (square_of s x)) (by_square (get_or a 0 nan) x) (nanified s.dims)

-- Scalar: 1 / f at place 0, the rest kept. Planar: refused, so there is none.
unfoldable pub inverse_by : ScalarTest → Shape → List Float → List Float
inverse_by (Scalar f) s a = set a 0 (reciprocal f)
inverse_by (Planar c) s a = []
inverse_by Neither s a = general_inverse s a

-- The inverse's coefficients.
abbrev pub inverse_of : Shape → List Float → List Float
inverse_of s a = inverse_by (test_of s a) s a

-- The tests of an inverse, in an output of `room` numbers.
abbrev pub inverse_tests : Shape → List Float → ℕ → List Test
inverse_tests s a room = kept_tests s a room ++ no_inverse (test_of s a) ∷ []

-- `inverted` is the inverse, in an output of `room` numbers.
unfoldable pub inverse : Shape → List Float → ℕ → Outcome
inverse s a room = unless refused_value (refusal (inverse_tests s a room)) (value s (inverse_of s a))
