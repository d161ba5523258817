-- Division by a value. Assumes nothing.
use Rattle.std.specs.Prelude.{cond, List, [], ◌∷◌, ◌++◌, ℕ, Float, length}
use Rattle.masks.specs.declared.shape.Shape.{Shape}
use Rattle.masks.specs.Outcome.{Test, Outcome, refusal, pair_tests, unless, value, refused_value}
use Rattle.arithmetic.specs.declared.scalar.ScalarTest.{ScalarTest}
use Rattle.arithmetic.specs.declared.scalar.ScalarTest.TheVariants.{Scalar, Planar, Neither}
use Rattle.arithmetic.specs.Scalar.{test_of, if_scalar, no_inverse}
use Rattle.arithmetic.specs.Scale.{scaled, reciprocal}
use Rattle.arithmetic.specs.Operators.{is_other, result_dims, multiplication}
use Rattle.arithmetic.specs.Inverse.{general_inverse, inverse_of}

-- What decides the result's dimensions: the inverse, and for a planar value, which has none here, the value itself.
unfoldable pub divisor_by : ScalarTest → Shape → List Float → List Float
divisor_by (Scalar f) t b = b
divisor_by (Planar c) t b = b
divisor_by Neither t b = general_inverse t b

-- By a scalar the left's dimensions stay; by others they are those of `*` by the inverse.
unfoldable pub quotient_dims : Shape → Shape → List Float → ℕ
quotient_dims s t b = cond (is_other t b) (result_dims s t (divisor_by (test_of t b) t b)) s.dims

-- The tests of `/` by a value, in an output of `room` numbers.
abbrev pub quotient_tests : Shape → Shape → List Float → List Float → ℕ → List Test
quotient_tests s t a b room =
    pair_tests s.dims t.dims (quotient_dims s t b) (length a) (length b) room ++ no_inverse (test_of t b) ∷ []

-- `/` by a scalar value multiplies by 1 / f and doesn't conform; by others it multiplies by the inverse.
unfoldable pub quotient : Shape → Shape → List Float → List Float → ℕ → Outcome
quotient s t a b room =
    unless refused_value (refusal (quotient_tests s t a b room))
    (if_scalar (test_of t b) (λ f. value s (scaled (reciprocal f) a)) (multiplication s t a (inverse_of t b) room))
