-- The scalar test. Assumes nothing.
use Rattle.std.specs.Prelude.{Bool, true, false, ◌&&◌, cond, List, [], ◌∷◌, ℕ, eqb, Float, length, get_or}
use Rattle.std.specs.Float.{nan}
use Rattle.std.specs.Float.Ieee.{eq}
use Rattle.masks.specs.declared.flavor.Flavor.{Flavor}
use Rattle.masks.specs.declared.flavor.Flavor.TheVariants.{Vanilla, Projective, Cl}
use Rattle.masks.specs.declared.shape.Shape.{Shape}
use Rattle.masks.specs.Outcome.{Test, refusal, value_tests, unless, nought}
use Rattle.arithmetic.specs.declared.scalar.ScalarTest.{ScalarTest}
use Rattle.arithmetic.specs.declared.scalar.ScalarTest.TheVariants.{Scalar, Planar, Neither}

-- A number that equals zero, of either sign.
abbrev pub is_zero : Float → Bool
is_zero x = eq x nought

-- All numbers of a list equal zero.
unfoldable pub all_zero : List Float → Bool
all_zero [] = true
all_zero (x ∷ xs) = is_zero x && all_zero xs

-- A value is scalar where the places after 0 equal zero.
unfoldable pub is_scalar : List Float → Bool
is_scalar [] = false
is_scalar (x ∷ xs) = all_zero xs

-- A flavor is Vanilla.
abbrev pub is_vanilla : Flavor → Bool
is_vanilla Vanilla = true
is_vanilla Projective = false
is_vanilla (Cl p n z) = false

-- A value is planar where it is Vanilla, d = 2, and places 1 and 2 equal zero.
unfoldable pub is_planar : Shape → List Float → Bool
is_planar s a = eqb s.dims 2 && is_vanilla s.flavor && is_zero (get_or a 1 nan) && is_zero (get_or a 2 nan)

-- Scalar with its number, planar with two numbers as a complex pair, or neither; scalar is tried first.
unfoldable pub test_of : Shape → List Float → ScalarTest
test_of s a =
    cond (is_scalar a) (Scalar (get_or a 0 nan))
    (cond (is_planar s a) (Planar (record { re = get_or a 0 nan; im = get_or a 3 nan })) Neither)

-- `if_scalar t f x` is what f gives for the number of a scalar, and x for any other value.
unfoldable pub if_scalar {ℓ} : {A : Type ℓ} → ScalarTest → (Float → A) → A → A
if_scalar (Scalar x) f y = f x
if_scalar (Planar c) f y = y
if_scalar Neither f y = y

-- The test answered planar.
unfoldable pub was_planar : ScalarTest → Bool
was_planar (Scalar x) = false
was_planar (Planar c) = true
was_planar Neither = false

-- 5: An inverse is wanted of a planar value.
abbrev pub no_inverse : ScalarTest → Test
no_inverse t = record { fails = was_planar t; number = 5 }

-- What the test answers.
pub record Tested : Type 0 where
  pub number : ℕ
  pub test : ScalarTest

-- A refusal answers neither.
abbrev pub refused_test : ℕ → Tested
refused_test k = record { number = k; test = Neither }

-- `scalar_test` is the test of a value.
unfoldable pub scalar_test : Shape → List Float → Tested
scalar_test s a = unless refused_test (refusal (value_tests s.dims (length a))) (record { number = 0; test = test_of s a })
