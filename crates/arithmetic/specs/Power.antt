-- Whole powers. Assumes nothing.
use Rattle.std.specs.Prelude.{Bool, true, false, ◌&&◌, ◌||◌, cond, List, [], ◌∷◌, ◌++◌, ℕ, zero, suc, ◌+◌, ◌^◌, ◌/◌, ◌%◌, eqb, Float, ℤ, pos, negsuc, length}
use Rattle.masks.specs.declared.shape.Shape.{Shape}
use Rattle.masks.specs.Flavor.{added_dims}
use Rattle.masks.specs.Outcome.{Test, Outcome, refusal, result_tests, unless, value, refused_value}
use Rattle.masks.specs.Shape.{with_dims}
use Rattle.masks.specs.Build.{scalar}
use Rattle.arithmetic.specs.Scalar.{test_of, was_planar}
use Rattle.arithmetic.specs.Scale.{unity}
use Rattle.arithmetic.specs.Operators.{multiplication}
use Rattle.arithmetic.specs.Dual.{ample}
use Rattle.arithmetic.specs.Inverse.{square_of, inverse_of}

-- ---- the exponent

-- A whole number below zero.
abbrev pub is_negative : ℤ → Bool
is_negative (pos n) = false
is_negative (negsuc n) = true

-- The size of a whole number.
abbrev pub size_of : ℤ → ℕ
size_of (pos n) = n
size_of (negsuc n) = suc n

-- 1, 2, -1, -2 are direct.
unfoldable pub is_direct : ℕ → Bool
is_direct n = eqb n 1 || eqb n 2

-- ---- the power

-- Others start from `scalar`, so under Projective the result has one dimension more.
unfoldable pub power_dims : Shape → ℕ → ℕ
power_dims s n = cond (is_direct n) s.dims (s.dims + added_dims s.flavor)

-- `raised s k n r x` takes k digits of n, the low one first: where it is 1, r is multiplied by the base x with `*`; then the base is squared by the pairwise product.
unfoldable pub raised : Shape → ℕ → ℕ → List Float → List Float → List Float
raised s zero n r x = r
raised s (suc k) n r x =
    raised s k (n / 2) (cond (eqb (n % 2) 1) (multiplication (with_dims s (s.dims + added_dims s.flavor)) s r x ample).coefs r) (square_of s x)

-- A power of at most 31 digits.
unfoldable pub by_digits : Shape → ℕ → List Float → List Float
by_digits s n x = raised s 31 n (scalar s.dims unity s.flavor ample).coefs x

-- x to the n.
unfoldable pub raised_to : Shape → ℕ → List Float → List Float
raised_to s n x = cond (eqb n 1) x (cond (eqb n 2) (square_of s x) (by_digits s n x))

-- A negative power is that of the inverse.
unfoldable pub power_of : Shape → ℤ → List Float → List Float
power_of s p a = raised_to s (size_of p) (cond (is_negative p) (inverse_of s a) a)

-- ---- the call

-- 5: An inverse is wanted, for a negative power, of a planar value.
abbrev pub negative_planar : Shape → ℤ → List Float → Test
negative_planar s p a = record { fails = is_negative p && was_planar (test_of s a); number = 5 }

-- 6: The power is the least i32.
abbrev pub least_power : ℤ → Test
least_power p = record { fails = eqb (size_of p) (2 ^ 31); number = 6 }

-- The tests of a power, in an output of `room` numbers.
abbrev pub power_tests : Shape → ℤ → List Float → ℕ → List Test
power_tests s p a room =
    result_tests s.dims (power_dims s (size_of p)) (length a) room (2 ^ power_dims s (size_of p)) ++ negative_planar s p a ∷ least_power p ∷ []

-- `powi` is the power, in an output of `room` numbers.
unfoldable pub power : Shape → ℤ → List Float → ℕ → Outcome
power s p a room = unless refused_value (refusal (power_tests s p a room)) (value (with_dims s (power_dims s (size_of p))) (power_of s p a))
