-- The version, and answers as numbers. Assumes nothing.
use Rattle.std.specs.Prelude.{Bool, cond, ℕ, Float, ℤ, pos, negsuc}
use Rattle.masks.specs.Outcome.{nought}
use Rattle.std.specs.declared.cmp.Ordering.{Ordering}
use Rattle.std.specs.declared.cmp.Ordering.TheVariants.{Less, Equal, Greater}
use Rattle.arithmetic.specs.declared.scalar.ScalarTest.{ScalarTest}
use Rattle.arithmetic.specs.declared.scalar.ScalarTest.TheVariants.{Scalar, Planar, Neither}

-- 0.2.0: major times 10,000, minor times 100, and patch.
abbrev pub version : ℕ
version = 200

-- No is 0 and yes is 1.
abbrev pub yes_number : Bool → ℕ
yes_number b = cond b 1 0

-- Less is -1, equal 0 and greater 1.
abbrev pub order_number : Ordering → ℤ
order_number Less = negsuc 0
order_number Equal = pos 0
order_number Greater = pos 1

-- Scalar is 0, planar 1 and neither 2.
unfoldable pub test_number : ScalarTest → ℕ
test_number (Scalar x) = 0
test_number (Planar c) = 1
test_number Neither = 2

-- A scalar's number, or the complex pair; +0 where there is none.
unfoldable pub real_part : ScalarTest → Float
real_part (Scalar x) = x
real_part (Planar c) = c.re
real_part Neither = nought

unfoldable pub imaginary_part : ScalarTest → Float
imaginary_part (Scalar x) = nought
imaginary_part (Planar c) = c.im
imaginary_part Neither = nought
