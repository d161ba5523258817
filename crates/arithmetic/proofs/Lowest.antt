-- In the list of tests that the definition of each call cites the numbers rise, so the lowest that applies is given (`refused_lowest` of masks). What only
-- reads a value has `value_tests` (`value_rises` of masks), and the regressive product `product_tests` (`product_rises` of product). Assumes nothing.
use mathlib.Core.List.{List}
use Prim.Native.Nat.{ℕ}
use lib.Dec.{T}
use lib.Ieee.{Float}
use lib.IntN.{ℤ}
use Rattle.masks.specs.declared.shape.Shape.{Shape}
use Rattle.masks.proofs.Lowest.{rises}
use Rattle.arithmetic.specs.Kept.{kept_tests}
use Rattle.arithmetic.specs.Operators.{operator_tests}
use Rattle.arithmetic.specs.Inverse.{inverse_tests}
use Rattle.arithmetic.specs.Quotient.{quotient_tests}
use Rattle.arithmetic.specs.Power.{power_tests}
use Rattle.arithmetic.specs.Compare.{compared_tests}

-- One value: its shape kept (`neg`, `*` and `/` by a number, the reverses, the duals, `take_scalar`, `make_scalar_only`), its inverse, a power of it.
module _ (s : Shape) (a : List Float) (room : ℕ) where
  pub kept_rises : T (rises 1 (kept_tests s a room))
  kept_rises = tt

  pub inverse_rises : T (rises 1 (inverse_tests s a room))
  inverse_rises = tt

  pub power_rises : (p : ℤ) → T (rises 1 (power_tests s p a room))
  power_rises p = tt

-- Two values: compared, operated on, divided.
module _ (s t : Shape) (a b : List Float) where
  pub compared_rises : T (rises 1 (compared_tests s t a b))
  compared_rises = tt

  pub operator_rises : (room : ℕ) → T (rises 1 (operator_tests s t a b room))
  operator_rises room = tt

  pub quotient_rises : (room : ℕ) → T (rises 1 (quotient_tests s t a b room))
  quotient_rises room = tt
