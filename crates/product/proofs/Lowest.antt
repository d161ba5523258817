-- In the list of tests of the five products the numbers rise, so the lowest that applies is given. Assumes nothing.
use mathlib.Core.Path.{◌≡◌}
use mathlib.Core.Bool.{true}
use mathlib.Core.List.{List}
use Prim.Native.Nat.{ℕ, ◌≤◌, ◌<◌}
use lib.Dec.{T}
use lib.Ieee.{Float}
use lib.ListN.{length, get_or}
use Rattle.masks.specs.declared.shape.Shape.{Shape}
use Rattle.masks.specs.Outcome.{Test}
use Rattle.masks.proofs.Lowest.{rises, refused_lowest}
use Rattle.product.specs.declared.mode.Mode.{Mode}
use Rattle.product.specs.Products.{product_tests, multiplied}
use Rattle.product.proofs.ProductsRefusals.{refused_by}

module _ (s t : Shape) (a b : List Float) (room : ℕ) where
  pub product_rises : T (rises 1 (product_tests s t a b room))
  product_rises = tt

  -- No test that fails has a lower number than the one that a product is refused with.
  pub product_lowest : (mode : Mode) (test : Test) (k : ℕ) → k < length (product_tests s t a b room) → (get_or (product_tests s t a b room) k test).fails ≡ true
      → (multiplied mode s t a b room).outcome.number ≤ (get_or (product_tests s t a b room) k test).number
  product_lowest mode test k h e = rw (refused_by mode s t a b room) (refused_lowest 1 (product_tests s t a b room) test k product_rises h e)
