use native.Mathlib.Omega.{arith}
use lib.Pow.{pow_mono}
use Rattle.masks.specs.Shape.{meeting_dims}
use Rattle.masks.proofs.OrderLaws.{blades_le}
use Rattle.masks.proofs.ShapeLaws.{promotes_le}
use Rattle.product.proofs.products.multiply_conformed.Goals as goal

pub multiply_in-requires : goal.multiply_in-requires
multiply_in-requires c =
    let a = c.args in (
      λ _. pow_mono {i = meeting_dims a.left a.right} {j = 6} (omega (arith, c.if-left-lt6.true, c.if-right-lt6.true, promotes_le a.left.flavor a.right.flavor, promotes_le a.right.flavor a.left.flavor)),
      omega arith,
    )

pub multiply_in-requires-else-left-lt6 : goal.multiply_in-requires-else-left-lt6
multiply_in-requires-else-left-lt6 c = (λ h. blades_le _ h, omega arith)
