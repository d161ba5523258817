use native.Mathlib.Omega.{arith}
use Rattle.masks.proofs.ShapeLaws.{promotes_le}
use Rattle.masks.proofs.shape.Shape.agrees.Goals as goal

-- a promotion adds at most one dimension
pub overflow_add-result : goal.overflow_add-result
overflow_add-result c =
    let a = c.args in
    omega (arith, c.promotion.ensures, c.promotion-then-self-other.ensures, promotes_le a.self.flavor a.other.flavor, promotes_le a.other.flavor a.self.flavor)
