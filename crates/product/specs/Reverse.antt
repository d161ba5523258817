-- The reverse of a value. Assumes nothing.
use Rattle.std.specs.Prelude.{not, List, map, ℕ, ◌%◌, ltb, Float}
use Rattle.std.specs.Int.Count.{ones}
use Rattle.masks.specs.Order.{order}
use Rattle.masks.specs.Shape.{coef, negated_if}

-- `reversed` negates grades 2, 3 mod 4.
unfoldable pub reversed : ℕ → List Float → List Float
reversed d a = map (λ m. negated_if (not (ltb (ones m % 4) 2)) (coef d a m)) (order d)
