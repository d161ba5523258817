-- The two reverses. Assumes nothing.
use Rattle.std.specs.Prelude.{List, map, ℕ, ◌%◌, ltb, Float}
use Rattle.std.specs.Int.Count.{ones}
use Rattle.masks.specs.declared.shape.Shape.{Shape}
use Rattle.masks.specs.Order.{order}
use Rattle.masks.specs.Outcome.{Outcome}
use Rattle.masks.specs.Shape.{coef, negated_if}
use Rattle.product.specs.Reverse.{reversed}
use Rattle.arithmetic.specs.Kept.{kept}

-- `reverse` negates grades 2, 3 mod 4.
abbrev pub reverse : Shape → List Float → ℕ → Outcome
reverse s = kept (reversed s.dims) s

-- `inv_reverse` negates the rest.
unfoldable pub inv_reversed : ℕ → List Float → List Float
inv_reversed d a = map (λ m. negated_if (ltb (ones m % 4) 2) (coef d a m)) (order d)

-- The call.
abbrev pub inv_reverse : Shape → List Float → ℕ → Outcome
inv_reverse s = kept (inv_reversed s.dims) s
