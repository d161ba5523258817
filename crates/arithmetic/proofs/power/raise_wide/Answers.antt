use mathlib.Core.Path.{◌≡◌, subst}
use mathlib.Core.List.{List}
use Prim.Native.Nat.{ℕ, ◌+◌}
use Rattle.std.specs.Prelude.{Result}
use Rattle.masks.specs.declared.outcome.Refusal.{Refusal}
use Rattle.masks.specs.Flavor.{added_dims}
use Rattle.masks.specs.Order.{GivesOrder}
use Rattle.arithmetic.proofs.OrderPassed.{array_room, order_put, passed_put}
use Rattle.arithmetic.proofs.power.raise_wide.Goals as goal

-- The order of d + m dimensions, where m are the n that the flavor adds.
module _ (d m n : ℕ) (before after : List ℕ) (r : Result (Unit {0}) Refusal) (e : m ≡ n) (g : GivesOrder (d + m) r before after) where
  built : GivesOrder (d + n) r before after
  built = subst (λ (k : ℕ). GivesOrder (d + k) r before after) e g

pub unwrap-requires : goal.unwrap-requires
unwrap-requires g c =
    let f = c.requires.flavor_bound in
    order_put (built c.args.value.shape.dims _ (added_dims c.args.value.shape.flavor) _ _ _ c.added_dims-added.ensures c.put_order.ensures) f.0 (array_room _ f.2)

pub raise_in-requires-2-clause-in_order : goal.raise_in-requires-2-clause-in_order
raise_in-requires-2-clause-in_order g c =
    let f = c.requires.flavor_bound in
    (c.requires.in_order, passed_put (built c.args.value.shape.dims _ (added_dims c.args.value.shape.flavor) _ _ _ c.added_dims-added.ensures c.put_order.ensures) f.0 (array_room _ f.2))
