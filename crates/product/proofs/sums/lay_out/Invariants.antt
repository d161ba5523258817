use mathlib.Core.Path.{◌≡◌}
use mathlib.Core.List.{map}
use Prim.Native.Nat.{◌^◌}
use Rattle.masks.specs.Order.{up_from}
use Rattle.product.specs.Given.{at_mask}
use Rattle.product.specs.inner.Plan.{plan_mask}
use Rattle.product.proofs.sums.lay_out.Given as goal

abbrev pub invariant-loop-i : goal.invariant-loop-i
invariant-loop-i l = l.am ≡ map (at_mask (plan_mask l.plan) l.plan.shape.dims l.a l.i) (up_from 0 (2 ^ l.plan.shape.dims))
