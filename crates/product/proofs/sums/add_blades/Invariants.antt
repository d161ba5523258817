use mathlib.Core.Path.{◌≡◌}
use Prim.Native.Nat.{◌^◌}
use Rattle.product.specs.inner.Sums.{rows_below}
use Rattle.product.specs.inner.Plan.{plan_mask}
use Rattle.product.proofs.sums.add_blades.Given as goal

abbrev pub invariant-loop-j : goal.invariant-loop-j
invariant-loop-j l = l.acc ≡ rows_below (2 ^ l.plan.shape.dims) (plan_mask l.plan) l.turn l.plan.mode l.squares l.am l.b l.j
