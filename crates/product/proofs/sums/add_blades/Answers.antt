use mathlib.Core.Path.{◌≡◌, sym, ap, ◌∙◌}
use Prim.Native.Nat.{ℕ, ◌^◌, ◌<◌}
use native.Mathlib.Omega.{arith}
use lib.ListN.{length, length-replicate}
use Rattle.masks.specs.Outcome.{nought}
use Rattle.masks.proofs.OrderLaws.{blades_le}
use Rattle.product.specs.inner.Sums.{rows_below}
use Rattle.product.specs.inner.Plan.{plan_mask}
use Rattle.product.proofs.SumsPlaces.{plan_low, rows_length, rows_next, blade_mask, blade_null}
use Rattle.product.proofs.sums.add_blades.Goals.{At-loop-j, After-mask_at-m}
use Rattle.product.proofs.sums.add_blades.Goals as goal

-- The sums keep their length.
same : (c : At-loop-j) → length c.loop-j.acc ≡ 2 ^ c.args.plan.shape.dims
same c = ap length c.loop-j.invariant ∙ rows_length (2 ^ c.args.plan.shape.dims) _ _ _ _ _ _ c.loop-j.j

-- The mask of a turn.
low : (c : After-mask_at-m) → c.mask_at-m.result < 2 ^ c.args.plan.shape.dims
low c = omega (arith, c.mask_at-m.ensures, plan_low c.args.plan c.loop-j.j)

pub loop-j-init : goal.loop-j-init
unfolding rows_below
loop-j-init c = c.requires.2

pub blade_of-requires : goal.blade_of-requires
blade_of-requires c =
    let s = (goal.at.blade_of-requires c).After-mask_at-m in
    omega (arith, low s, blades_le c.args.plan.shape.dims c.args.plan.small)

pub add_blade-requires-clause-mask_bound : goal.add_blade-requires-clause-mask_bound
add_blade-requires-clause-mask_bound c =
    let s = (goal.at.add_blade-requires-clause-mask_bound c).After-mask_at-m in
    (omega (arith, blade_mask c.blade_of.result c.args.squares c.mask_at-m.result c.blade_of.ensures, low s), same (goal.at.add_blade-requires-clause-mask_bound c).At-loop-j)

pub add_blade-requires-clause-null_value : goal.add_blade-requires-clause-null_value
add_blade-requires-clause-null_value c = blade_null c.blade_of.result c.args.squares c.mask_at-m.result c.blade_of.ensures

pub loop-j-preserved : goal.loop-j-preserved
loop-j-preserved c =
    let a = c.args in
    let m = c.mask_at-m in
    rows_next (2 ^ a.plan.shape.dims) (plan_mask a.plan) a.turn a.plan.mode a.squares a.am.now a.b.now c.loop-j.j m.result c.blade_of.result _ c.loop-j.acc _
    m.ensures c.blade_of.ensures c.turned_number-y.ensures c.loop-j.invariant c.add_blade.ensures

pub shape_of-acc : goal.shape_of-acc
shape_of-acc c = same (goal.at.shape_of-acc c).At-loop-j ∙ sym (ap length c.requires.2 ∙ length-replicate (2 ^ c.args.plan.shape.dims) nought)

pub returns : goal.returns
returns c =
    let a = c.args in
    let e : c.loop-j.j ≡ 2 ^ a.plan.shape.dims = omega (arith, c.requires.0) in
    c.loop-j.invariant ∙ ap (λ (n : ℕ). rows_below (2 ^ a.plan.shape.dims) (plan_mask a.plan) a.turn a.plan.mode a.squares a.am.now a.b.now n) e
