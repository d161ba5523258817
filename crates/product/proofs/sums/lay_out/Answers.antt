use mathlib.Core.Path.{ap, ◌∙◌}
use mathlib.Core.List.{List, map}
use Prim.Native.Nat.{ℕ, ◌^◌}
use lib.Ieee.{Float, nan}
use lib.ListN.{get_or, set}
use Rattle.masks.specs.Order.{up_from}
use Rattle.product.specs.Given.{at_mask}
use Rattle.product.specs.inner.Plan.{plan_mask}
use Rattle.product.proofs.SumsPlaces.{lay_start, lay_more, plan_low}
use Rattle.product.proofs.sums.lay_out.Goals as goal

pub loop-i-init : goal.loop-i-init
loop-i-init c =
    let p = c.args.plan in
    c.requires.1 ∙ lay_start (plan_mask p) p.shape.dims (2 ^ p.shape.dims) c.args.a.now

pub loop-i-preserved : goal.loop-i-preserved
loop-i-preserved c =
    let p = c.args.plan in
    let d = p.shape.dims in
    let i = c.loop-i.i in
    let x = get_or c.args.a.now i nan in
    let laid_out = map (at_mask (plan_mask p) d c.args.a.now i) (up_from 0 (2 ^ d)) in
    ap (λ (l : List Float). set l c.mask_at.result x) c.loop-i.invariant ∙ ap (λ (m : ℕ). set laid_out m x) c.mask_at.ensures
    ∙ lay_more (plan_mask p) d (2 ^ d) c.args.a.now i (plan_low p i)
