use mathlib.Core.Path.{ap, ◌∙◌}
use mathlib.Core.List.{List}
use Prim.Native.Nat.{◌^◌}
use lib.Ieee.{Float, binary64, sub}
use Rattle.masks.specs.Outcome.{laid, nought}
use Rattle.product.specs.inner.Metric.{squares_below}
use Rattle.product.specs.inner.Plan.{plan_mask, taken_by}
use Rattle.product.proofs.SumsPlaces.{turned_sums, plan_low}
use Rattle.product.proofs.SumsLaws.{rows_product}
use Rattle.product.proofs.sums.fill_by.Goals as goal

pub returns : goal.returns
returns c =
    let a = c.args in
    let p = a.plan in
    let d = p.shape.dims in
    let squares = c.squares_of-squares.ensures ∙ ap (squares_below 9) c.flavor_for.ensures in
    c.take_back.ensures
    ∙ ap (λ (l : List Float). laid (taken_by p l) a.out.now)
    (turned_sums (2 ^ d) (plan_mask p) p.mode a.b.now (sub binary64 nought) _ _ _ _ _ _ _ _ _ c.turned_mask-turn.ensures squares c.lay_out.ensures.am_after c.turn_in.ensures
    c.add_blades.ensures c.turn_out.ensures)
    ∙ ap (λ (l : List Float). laid l a.out.now) (rows_product (plan_mask p) d p.small (λ i h. plan_low p i) p.mode p.shape.flavor a.a.now a.b.now c.lay_out.ensures.by_index)
