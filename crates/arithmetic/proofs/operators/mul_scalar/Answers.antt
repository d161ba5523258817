use mathlib.Core.Path.{◌≡◌, refl, sym}
use mathlib.Core.Bool.{Bool, true, false, cond}
use mathlib.Core.List.{[], map}
use Prim.Native.Nat.{◌^◌, ◌≤◌}
use native.Mathlib.Omega.{arith}
use lib.Ieee.{Float, binary64, eq, mul}
use lib.ListN.{length}
use lib.Seq.{length-take-le}
use Rattle.std.proofs.lemmas.Result.{err_from_is_err_and}
use Rattle.masks.proofs.OrderLaws.{none_counted}
use Rattle.arithmetic.specs.Scale.{unity, scaled}
use Rattle.arithmetic.proofs.KeptLaws.{changed_front, scaled_length}
use Rattle.arithmetic.proofs.OperatorsLaws.{conformed_facts, changed_none, changed}
use Rattle.arithmetic.proofs.operators.mul_scalar.Goals.{After-blades_or_none}
use Rattle.arithmetic.proofs.operators.mul_scalar.Goals as goal

-- Nothing, multiplied, is nothing.
scaled_none : (f : Float) → scaled f [] ≡ []
unfolding scaled
scaled_none f = go (eq f unity)
  where
    go : (b : Bool) → cond b [] (map (λ (x : Float). mul binary64 x f) []) ≡ []
    go true = refl
    go false = refl

-- The count of the blades is that of what was conformed.
counted : (b : After-blades_or_none) → b.blades_or_none.result ≡ 2 ^ b.in_ok-shape.shape.dims
counted b = none_counted b.blades_or_none.ensures (conformed_facts _ _ _ _ _ _ b.in_ok-shape.ensures).small

room : (b : After-blades_or_none) → b.blades_or_none.result ≤ length b.conform_to.new.out
room b = omega (arith, counted b, (conformed_facts _ _ _ _ _ _ b.in_ok-shape.ensures).roomy)

pub slice_bounds-scale-end : goal.slice_bounds-scale-end
slice_bounds-scale-end c = room c

pub slice_bounds-scale-end-2 : goal.slice_bounds-scale-end-2
slice_bounds-scale-end-2 c = sym (length-take-le _ _ (room (goal.at.slice_bounds-scale-end-2 c).After-blades_or_none))

pub returns-in_err-shape : goal.returns-in_err-shape
returns-in_err-shape c =
    let f = c.args.f in
    let p = err_from_is_err_and c.from_residual.result c.from_residual.ensures.1 in
    rw (p.1, p.2) (changed_none _ _ _ _ _ _ c.in_err-shape.ensures (scaled f) (scaled_none f))

pub returns : goal.returns
returns c =
    let f = c.args.f in
    changed _ _ _ _ _ _ c.in_ok-shape.ensures (scaled f) c.blades_or_none.result _ (counted (goal.at.returns c).After-blades_or_none) (scaled_length f)
    (changed_front (scaled f) c.blades_or_none.result _ _ (room (goal.at.returns c).After-blades_or_none) (scaled_length f) c.scale.ensures)
