use mathlib.Core.Path.{◌≡◌, refl, sym, ap, ◌∙◌}
use Prim.Native.Nat.{◌-◌, ◌^◌, ◌≤◌, ◌<◌}
use native.Mathlib.Omega.{arith}
use borrow.Author.Tests.{eq-eqb, ne_eqb, lt-ltb, le-ltb}
use Rattle.masks.specs.Outcome.{refusal}
use Rattle.masks.specs.Blade.{blade_dims}
use Rattle.masks.proofs.BladeLaws.{dims_le}
use Rattle.masks.proofs.blade.set_blade_refusal.Goals.{After-blades-2, Else-count-blades}
use Rattle.masks.proofs.blade.set_blade_refusal.Goals as goal

-- the value has its count, and what is needed is at most nine dimensions
module _ (c : Else-count-blades) where
  counted : c.args.count ≡ 2 ^ c.args.dims
  counted = c.if-count-blades.false ∙ c.blades.ensures

  few : blade_dims (9 - c.args.dims) c.args.dims c.args.mask ≤ 9
  few = omega (arith, dims_le (9 - c.args.dims) c.args.dims c.args.mask, c.if-dims-gt-MAX_DIMS.false)

needed : (c : After-blades-2) → c.blades-2.result ≡ 2 ^ (blade_dims (9 - c.args.dims) c.args.dims c.args.mask)
needed c =
    c.blades-2.ensures ∙ ap (λ n. 2 ^ n) c.dims_for.ensures

pub returns-then-dims-gt-MAX_DIMS : goal.returns-then-dims-gt-MAX_DIMS
unfolding refusal
returns-then-dims-gt-MAX_DIMS c = simp (lt-ltb 9 _ c.if-dims-gt-MAX_DIMS.true)

pub returns-then-mask-ge512 : goal.returns-then-mask-ge512
unfolding refusal
returns-then-mask-ge512 c = simp (le-ltb 9 _ c.if-dims-gt-MAX_DIMS.false, le-ltb _ 512 c.if-mask-ge512.true)

pub returns-then-count-blades : goal.returns-then-count-blades
unfolding refusal
returns-then-count-blades c =
    let d = c.if-dims-gt-MAX_DIMS.false in
    let b = c.blades.ensures in
    simp (le-ltb 9 _ d, lt-ltb _ 512 c.if-mask-ge512.false, ne_eqb _ _ (λ e. c.if-count-blades.true (e ∙ sym b)))

pub blades-requires-2 : goal.blades-requires-2
blades-requires-2 c = omega (arith, c.dims_for.ensures, few (goal.at.blades-requires-2 c).Else-count-blades)

pub returns-then-room-blades : goal.returns-then-room-blades
unfolding refusal
returns-then-room-blades c =
    let h : c.args.room < 2 ^ (blade_dims (9 - c.args.dims) c.args.dims c.args.mask) = omega (arith, needed (goal.at.returns-then-room-blades c).After-blades-2) in
    simp (le-ltb 9 _ c.if-dims-gt-MAX_DIMS.false, lt-ltb _ 512 c.if-mask-ge512.false, eq-eqb _ _ (counted (goal.at.returns-then-room-blades c).Else-count-blades), lt-ltb _ _ h)

pub returns : goal.returns
unfolding refusal
returns c =
    let h : 2 ^ (blade_dims (9 - c.args.dims) c.args.dims c.args.mask) ≤ c.args.room = omega (arith, needed (goal.at.returns c).After-blades-2) in
    (simp (le-ltb 9 _ c.if-dims-gt-MAX_DIMS.false, lt-ltb _ 512 c.if-mask-ge512.false, eq-eqb _ _ (counted (goal.at.returns c).Else-count-blades), le-ltb _ _ h), refl)
