use mathlib.Core.Path.{◌≡◌, sym, ap, ◌∙◌}
use Prim.Native.Nat.{ℕ, ◌+◌, ◌≤◌}
use native.Mathlib.Omega.{arith}
use lib.ListN.{length}
use lib.Seq.{length-take-le}
use Rattle.masks.specs.Outcome.{laid}
use Rattle.masks.proofs.OrderLaws.{blades_le}
use Rattle.masks.proofs.ShapeLaws.{one, promoted_one, conformed_none, conformed_same, conformed_one}
use Rattle.masks.proofs.gather.conform_by.Goals.{After-blades}
use Rattle.masks.proofs.gather.conform_by.Goals as goal

-- a promotion adds one dimension
more : (up dims : ℕ) → up ≤ 1 → (up ≡ 0 → ⊥) → dims + up ≤ 9 → dims + 1 ≤ 9
more up dims few some h = omega (arith, one up few some, h)

-- what the second step rests on
module _ (c : After-blades) where
  -- the buffer has as many numbers as there are blades
  enough : c.blades.result ≤ length c.promote-2.new.out
  enough = omega (arith, c.blades.ensures, blades_le (c.args.value.dims + 1) (more c.args.up c.args.value.dims c.requires.0 c.if-up-eq0.false c.requires.1), c.promote-2.auto.out)

pub returns-then-up-eq0 : goal.returns-then-up-eq0
returns-then-up-eq0 c =
    let s = c.args in
    c.resize.ensures
    ∙ ap (λ xs. laid xs s.out.now) (conformed_none s.up s.value.dims s.new_dims s.value.numbers.now c.if-up-eq0.true)

pub returns-then-dims-new_dims : goal.returns-then-dims-new_dims
returns-then-dims-new_dims c =
    let a = c.args in
    let p = c.requires in
    let e : a.value.dims + a.up ≡ a.new_dims = omega (arith, one a.up p.0 c.if-up-eq0.false, c.if-dims-new_dims.true) in
    c.promote.ensures
    ∙ ap (λ xs. laid xs a.out.now)
    (promoted_one a.up a.value.dims a.value.numbers.now p.0 c.if-up-eq0.false ∙ sym (conformed_same a.up a.value.dims a.new_dims a.value.numbers.now p.0 e p.2 a.value.counted))

pub promote-requires-2 : goal.promote-requires-2
promote-requires-2 c = (omega (arith, more c.args.up c.args.value.dims c.requires.0 c.if-up-eq0.false c.requires.1), blades_le (c.args.value.dims + 1) (more c.args.up c.args.value.dims c.requires.0 c.if-up-eq0.false c.requires.1))

pub slice_bounds-held-end : goal.slice_bounds-held-end
slice_bounds-held-end c = enough c

pub slice_bounds-numbers-end : goal.slice_bounds-numbers-end
slice_bounds-numbers-end c = sym (length-take-le _ _ (enough (goal.at.slice_bounds-numbers-end c).After-blades))

pub invariant_of-resize : goal.invariant_of-resize
invariant_of-resize c = record {
  small = more c.args.up c.args.value.dims c.requires.0 c.if-up-eq0.false c.requires.1;
  counted = length-take-le _ _ (enough (goal.at.invariant_of-resize c).After-blades) ∙ c.blades.ensures;
}

pub returns : goal.returns
returns c =
    let a = c.args in
    c.resize-2.ensures
    ∙ ap (λ xs. laid xs a.out.now)
    (conformed_one a.up a.value.dims a.new_dims _ a.value.numbers.now _ _ c.requires.0 c.if-up-eq0.false c.blades.ensures c.promote-2.ensures)
