use mathlib.Core.Path.{◌≡◌, sym, ap, ◌∙◌}
use mathlib.Core.List.{List, map}
use Prim.Native.Nat.{ℕ, ◌-◌, ◌^◌, ◌≤◌, ◌<◌}
use native.Mathlib.Omega.{arith}
use lib.Ieee.{Float}
use lib.ListN.{length}
use lib.Pow.{pow_pos}
use lib.Seq.{set_split, length-take-le}
use Rattle.masks.specs.Order.{order}
use Rattle.masks.specs.Outcome.{laid}
use Rattle.masks.specs.Shape.{coef}
use Rattle.masks.specs.Build.{odd_of}
use Rattle.masks.specs.Unpack.{choose, half_masks}
use Rattle.masks.proofs.OrderLaws.{blades_le}
use Rattle.masks.proofs.UnpackLaws.{lone_mask, half_masks_lem, half_held}
use Rattle.masks.proofs.unpack.half.Goals as goal

-- one number is written
room : (d n : ℕ) → 2 ^ (d - 1) ≤ n → 0 < n
room d n h = omega (arith, pow_pos (d - 1))

-- the buffer has as many numbers as there are blades
enough : (d count : ℕ) (held : List Float) → d ≤ 9 → count ≡ 2 ^ d → length held ≡ 512 → count ≤ length held
enough d count held h c l = omega (arith, blades_le d h)

-- there are some dimensions
chosen : (odd lone dims d : ℕ) (a out : List Float) → (d ≡ 0 → ⊥) → laid (map (coef dims a) (choose odd (order d))) out ≡ laid (map (coef dims a) (half_masks odd lone d)) out
chosen odd lone dims d a out h = rw (half_masks_lem odd lone d h)

pub returns-then-d-eq0 : goal.returns-then-d-eq0
returns-then-d-eq0 c =
    set_split c.args.out.now 0 c.coefficient.result (room c.args.d _ c.requires.1)
    ∙ rw (c.coefficient.ensures, lone_mask (odd_of c.args.parity) c.args.lone c.args.d c.if-d-eq0.true)

pub returns-then-d-value : goal.returns-then-d-value
returns-then-d-value c =
    let a = c.args in
    c.take_half.ensures
    ∙ ap (λ n. laid (map (coef a.value.dims a.value.numbers.now) (choose (odd_of a.parity) (order n))) a.out.now) (sym c.if-d-value.true)
    ∙ chosen (odd_of a.parity) a.lone a.value.dims a.d a.value.numbers.now a.out.now c.if-d-eq0.false

pub read_all-requires : goal.read_all-requires
read_all-requires c = (c.requires.0, blades_le c.args.d c.requires.0)

pub slice_bounds-held-end : goal.slice_bounds-held-end
slice_bounds-held-end c = enough c.args.d _ _ c.requires.0 c.blades.ensures c.read_all.auto.out

pub slice_bounds-numbers-end : goal.slice_bounds-numbers-end
slice_bounds-numbers-end c = sym (length-take-le _ _ (enough c.args.d _ _ c.requires.0 c.blades.ensures c.read_all.auto.out))

pub invariant_of-take_half : goal.invariant_of-take_half
invariant_of-take_half c = record {
  small = c.requires.0;
  counted = length-take-le _ _ (enough c.args.d _ _ c.requires.0 c.blades.ensures c.read_all.auto.out) ∙ c.blades.ensures;
}

pub returns : goal.returns
returns c =
    let a = c.args in
    c.take_half-2.ensures
    ∙ ap (λ xs. laid xs a.out.now) (half_held (odd_of a.parity) a.value.dims a.d _ a.value.numbers.now _ _ c.blades.ensures c.read_all.ensures)
    ∙ chosen (odd_of a.parity) a.lone a.value.dims a.d a.value.numbers.now a.out.now c.if-d-eq0.false
