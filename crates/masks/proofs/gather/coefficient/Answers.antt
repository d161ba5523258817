use mathlib.Core.Path.{sym, ap, ◌∙◌}
use Prim.Native.Nat.{◌^◌, ◌<◌}
use native.Mathlib.Omega.{arith}
use lib.Ieee.{nan, of_bits, of_fields}
use lib.ListN.{get_or}
use Rattle.masks.proofs.OrderLaws.{blades_le, place_lt}
use Rattle.masks.proofs.ShapeLaws.{coef_inside, coef_outside}
use Rattle.masks.proofs.gather.coefficient.Goals.{After-place_of-p}
use Rattle.masks.proofs.gather.coefficient.Goals as goal

low : (c : After-place_of-p) → c.place_of-p.result < 2 ^ c.args.value.dims
low c =
    let a = c.args in
    omega (arith, c.place_of-p.ensures, place_lt a.value.dims a.mask (omega (arith, c.if-mask-blades.true, c.blades.ensures)))

pub offset_bounds-value-p : goal.offset_bounds-value-p
offset_bounds-value-p c = omega (arith, low c, blades_le c.args.value.dims c.args.value.small)

pub bounds-value-p : goal.bounds-value-p
bounds-value-p c = omega (arith, low (goal.at.bounds-value-p c).After-place_of-p, c.args.value.counted)

pub returns-then-mask-blades : goal.returns-then-mask-blades
returns-then-mask-blades c =
    let a = c.args in
    ap (λ k. get_or a.value.numbers.now k nan) c.place_of-p.ensures
    ∙ sym (coef_inside a.value.dims a.mask a.value.numbers.now (omega (arith, c.if-mask-blades.true, c.blades.ensures)))

pub returns-else-mask-blades : goal.returns-else-mask-blades
unfolding of_bits of_fields
returns-else-mask-blades c =
    let a = c.args in
    sym (coef_outside a.value.dims a.mask a.value.numbers.now (omega (arith, c.blades.ensures)))
