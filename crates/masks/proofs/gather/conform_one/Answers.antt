use mathlib.Core.Path.{◌≡◌, sym, ap, ◌∙◌}
use Prim.Native.Nat.{◌+◌, ◌^◌}
use native.Mathlib.Omega.{arith}
use Rattle.masks.specs.Outcome.{laid}
use Rattle.masks.proofs.ShapeLaws.{promoted_none, conformed_same}
use Rattle.masks.proofs.gather.conform_one.Goals as goal

pub copy_all-requires : goal.copy_all-requires
copy_all-requires c = omega (arith, c.args.value.counted, c.requires.3, ap (λ d. 2 ^ d) c.if-value-new_dims.true)

pub returns-then-value-new_dims : goal.returns-then-value-new_dims
returns-then-value-new_dims c =
    let a = c.args in
    let p = c.requires in
    let z : a.up ≡ 0 = c.if-up-eq0.true in
    let e : a.value.dims + a.up ≡ a.new_dims = omega (arith, z, c.if-value-new_dims.true) in
    c.copy_all.ensures
    ∙ ap (λ xs. laid xs a.out.now)
    (sym (conformed_same a.up a.value.dims a.new_dims a.value.numbers.now p.0 e p.2 a.value.counted ∙ promoted_none a.up a.value.dims a.value.numbers.now z))
