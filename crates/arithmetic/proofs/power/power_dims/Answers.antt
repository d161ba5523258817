use mathlib.Core.Path.{◌≡◌, sym, ap, ◌∙◌}
use mathlib.Core.Bool.{Bool, true, false}
use Prim.Native.Nat.{◌+◌}
use native.Mathlib.Omega.{arith}
use lib.IntN.{ℤ}
use mir.Syntax.{w32}
use mir.Val.{SFits, to_z, of_z}
use mir.ValLaws.{to_z-of_z}
use Rattle.masks.specs.declared.shape.Shape.{Shape}
use Rattle.masks.specs.Flavor.{added_dims}
use Rattle.arithmetic.specs.Power.{size_of, is_direct, power_dims}
use Rattle.arithmetic.proofs.PowerLaws.{added_le}
use Rattle.arithmetic.proofs.power.power_dims.Goals as goal

-- The test r of the power that is read back from its bits.
module _ (s : Shape) (z : ℤ) (f : SFits w32 z) (r : Bool) (e : r ≡ is_direct (size_of (to_z w32 (of_z w32 z)))) where
  tested : r ≡ is_direct (size_of z)
  tested = e ∙ ap (λ (y : ℤ). is_direct (size_of y)) (to_z-of_z w32 z f)

  kept : r ≡ true → s.dims ≡ power_dims s (size_of z)
  unfolding power_dims
  kept t = rw (sym tested ∙ t)

  grown : r ≡ false → s.dims + added_dims s.flavor ≡ power_dims s (size_of z)
  unfolding power_dims
  grown t = rw (sym tested ∙ t)

pub returns-then-is_direct : goal.returns-then-is_direct
returns-then-is_direct c = λ _. kept c.args.shape c.args.power c.ranges.power _ c.is_direct.ensures c.if-is_direct.true

pub returns : goal.returns
returns c = λ h.
    let s = c.args.shape in
    let sum : c.saturating_add.result ≡ s.dims + added_dims s.flavor = omega (arith, c.saturating_add.ensures, c.added_dims.ensures, added_le s.flavor) in
    sum ∙ grown s c.args.power c.ranges.power _ c.is_direct.ensures c.if-is_direct.false
