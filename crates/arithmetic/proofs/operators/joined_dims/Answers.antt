use mathlib.Core.Path.{◌≡◌, ap₂, ◌∙◌}
use mathlib.Core.Bool.{cond}
use Prim.Native.Nat.{◌+◌, ◌≤◌, max}
use native.Mathlib.Omega.{arith}
use Rattle.masks.specs.Shape.{promotes}
use Rattle.masks.proofs.ShapeLaws.{promotes_le}
use Rattle.arithmetic.proofs.operators.joined_dims.Goals.{After-max, then-other, else-other}
use Rattle.arithmetic.proofs.operators.joined_dims.Goals as goal

-- The right side's dimensions, promoted where it says so.
right : (c : After-max) → let a = c.args in a.right.dims ≤ 9 → c.if-other.up_right ≡ a.right.dims + cond a.other (promotes a.right.flavor a.left.flavor) 0
right c h =
    let a = c.args in
    let le = promotes_le a.right.flavor a.left.flavor in
    elim c.if-other.branch [
      | then-other w ↦ rw w.if-other.true (omega (arith, le, w.up_right-is, w.saturating_add-up_right.ensures, w.promotion-then-other.ensures))
      | else-other w ↦ rw w.if-other.false (omega (arith, w.up_right-is))
    ]

pub returns : goal.returns
returns c h k =
    let a = c.args in
    let up : c.saturating_add-up.result ≡ a.left.dims + promotes a.left.flavor a.right.flavor =
    omega (arith, c.saturating_add-up.ensures, c.promotion.ensures, promotes_le a.left.flavor a.right.flavor) in
    c.max.ensures ∙ ap₂ max up (right c k)
