use mathlib.Core.Path.{◌≡◌}
use Prim.Native.Nat.{ℕ, ◌+◌, ◌^◌, ◌≤◌}
use native.Mathlib.Omega.{arith}
use lib.Pow.{pow_mono}
use Rattle.masks.specs.declared.shape.Shape.{Shape}
use Rattle.masks.specs.Shape.{meeting_dims}
use Rattle.masks.proofs.OrderLaws.{blades_le}
use Rattle.masks.proofs.ShapeLaws.{promotes_le}
use Rattle.arithmetic.proofs.dual.regressive_by.Goals as goal

-- A value of at most d dimensions has at most 2^d numbers.
counted_le : (n m d : ℕ) → n ≡ 2 ^ m → m ≤ d → n ≤ 2 ^ d
counted_le n m d e l = omega (arith, e, pow_mono {i = m} {j = d} l)

-- Two values of at most d dimensions meet in at most one more.
meeting_le : (s t : Shape) (d : ℕ) → s.dims ≤ d → t.dims ≤ d → 2 ^ meeting_dims s t ≤ 2 ^ (d + 1)
meeting_le s t d l r = pow_mono {i = meeting_dims s t} {j = d + 1} (omega (arith, promotes_le s.flavor t.flavor, promotes_le t.flavor s.flavor))

pub regressive_in-requires-clause-room : goal.regressive_in-requires-clause-room
regressive_in-requires-clause-room c =
    let v = c.args.left.now in
    let w = c.args.right.now in
    let l : v.shape.dims ≤ 3 = omega (arith, c.if-left-lt4.true) in
    let r : w.shape.dims ≤ 3 = omega (arith, c.if-right-lt4.true) in
    (counted_le _ _ 3 v.counted l, counted_le _ _ 3 w.counted r, meeting_le v.shape w.shape 3 l r, omega arith, omega arith)

pub regressive_in-requires-then-right-lt6-clause-room : goal.regressive_in-requires-then-right-lt6-clause-room
regressive_in-requires-then-right-lt6-clause-room c =
    let v = c.args.left.now in
    let w = c.args.right.now in
    let l : v.shape.dims ≤ 5 = omega (arith, c.if-left-lt6.true) in
    let r : w.shape.dims ≤ 5 = omega (arith, c.if-right-lt6.true) in
    (counted_le _ _ 5 v.counted l, counted_le _ _ 5 w.counted r, meeting_le v.shape w.shape 5 l r, omega arith, omega arith)

pub regressive_in-requires-2-clause-room : goal.regressive_in-requires-2-clause-room
regressive_in-requires-2-clause-room c =
    let a = c.args in (
      omega (arith, a.left.now.counted, blades_le a.left.now.shape.dims a.left.now.small),
      omega (arith, a.right.now.counted, blades_le a.right.now.shape.dims a.right.now.small),
      omega (arith, blades_le (meeting_dims a.left.now.shape a.right.now.shape) c.requires.meeting.0),
      omega arith,
      omega arith,
    )
