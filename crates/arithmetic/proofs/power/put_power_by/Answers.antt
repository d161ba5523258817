use mathlib.Core.Path.{◌≡◌, ◌∙◌}
use mathlib.Core.Bool.{true, false}
use mathlib.Core.List.{List}
use Prim.Native.Nat.{ℕ, ◌^◌, ◌≤◌}
use native.Mathlib.Omega.{arith}
use lib.Ieee.{Float}
use lib.IntN.{ℤ}
use lib.ListN.{length}
use Rattle.masks.specs.declared.shape.Shape.{Shape}
use Rattle.masks.specs.Outcome.{laid}
use Rattle.masks.proofs.OrderLaws.{blades_le}
use Rattle.arithmetic.specs.Inverse.{inverse_of}
use Rattle.arithmetic.specs.Power.{is_negative, size_of, power_dims, raised_to, power_of}
use Rattle.arithmetic.proofs.PowerLaws.{size_read, from_zero}
use Rattle.arithmetic.proofs.power.put_power_by.Goals.{After-unsigned_abs-n}
use Rattle.arithmetic.proofs.power.put_power_by.Goals as goal

module _ (s : Shape) (z : ℤ) (a out after : List Float) (n : ℕ) (e : n ≡ size_of z) where
  raised_up : is_negative z ≡ false → after ≡ laid (raised_to s n a) out → after ≡ laid (power_of s z a) out
  unfolding power_of
  raised_up t q = q ∙ rw (t, e)

  raised_down : is_negative z ≡ true → after ≡ laid (raised_to s n (inverse_of s a)) out → after ≡ laid (power_of s z a) out
  unfolding power_of
  raised_down t q = q ∙ rw (t, e)

-- The size that is worked out.
size : (c : After-unsigned_abs-n) → c.unsigned_abs-n.result ≡ size_of c.args.power
size c = size_read c.args.power c.ranges.power _ c.unsigned_abs-n.ensures.value

pub raise_inverse-requires-else-value-le64-clause-room : goal.raise_inverse-requires-else-value-le64-clause-room
raise_inverse-requires-else-value-le64-clause-room c =
    let fits : 2 ^ power_dims c.args.value.shape c.unsigned_abs-n.result ≤ length c.args.out.now = rw (size (goal.at.raise_inverse-requires-else-value-le64-clause-room c).After-unsigned_abs-n) c.requires.room in
    (omega (arith, c.args.value.counted, blades_le _ c.args.value.small), fits, omega arith)

pub returns-then-power-ge0 : goal.returns-then-power-ge0
returns-then-power-ge0 c =
    let a = c.args in
    raised_up a.value.shape a.power a.value.numbers.now a.out.now _ _ (size (goal.at.returns-then-power-ge0 c).After-unsigned_abs-n) (from_zero a.power c.ranges.power true c.if-power-ge0.true) c.raise.ensures

pub returns-then-value-le64 : goal.returns-then-value-le64
returns-then-value-le64 c =
    let a = c.args in
    raised_down a.value.shape a.power a.value.numbers.now a.out.now _ _ (size (goal.at.returns-then-value-le64 c).After-unsigned_abs-n) (from_zero a.power c.ranges.power false c.if-power-ge0.false) c.raise_inverse.ensures

pub returns-else-value-le64 : goal.returns-else-value-le64
returns-else-value-le64 c =
    let a = c.args in
    raised_down a.value.shape a.power a.value.numbers.now a.out.now _ _ (size (goal.at.returns-else-value-le64 c).After-unsigned_abs-n) (from_zero a.power c.ranges.power false c.if-power-ge0.false) c.raise_inverse-else-value-le64.ensures
