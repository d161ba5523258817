use mathlib.Core.Path.{◌≡◌}
use Prim.Native.Nat.{ℕ}
use borrow.Author.Tests.{eq-eqb, ne_eqb}
use lib.Dec.{eqb}
use Rattle.arithmetic.specs.Power.{is_direct}
use Rattle.arithmetic.proofs.PowerLaws.{size_read}
use Rattle.arithmetic.proofs.power.is_direct.Goals as goal

module _ (n m : ℕ) (e : n ≡ m) where
  direct_one : n ≡ 1 → eqb n 1 ≡ is_direct m
  unfolding is_direct
  direct_one h = rw (← e, eq-eqb n 1 h)

  direct_two : (n ≡ 1 → ⊥) → eqb n 2 ≡ is_direct m
  unfolding is_direct
  direct_two h = rw (← e, ne_eqb n 1 h)

pub returns-then-size-eq1 : goal.returns-then-size-eq1
returns-then-size-eq1 c = direct_one _ _ (size_read c.args.power c.ranges.power _ c.unsigned_abs-size.ensures.value) c.if-size-eq1.true

pub returns-else-size-eq1 : goal.returns-else-size-eq1
returns-else-size-eq1 c = direct_two _ _ (size_read c.args.power c.ranges.power _ c.unsigned_abs-size.ensures.value) c.if-size-eq1.false
