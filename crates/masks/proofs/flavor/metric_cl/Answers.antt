use Prim.Native.Nat.{◌+◌}
use native.Mathlib.Omega.{arith}
use borrow.Author.Tests.{lt-ltb, le-ltb}
use Rattle.masks.specs.Flavor.{metric_of, metric_value}
use Rattle.masks.proofs.flavor.metric_cl.Goals as goal

pub returns-then-index-z : goal.returns-then-index-z
unfolding metric_of metric_value
returns-then-index-z c = simp (lt-ltb _ _ c.if-index-z.true)

pub returns-then-index-z-2 : goal.returns-then-index-z-2
unfolding metric_of metric_value
returns-then-index-z-2 c =
    let a = c.args in
    simp (le-ltb _ _ c.if-index-z.false, lt-ltb a.index (a.z + a.n) (omega arith))

pub returns : goal.returns
unfolding metric_of metric_value
returns c =
    let a = c.args in
    simp (le-ltb _ _ c.if-index-z.false, le-ltb a.index (a.z + a.n) (omega arith))
