use mathlib.Core.Path.{◌∙◌}
use Prim.Native.Nat.{◌<◌, min}
use native.Mathlib.Omega.{arith}
use lib.ListN.{length, length-take}
use lib.Seq.{get_or-take}
use Rattle.masks.proofs.ListLaws.{front_step}
use Rattle.masks.proofs.outcome.lay.Goals as goal

pub loop-i-preserved : goal.loop-i-preserved
loop-i-preserved g c =
    let xs = c.args.items.now in
    let i = c.loop-i.i in
    let x = c.item-item.result in
    let h : i < min c.min-count.result (length xs) = omega (arith, length-take c.min-count.result xs, c.loop-i-test.true) in
    rw c.loop-i.invariant (front_step i xs x c.args.out.now x (c.item-item.is ∙ get_or-take c.min-count.result xs i x (omega arith)) (omega arith) (omega (arith, c.min-count.ensures)))
