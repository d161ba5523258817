use mathlib.Core.Path.{refl, ap, ◌∙◌}
use Prim.Native.Nat.{ℕ}
use native.Mathlib.Omega.{arith}
use lib.ListN.{take}
use Rattle.masks.specs.Outcome.{laid}
use Rattle.masks.proofs.OrderLaws.{blades_le, none_counted}
use Rattle.replay.proofs.replay.finish.Goals as goal

pub put_first-requires : goal.put_first-requires
put_first-requires c =
    let n = none_counted c.blades_or_none.ensures c.requires.0 in
    let l = blades_le _ c.requires.0 in
    (omega (arith, n, l), omega (arith, n, l))

pub returns : goal.returns
returns c =
    (refl, c.put_first.ensures ∙ ap (λ (k : ℕ). laid (take k c.args.pose.now) c.args.out.now) (none_counted c.blades_or_none.ensures c.requires.0))
