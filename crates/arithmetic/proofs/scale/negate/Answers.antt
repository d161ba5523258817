use native.Mathlib.Omega.{arith}
use lib.Ieee.{neg}
use Rattle.arithmetic.proofs.KeptLaws.{changed_next}
use Rattle.arithmetic.proofs.scale.negate.Goals as goal

pub loop-x-preserved : goal.loop-x-preserved
loop-x-preserved c = let l = c.loop-x in changed_next neg c.args.xs.now l.xs l.x-index (omega arith) l.auto.xs l.invariant
