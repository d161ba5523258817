use native.Mathlib.Omega.{arith}
use lib.Ieee.{Float, binary64, mul, of_bits, of_fields}
use Rattle.arithmetic.specs.Scale.{scaled}
use Rattle.arithmetic.proofs.KeptLaws.{changed_next, changed_all}
use Rattle.arithmetic.proofs.scale.scale.Goals as goal

abbrev times : Float → Float → Float
times f x = mul binary64 x f

pub returns-then-f : goal.returns-then-f
unfolding scaled of_bits of_fields
returns-then-f c = rw c.if-f.true

pub loop-x-preserved : goal.loop-x-preserved
loop-x-preserved c = let l = c.loop-x in changed_next (times c.args.f) c.args.xs.now l.xs l.x-index (omega arith) l.auto.xs l.invariant

pub returns : goal.returns
unfolding scaled of_bits of_fields
returns c = let l = c.loop-x in rw c.if-f.false (changed_all (times c.args.f) c.args.xs.now l.xs l.x-index (omega arith) l.invariant)
