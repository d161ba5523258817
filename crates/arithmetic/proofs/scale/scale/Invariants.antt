use mathlib.Core.Path.{◌≡◌}
use mathlib.Core.List.{◌++◌, map}
use lib.Ieee.{Float, binary64, mul}
use lib.ListN.{take, drop}
use Rattle.arithmetic.proofs.scale.scale.Given as goal

abbrev times : Float → Float → Float
times f x = mul binary64 x f

abbrev pub invariant-loop-x : goal.invariant-loop-x
invariant-loop-x l = l.xs ≡ map (times l.f) (take l.x-index l.initial.xs) ++ drop l.x-index l.initial.xs
