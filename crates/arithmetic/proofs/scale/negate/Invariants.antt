use mathlib.Core.Path.{◌≡◌}
use mathlib.Core.List.{◌++◌, map}
use lib.Ieee.{neg}
use lib.ListN.{take, drop}
use Rattle.arithmetic.proofs.scale.negate.Given as goal

abbrev pub invariant-loop-x : goal.invariant-loop-x
invariant-loop-x l = l.xs ≡ map neg (take l.x-index l.initial.xs) ++ drop l.x-index l.initial.xs
