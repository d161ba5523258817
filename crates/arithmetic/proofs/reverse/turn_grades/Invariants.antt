use mathlib.Core.Path.{◌≡◌}
use mathlib.Core.Bool.{Bool, cond}
use mathlib.Core.List.{List}
use Prim.Native.Nat.{ℕ, ◌^◌, ◌≤◌}
use lib.Ieee.{Float}
use lib.ListN.{take}
use Rattle.masks.specs.Order.{start}
use Rattle.masks.proofs.ListLaws.{front}
use Rattle.product.specs.Reverse.{reversed}
use Rattle.arithmetic.specs.Reverse.{inv_reversed}
use Rattle.arithmetic.proofs.reverse.turn_grades.Given as goal

-- What is to stand at the front.
abbrev pub turned : Bool → ℕ → List Float → List Float
turned rest d xs = cond rest (inv_reversed d (take (2 ^ d) xs)) (reversed d (take (2 ^ d) xs))

abbrev pub invariant-loop-g : goal.invariant-loop-g
invariant-loop-g l = (l.first ≡ start l.dims l.g) × (l.first ≤ 2 ^ l.dims) × (l.out ≡ front l.first (turned l.rest l.dims l.initial.out) l.initial.out)
