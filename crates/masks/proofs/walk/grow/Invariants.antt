use mathlib.Core.List.{map}
use Prim.Native.Nat.{◌-◌, ◌^◌}
use lib.Ieee.{nan}
use Rattle.masks.specs.Order.{order}
use Rattle.masks.specs.Shape.{coef}
use Rattle.masks.proofs.EndsLaws.{Filled}
use Rattle.masks.proofs.WalkLaws.{Walking}
use Rattle.masks.proofs.walk.grow.Given as goal

abbrev pub invariant-loop-k : goal.invariant-loop-k
invariant-loop-k l = Walking l.dims l.n l.last l.low l.k l.x l.i l.end × Filled nan (map (coef l.dims l.numbers) (order l.n)) l.initial.out l.out l.k (2 ^ l.n - l.k)
