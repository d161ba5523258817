use mathlib.Core.List.{map}
use lib.Ieee.{nan}
use Rattle.masks.specs.Order.{order}
use Rattle.masks.specs.Shape.{coef}
use Rattle.masks.proofs.EndsLaws.{Filled}
use Rattle.masks.proofs.WalkLaws.{Walking}
use Rattle.masks.proofs.walk.shrink.Given as goal

abbrev pub invariant-loop-k : goal.invariant-loop-k
invariant-loop-k l = Walking l.dims l.n l.last l.low l.k l.x l.at l.end × Filled nan (map (coef l.n l.numbers) (order l.dims)) l.initial.out l.out l.at l.end
