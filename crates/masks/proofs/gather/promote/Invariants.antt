use mathlib.Core.Path.{◌≡◌}
use mathlib.Core.List.{map}
use Prim.Native.Nat.{◌+◌}
use Rattle.masks.specs.Order.{grades_below, size, start}
use Rattle.masks.specs.Outcome.{laid}
use Rattle.masks.specs.Shape.{promoted_coef}
use Rattle.masks.proofs.gather.promote.Given as goal

abbrev pub invariant-loop-g : goal.invariant-loop-g
invariant-loop-g l = (l.below ≡ size l.dims l.g) × (l.i ≡ start l.dims (l.g + 1)) × (l.k ≡ start (l.dims + 1) (l.g + 1)) × (l.out ≡ laid (map (promoted_coef l.dims l.numbers) (grades_below (l.dims + 1) (l.g + 1))) l.initial.out)
