use mathlib.Core.Path.{◌≡◌}
use mathlib.Core.List.{map}
use Rattle.masks.specs.Order.{grades_below, start}
use Rattle.masks.specs.Outcome.{laid}
use Rattle.masks.specs.Shape.{coef}
use Rattle.masks.specs.Build.{odd_of}
use Rattle.masks.specs.Unpack.{choose}
use Rattle.masks.proofs.BuildLaws.{counted}
use Rattle.masks.proofs.unpack.take_half.Given as goal

abbrev pub invariant-loop-g : goal.invariant-loop-g
invariant-loop-g l = record {
  passed : l.i ≡ start l.dims l.g;
  put : l.k ≡ counted (odd_of l.parity) l.dims l.g;
  filled : l.out ≡ laid (map (coef l.dims l.numbers) (choose (odd_of l.parity) (grades_below l.dims l.g))) l.initial.out;
}
