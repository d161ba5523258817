use mathlib.Core.Path.{◌≡◌}
use Rattle.masks.specs.Order.{grades_below, start}
use Rattle.masks.specs.Outcome.{laid}
use Rattle.masks.specs.Build.{odd_of, spread}
use Rattle.masks.proofs.BuildLaws.{counted}
use Rattle.masks.proofs.build.fill_half.Given as goal

abbrev pub invariant-loop-g : goal.invariant-loop-g
invariant-loop-g l = record {
  taken : l.i ≡ counted (odd_of l.parity) l.dims l.g;
  passed : l.k ≡ start l.dims l.g;
  filled : l.out ≡ laid (spread (odd_of l.parity) (grades_below l.dims l.g) l.v) l.initial.out;
}
