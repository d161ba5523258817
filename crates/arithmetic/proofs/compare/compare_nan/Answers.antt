use mathlib.Core.Path.{◌≡◌, refl}
use mathlib.Core.Bool.{Bool, true, false, cond}
use lib.Ieee.{is_nan}
use Rattle.std.specs.Ordering.{bool_cmp}
use Rattle.std.specs.declared.cmp.Ordering.TheVariants.{Less, Equal, Greater}
use Rattle.arithmetic.specs.Compare.{compared_nans}
use Rattle.arithmetic.proofs.compare.compare_nan.Goals as goal

by_cases : (a b : Bool) → bool_cmp a b ≡ cond a (cond b Equal Greater) (cond b Less Equal)
by_cases true true = refl
by_cases true false = refl
by_cases false true = refl
by_cases false false = refl

pub returns : goal.returns
unfolding compared_nans
returns c = rw (c.cmp.ensures, c.is_nan.ensures.value, c.is_nan-2.ensures.value) (by_cases (is_nan c.args.x) (is_nan c.args.y))
