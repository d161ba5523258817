-- In the list of tests of a log the numbers rise, so that the lowest that applies is given (`refused_lowest` of masks); a replay gives 9 before 10 and 10 before 3 (RefusedLaws). Assumes nothing.
use mathlib.Core.List.{List}
use Prim.Native.Nat.{ℕ}
use lib.Dec.{T}
use Rattle.std.specs.Prelude.{Option}
use Rattle.masks.proofs.Lowest.{rises}
use Rattle.replay.specs.declared.log.Step.{Step}
use Rattle.replay.specs.Log.{log_tests}

pub log_rises : (n : ℕ) (ss : List (Option Step)) → T (rises 1 (log_tests n ss))
log_rises n ss = tt
