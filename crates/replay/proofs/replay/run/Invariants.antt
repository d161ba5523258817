use mathlib.Core.Path.{◌≡◌}
use lib.ListN.{length}
use Rattle.sheets.specs.Read.{said}
use Rattle.replay.specs.Log.{steps_of}
use Rattle.replay.proofs.RunLaws.{Posed}
use Rattle.replay.proofs.replay.run.Given as goal

abbrev pub invariant-loop-steps : goal.invariant-loop-steps
invariant-loop-steps l = Posed (said l.sheet) (steps_of l.fn.log) l.shape l.pose l.steps × (length l.next ≡ 512) × (length l.held ≡ 512) × (l.out ≡ l.initial.out)
