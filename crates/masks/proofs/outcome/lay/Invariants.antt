use mathlib.Core.Path.{◌≡◌}
use Rattle.masks.proofs.ListLaws.{front}
use Rattle.masks.proofs.outcome.lay.Given as goal

abbrev pub invariant-loop-i : goal.invariant-loop-i
invariant-loop-i g l = l.out ≡ front l.i l.items l.initial.out
