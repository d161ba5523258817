use mathlib.Core.Path.{◌≡◌}
use mathlib.Core.List.{map}
use Rattle.masks.proofs.ListLaws.{front}
use Rattle.sheets.specs.inner.Items.{Makes}
use Rattle.sheets.proofs.bytes.put_made.Given as goal

abbrev pub invariant-loop-i : goal.invariant-loop-i
invariant-loop-i g l =
    (h : g.row.A.Denot → g.row.B.Denot) → Makes (goal.F-post g l.f) h l.items → l.out ≡ front l.i (map h l.items) l.initial.out
