use mathlib.Core.Path.{◌≡◌}
use mathlib.Core.List.{List}
use Prim.Native.Nat.{ℕ, ◌<◌}
use lib.ListN.{get_or}
use Rattle.masks.specs.declared.shape.Shape.{Shape}
use Rattle.sheets.specs.Values.{start_of}
use Rattle.replay.proofs.value.put_starts.Given as goal

-- the first i starts are written
abbrev pub Written : List Shape → ℕ → List ℕ → Type 0
Written ss i starts = (k : ℕ) → k < i → get_or starts k 0 ≡ start_of ss k

abbrev pub invariant-loop-i : goal.invariant-loop-i
invariant-loop-i l = (l.sum ≡ start_of l.shapes l.i) × Written l.shapes l.i l.starts
