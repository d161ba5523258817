use mathlib.Core.Path.{◌≡◌}
use mathlib.Core.List.{List}
use Prim.Native.Nat.{ℕ}
use lib.ListN.{length, take}
use lib.Seq.{sets}
use Rattle.sheets.specs.Bytes.{all_bytes}
use Rattle.sheets.specs.inner.Items.{Makes}
use Rattle.sheets.proofs.bytes.put_bytes.Given as goal

abbrev pub invariant-loop-i : goal.invariant-loop-i
invariant-loop-i g l =
    (h : g.row.A.Denot → List ℕ) → Makes (goal.F-post g l.f) h l.items → ((x : g.row.A.Denot) → length (h x) ≡ 8)
    → l.out ≡ sets l.initial.out l.at (all_bytes (λ x. take l.width (h x)) (take l.i l.items))
