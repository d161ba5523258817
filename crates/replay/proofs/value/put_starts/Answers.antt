use mathlib.Core.Path.{◌≡◌, refl, ◌∙◌}
use mathlib.Core.Logic.{⊎_elim}
use mathlib.Core.List.{List}
use Prim.Native.Nat.{ℕ, ◌+◌, ◌≤◌, ◌<◌}
use native.Mathlib.Omega.{arith}
use lib.ListN.{length, set, take}
use lib.Seq.{length-take-le, get_or-set_same, get_or-set_other}
use Rattle.masks.specs.declared.shape.Shape.{Shape}
use Rattle.masks.proofs.ListLaws.{split}
use Rattle.masks.proofs.OrderLaws.{blades_le, none_counted}
use Rattle.sheets.specs.Format.{blade_total}
use Rattle.sheets.specs.Values.{start_of}
use Rattle.sheets.proofs.FormatLaws.{above_take, dims_at, blade_total-le}
use Rattle.sheets.proofs.ValuesLaws.{start_next}
use Rattle.replay.proofs.value.put_starts.Invariants.{Written}
use Rattle.replay.proofs.value.put_starts.Goals as goal

-- start i written at i, one more is written
one_more : (ss : List Shape) (i sum : ℕ) (starts : List ℕ) → i < length starts → sum ≡ start_of ss i → Written ss i starts → Written ss (i + 1) (set starts i sum)
one_more ss i sum starts l e h k g =
    ⊎_elim (λ (b : k < i). get_or-set_other starts i k sum 0 (λ q. omega arith) ∙ h k b)
    (λ (b : i ≤ k). let q : k ≡ i = omega arith in rw q (get_or-set_same starts i sum 0 l ∙ e))
    (split k i)

pub loop-i-init : goal.loop-i-init
unfolding blade_total
loop-i-init c = (refl, λ k h. absurd (omega arith))

pub overflow_add-sum : goal.overflow_add-sum
overflow_add-sum c =
    let ss = c.args.shapes.now in
    let i = c.loop-i.i in
    let small = dims_at i ss (omega arith) c.requires.1 in
    omega (arith, c.loop-i.invariant.0, blade_total-le (take i ss) (above_take i ss c.requires.1), length-take-le i ss (omega arith), none_counted c.blades_or_none-sum.ensures small, blades_le _ small)

pub loop-i-preserved : goal.loop-i-preserved
loop-i-preserved c =
    let ss = c.args.shapes.now in
    let l = c.loop-i in
    let small = dims_at l.i ss (omega arith) c.requires.1 in (
      omega (arith, l.invariant.0, start_next ss l.i (omega arith), none_counted c.blades_or_none-sum.ensures small),
      one_more ss l.i l.sum l.starts (omega arith) l.invariant.0 l.invariant.1,
    )

pub returns : goal.returns
returns c i h = c.loop-i.invariant.1 i (omega arith)
