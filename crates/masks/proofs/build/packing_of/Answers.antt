use mathlib.Core.Path.{◌≡◌, sym, ◌∙◌}
use Prim.Native.Nat.{◌*◌, ◌^◌}
use native.Mathlib.Omega.{arith}
use Rattle.masks.specs.Build.{odd_of}
use Rattle.masks.proofs.BuildLaws.{packing_full, packing_half, packing_even, packing_odd}
use Rattle.masks.proofs.build.packing_of.Goals.{Joined-else-n-total-2, else-n-total-2-via-then-n-total-2+else-n-total-3, else-n-total-2-via-else-n-total-2}
use Rattle.masks.proofs.build.packing_of.Goals as goal

-- past both tests the numbers are neither a full set nor a half set
neither : (c : Joined-else-n-total-2) → ((c.args.n ≡ 2 ^ c.args.dims → ⊥) × (2 * c.args.n ≡ 2 ^ c.args.dims → ⊥))
neither c =
    elim c.else-n-total-2.branch [
      | else-n-total-2-via-then-n-total-2+else-n-total-3 w ↦ (omega arith, omega arith)
      | else-n-total-2-via-else-n-total-2 w ↦ (omega arith, omega arith)
    ]

pub returns-then-n-total : goal.returns-then-n-total
returns-then-n-total c = let a = c.args in sym (packing_full (odd_of a.parity) a.dims a.n (omega arith))

pub returns-then-n-total-3 : goal.returns-then-n-total-3
returns-then-n-total-3 c =
    let a = c.args in
    sym (packing_half (odd_of a.parity) a.dims a.n (omega arith) (omega arith))

pub returns-in-Even : goal.returns-in-Even
returns-in-Even c =
    let a = c.args in
    let n = neither (goal.at.returns-in-Even c).Joined-else-n-total-2 in
    rw c.in-Even.is (c.first_grade.ensures ∙ sym (packing_even a.dims a.n n.0 n.1))

pub returns-in-Odd : goal.returns-in-Odd
returns-in-Odd c =
    let a = c.args in
    let n = neither (goal.at.returns-in-Odd c).Joined-else-n-total-2 in
    rw c.in-Odd.is (c.first_grade-in-Odd.ensures ∙ sym (packing_odd a.dims a.n n.0 n.1))
