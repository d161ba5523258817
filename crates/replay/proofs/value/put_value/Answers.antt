use mathlib.Core.Path.{◌≡◌, ap, ◌∙◌}
use Prim.Native.Nat.{ℕ, ◌+◌, ◌-◌, ◌*◌}
use native.Mathlib.Omega.{arith}
use lib.Ieee.{Float}
use lib.ListN.{length, take, drop, length-drop}
use Rattle.masks.specs.Outcome.{Written, laid}
use Rattle.sheets.specs.Patterns.{numbers_in}
use Rattle.replay.proofs.ValueLaws.{part_numbers}
use Rattle.replay.proofs.value.put_value.Goals as goal

pub returns : goal.returns
returns c =
    let a = c.args in
    let out = a.out.now in
    let at = 6 + 5 * a.count + 8 * a.start in
    let b = drop at a.sheet.now in
    let m : at + 8 * a.n - at ≡ 8 * a.n = omega arith in
    c.numbers_in.ensures.left
    ∙ ap (λ (k : ℕ). laid (numbers_in (take k b) (length out)).items out) m
    ∙ ap (λ (o : Written Float). laid o.items out) (part_numbers b a.n (length out) (omega (arith, length-drop at a.sheet.now)) (omega arith))
