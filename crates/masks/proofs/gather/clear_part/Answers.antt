use mathlib.Core.Path.{◌≡◌, ap, ◌∙◌}
use native.Mathlib.Omega.{arith}
use Prim.Native.Nat.{◌+◌, ◌-◌}
use lib.Ieee.{of_bits, of_fields}
use lib.ListN.{length, take, drop, replicate, length-replicate, length-drop}
use lib.Seq.{length-take-le}
use Rattle.masks.specs.Outcome.{nought}
use Rattle.masks.proofs.ListLaws.{sets_part}
use Rattle.masks.proofs.gather.clear_part.Goals as goal

pub returns : goal.returns
unfolding of_bits of_fields
returns c =
    let a = c.args in
    let n : length (take (a.at + a.count - a.at) (drop a.at a.out.now)) ≡ a.count = omega (arith, length-take-le (a.at + a.count - a.at) (drop a.at a.out.now) (omega (arith, length-drop a.at a.out.now))) in
    sets_part a.at a.count a.out.now _ (replicate a.count nought) (c.fill.ensures.after (λ y h. h) ∙ ap (λ k. replicate k nought) n)
    (length-replicate a.count nought) (omega arith)
