use mathlib.Core.Path.{◌≡◌, ap, ◌∙◌}
use Prim.Native.Nat.{◌+◌, ◌-◌}
use native.Mathlib.Omega.{arith}
use lib.ListN.{take, drop, length-drop}
use lib.Seq.{length-take-le}
use Rattle.masks.proofs.ListLaws.{lay_whole, sets_part}
use Rattle.masks.proofs.gather.copy_part.Goals as goal

pub returns : goal.returns
returns c =
    let a = c.args in
    let n : a.first + a.count - a.first ≡ a.count = omega arith in
    let m : a.at + a.count - a.at ≡ a.count = omega arith in
    let xs = drop a.first a.a.now in
    let ys = drop a.at a.out.now in
    let read = length-take-le (a.first + a.count - a.first) xs (omega (arith, length-drop a.first a.a.now)) in
    let written = length-take-le (a.at + a.count - a.at) ys (omega (arith, length-drop a.at a.out.now)) in
    let whole = lay_whole (take (a.first + a.count - a.first) xs) (take (a.at + a.count - a.at) ys) (omega (arith, read, written)) in
    sets_part a.at a.count a.out.now _ (take a.count xs) (c.lay.ensures ∙ whole ∙ ap (λ k. take k xs) n)
    (length-take-le _ _ (omega (arith, length-drop a.first a.a.now))) (omega arith)
