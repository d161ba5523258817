use mathlib.Core.Path.{◌≡◌, sym, ap, ◌∙◌}
use mathlib.Core.List.{List}
use Prim.Native.Nat.{ℕ, ◌+◌, ◌-◌, ◌*◌}
use native.Mathlib.Omega.{arith}
use lib.Ieee.{Float}
use lib.ListN.{length, take, drop, length-drop}
use lib.Seq.{take_all}
use Rattle.arithmetic.specs.Compare.{compared_places}
use Rattle.arithmetic.proofs.CompareLaws.{four_passed}
use Rattle.arithmetic.proofs.compare.compare_by_fours.Goals as goal

-- The slice from place i on.
rest : (xs : List Float) (i : ℕ) → take (length xs - i) (drop i xs) ≡ drop i xs
rest xs i = take_all _ (drop i xs) (omega (arith, length-drop i xs))

pub loop-k-preserved : goal.loop-k-preserved
loop-k-preserved c =
    let a = c.args.a.now in
    let b = c.args.b.now in
    let i = 4 * c.loop-k.k in
    let e : i + 4 ≡ 4 * (c.loop-k.k + 1) = omega arith in
    c.loop-k.invariant
    ∙ four_passed a b _ _ i (omega arith) c.requires (rest a i) (rest b i) (sym c.four_equal.ensures ∙ c.if-not-four_equal.false)
    ∙ ap (λ (n : ℕ). compared_places (drop n a) (drop n b)) e
