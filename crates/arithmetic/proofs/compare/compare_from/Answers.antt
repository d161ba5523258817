use mathlib.Core.Path.{◌≡◌, refl, sym, ◌∙◌}
use Prim.Native.Nat.{◌+◌}
use native.Mathlib.Omega.{arith}
use lib.ListN.{drop}
use Rattle.std.specs.declared.cmp.Ordering.{Ordering}
use Rattle.std.specs.declared.cmp.Ordering.TheVariants.{Less, Equal, Greater}
use Rattle.arithmetic.specs.Compare.{or_else, compared_places}
use Rattle.arithmetic.proofs.CompareLaws.{at_place, at_end}
use Rattle.arithmetic.proofs.compare.compare_from.Goals.{After-compare_numbers}
use Rattle.arithmetic.proofs.compare.compare_from.Goals as goal

-- The whole compares as the numbers at i do, and then as what follows them.
next : (c : After-compare_numbers) (o : Ordering) → c.compare_numbers.result ≡ o
    → let a = c.args in
    compared_places (drop a.first a.a.now) (drop a.first a.b.now) ≡ or_else o (compared_places (drop (c.loop-i.i + 1) a.a.now) (drop (c.loop-i.i + 1) a.b.now))
next c o e =
    let a = c.args in
    c.loop-i.invariant
    ∙ at_place a.a.now a.b.now c.loop-i.i o (omega arith) (omega arith) (sym c.compare_numbers.ensures ∙ e)

decided : (o p : Ordering) → (o ≡ Equal → ⊥) → or_else o p ≡ o
decided Less p h = refl
decided Equal p h = absurd (h refl)
decided Greater p h = refl

pub returns-in_default : goal.returns-in_default
returns-in_default c = sym (next (goal.at.returns-in_default c).After-compare_numbers _ refl ∙ decided c.compare_numbers.result _ c.in_default.not-Equal)

pub loop-i-preserved : goal.loop-i-preserved
loop-i-preserved c = next (goal.at.loop-i-preserved c).After-compare_numbers _ c.in-Equal.is

pub returns : goal.returns
returns c =
    let a = c.args in
    sym (c.loop-i.invariant ∙ at_end a.a.now a.b.now c.loop-i.i (omega arith))
