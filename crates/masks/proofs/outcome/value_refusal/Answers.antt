use mathlib.Core.Path.{refl, sym, ◌∙◌}
use borrow.Author.Tests.{eq-eqb, ne_eqb, lt-ltb, le-ltb}
use Rattle.masks.specs.Outcome.{refusal}
use Rattle.masks.proofs.outcome.value_refusal.Goals as goal

pub returns-then-dims-gt-MAX_DIMS : goal.returns-then-dims-gt-MAX_DIMS
unfolding refusal
returns-then-dims-gt-MAX_DIMS c = simp (lt-ltb 9 _ c.if-dims-gt-MAX_DIMS.true)

pub returns-then-blades-count : goal.returns-then-blades-count
unfolding refusal
returns-then-blades-count c =
    let d = c.if-dims-gt-MAX_DIMS.false in
    let b = c.blades.ensures in
    simp (le-ltb 9 _ d, ne_eqb _ _ (λ e. c.if-blades-count.true (b ∙ sym e)))

pub returns : goal.returns
unfolding refusal
returns c =
    let d = c.if-dims-gt-MAX_DIMS.false in
    let b = c.blades.ensures in
    (simp (le-ltb 9 _ d, eq-eqb _ _ (sym c.if-blades-count.false ∙ b)), refl)
