use mathlib.Core.Path.{refl, sym, ◌∙◌}
use borrow.Author.Tests.{eq-eqb, ne_eqb, lt-ltb, le-ltb}
use Rattle.masks.specs.Outcome.{refusal}
use Rattle.masks.proofs.outcome.refusal_of.Goals as goal

pub returns-then-dims-gt-MAX_DIMS : goal.returns-then-dims-gt-MAX_DIMS
unfolding refusal
returns-then-dims-gt-MAX_DIMS c = simp (lt-ltb 9 _ c.if-dims-gt-MAX_DIMS.true)

pub returns-then-res-gt-MAX_DIMS : goal.returns-then-res-gt-MAX_DIMS
unfolding refusal
returns-then-res-gt-MAX_DIMS c = simp (le-ltb 9 _ c.if-dims-gt-MAX_DIMS.false, lt-ltb 9 _ c.if-res-gt-MAX_DIMS.true)

pub returns-then-count-blades : goal.returns-then-count-blades
unfolding refusal
returns-then-count-blades c =
    let d = c.if-dims-gt-MAX_DIMS.false in
    let b = c.blades.ensures in
    simp (le-ltb 9 _ d, le-ltb 9 _ c.if-res-gt-MAX_DIMS.false, ne_eqb _ _ (λ e. c.if-count-blades.true (e ∙ sym b)))

pub returns-then-room-needed : goal.returns-then-room-needed
unfolding refusal
returns-then-room-needed c =
    let d = c.if-dims-gt-MAX_DIMS.false in
    let b = c.blades.ensures in
    simp (le-ltb 9 _ d, le-ltb 9 _ c.if-res-gt-MAX_DIMS.false, eq-eqb _ _ (c.if-count-blades.false ∙ b), lt-ltb _ _ c.if-room-needed.true)

pub returns : goal.returns
unfolding refusal
returns c =
    let d = c.if-dims-gt-MAX_DIMS.false in
    let b = c.blades.ensures in
    (simp (le-ltb 9 _ d, le-ltb 9 _ c.if-res-gt-MAX_DIMS.false, eq-eqb _ _ (c.if-count-blades.false ∙ b), le-ltb _ _ c.if-room-needed.false), refl)
