use mathlib.Core.Path.{refl, sym, ◌∙◌}
use borrow.Author.Tests.{eq-eqb, ne_eqb}
use Rattle.masks.specs.Outcome.{refusal}
use Rattle.exports.proofs.sheet.list_refusal.Goals as goal

pub returns-then-any_above_nine : goal.returns-then-any_above_nine
unfolding refusal
returns-then-any_above_nine c = rw (sym c.any_above_nine.ensures ∙ c.if-any_above_nine.true) refl

pub returns-then-bytes-ne0 : goal.returns-then-bytes-ne0
unfolding refusal
returns-then-bytes-ne0 c = rw (sym c.any_above_nine.ensures ∙ c.if-any_above_nine.false, ne_eqb _ _ c.if-bytes-ne0.true) refl

pub returns : goal.returns
unfolding refusal
returns c = rw (sym c.any_above_nine.ensures ∙ c.if-any_above_nine.false, eq-eqb _ _ c.if-bytes-ne0.false) (refl, refl)
