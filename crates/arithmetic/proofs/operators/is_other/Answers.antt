use mathlib.Core.Path.{sym, ◌∙◌}
use borrow.Author.Tests.{eq-eqb, ne_eqb}
use Rattle.masks.proofs.OrderLaws.{none_counted}
use Rattle.arithmetic.specs.Operators.{is_other}
use Rattle.arithmetic.proofs.operators.is_other.Goals as goal

pub returns-then-b-blades_or_none : goal.returns-then-b-blades_or_none
unfolding is_other
returns-then-b-blades_or_none c small = rw (c.is_scalar.ensures, eq-eqb _ _ (c.if-b-blades_or_none.true ∙ none_counted c.blades_or_none.ensures small))

pub returns-else-b-blades_or_none : goal.returns-else-b-blades_or_none
unfolding is_other
returns-else-b-blades_or_none c small = rw (ne_eqb _ _ c.if-b-blades_or_none.false, ne_eqb _ _ (λ e. c.if-b-blades_or_none.false (e ∙ sym (none_counted c.blades_or_none.ensures small))))
