use mathlib.Core.Bool.{and-true, and-false, or-false}
use borrow.Author.Tests.{ne_eqb}
use Rattle.masks.specs.Shape.{negates}
use Rattle.masks.proofs.gather.turns.Goals as goal

pub returns-then-dims-eq3 : goal.returns-then-dims-eq3
unfolding negates
returns-then-dims-eq3 c = rw (c.if-dims-eq3.true, or-false)

pub returns-then-new_dims-eq3 : goal.returns-then-new_dims-eq3
unfolding negates
returns-then-new_dims-eq3 c = rw (c.if-new_dims-eq3.true, ne_eqb _ _ c.if-dims-eq3.false, and-true)

pub returns : goal.returns
unfolding negates
returns c = simp (ne_eqb _ _ c.if-dims-eq3.false, ne_eqb _ _ c.if-new_dims-eq3.false, and-false)
