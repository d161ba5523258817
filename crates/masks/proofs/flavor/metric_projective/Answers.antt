use borrow.Author.Tests.{eq-eqb, ne_eqb}
use Rattle.masks.specs.Flavor.{metric_of, metric_value}
use Rattle.masks.proofs.flavor.metric_projective.Goals as goal

pub returns-then-index-eq0 : goal.returns-then-index-eq0
unfolding metric_of metric_value
returns-then-index-eq0 c = simp (eq-eqb _ _ c.if-index-eq0.true)

pub returns : goal.returns
unfolding metric_of metric_value
returns c = simp (ne_eqb _ _ c.if-index-eq0.false)
