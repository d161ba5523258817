use mathlib.Core.Path.{◌∙◌}
use Rattle.masks.specs.Flavor.{metric_of, metric_value}
use Rattle.masks.proofs.flavor.Flavor.metric.Goals as goal

pub returns-in-Vanilla : goal.returns-in-Vanilla
unfolding metric_of metric_value
returns-in-Vanilla c = rw c.in-Vanilla.is

pub returns-in-Cl : goal.returns-in-Cl
unfolding metric_of
returns-in-Cl c = c.metric_cl.ensures ∙ (rw c.in-Cl.is)
