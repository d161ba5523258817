use mathlib.Core.Path.{◌≡◌, refl}
use mathlib.Core.Bool.{false, not}
use Rattle.clifford.specs.Pairs.{nonzero}
use Rattle.masks.specs.declared.flavor.Metric.{Metric}
use Rattle.masks.specs.declared.flavor.Metric.TheVariants.{Minus, Zero, Plus}
use Rattle.masks.specs.Flavor.{metric_value}
use Rattle.product.proofs.pairs.is_null.Goals as goal

-- The other metrics are not 0.
other : (m : Metric) → (m ≡ Zero → ⊥) → false ≡ not (nonzero (metric_value m))
unfolding metric_value
other Minus h = refl
other Zero h = absurd (h refl)
other Plus h = refl

pub returns-in-Zero : goal.returns-in-Zero
unfolding metric_value
returns-in-Zero c = rw c.in-Zero.is

pub returns-in_default : goal.returns-in_default
returns-in_default c = other c.args.m c.in_default.not-Zero
