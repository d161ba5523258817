use mathlib.Core.Path.{◌≡◌, refl, ap, ◌∙◌}
use lib.IntN.{ℤ}
use mir.Syntax.{w8}
use mir.Val.{to_z, of_z}
use Rattle.masks.specs.declared.flavor.Flavor.{Flavor}
use Rattle.masks.specs.declared.flavor.Metric.{Metric}
use Rattle.masks.specs.declared.flavor.Metric.TheVariants.{Minus, Zero, Plus}
use Rattle.masks.specs.Flavor.{metric_of, metric_value}
use Rattle.exports.proofs.flavors.thresholm_metric.Goals as goal

-- A metric's number fits a byte.
read_back : (m : Metric) → to_z w8 (of_z w8 (metric_value m)) ≡ metric_value m
unfolding metric_value
read_back Minus = refl
read_back Zero = refl
read_back Plus = refl

pub returns : goal.returns
returns c =
    let given = c.args in
    ap (λ (x : ℤ). to_z w8 (of_z w8 x)) c.metric_number.ensures ∙ read_back c.metric.result ∙ c.metric.ensures ∙ ap (λ (f : Flavor). metric_of f given.index) c.flavor_in.ensures
