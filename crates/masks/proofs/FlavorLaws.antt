-- Laws of a flavor's metric. Assumes nothing.
use mathlib.Core.Path.{◌≡◌, refl}
use Prim.Native.Nat.{ℕ, ◌<◌}
use lib.IntN.{pos}
use borrow.Author.Tests.{lt-ltb}
use Rattle.masks.specs.declared.flavor.Metric.{Metric}
use Rattle.masks.specs.declared.flavor.Metric.TheVariants.{Minus, Zero, Plus}
use Rattle.masks.specs.Flavor.{metric_value, metric_of, null_flavor}

-- a metric is known by its number
pub metric_one : {r s : Metric} → metric_value r ≡ metric_value s → r ≡ s
unfolding metric_value
metric_one {r = Minus} {s = Minus} e = refl
metric_one {r = Minus} {s = Zero} e = cc
metric_one {r = Minus} {s = Plus} e = cc
metric_one {r = Zero} {s = Minus} e = cc
metric_one {r = Zero} {s = Zero} e = refl
metric_one {r = Zero} {s = Plus} e = cc
metric_one {r = Plus} {s = Minus} e = cc
metric_one {r = Plus} {s = Zero} e = cc
metric_one {r = Plus} {s = Plus} e = refl

-- under NULL each basis vector that a value can have squares to 0
pub null_metric : (i : ℕ) → i < 255 → metric_of null_flavor i ≡ pos 0
unfolding metric_of
null_metric i h = rw (lt-ltb i 255 h)
