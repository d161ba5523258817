-- The metric of a flavor by index. Assumes nothing.
use Rattle.std.specs.Prelude.{cond, ℕ, ◌+◌, eqb, ltb, ℤ, pos, negsuc}
use Rattle.masks.specs.declared.flavor.Flavor.{Flavor}
use Rattle.masks.specs.declared.flavor.Flavor.TheVariants.{Vanilla, Projective, Cl}
use Rattle.masks.specs.declared.flavor.Metric.{Metric}
use Rattle.masks.specs.declared.flavor.Metric.TheVariants.{Minus, Zero, Plus}

-- `metric_of f i` is what basis vector i squares to: Vanilla 1; Projective 0 at index 0, else 1; Cl(p, n, z) 0 below z, then -1 for n indices, then 1.
unfoldable pub metric_of : Flavor → ℕ → ℤ
metric_of Vanilla i = pos 1
metric_of Projective i = cond (eqb i 0) (pos 0) (pos 1)
metric_of (Cl p n z) i = cond (ltb i z) (pos 0) (cond (ltb i (z + n)) (negsuc 0) (pos 1))

-- `metric_value` is the number that a metric stands for.
unfoldable pub metric_value : Metric → ℤ
metric_value Minus = negsuc 0
metric_value Zero = pos 0
metric_value Plus = pos 1

-- Under `Flavor::NULL` no basis vector that a value has squares to anything but 0.
abbrev pub null_flavor : Flavor
null_flavor = Cl 0 0 255

-- Projective adds a dimension to those that are stated.
unfoldable pub added_dims : Flavor → ℕ
added_dims Vanilla = 0
added_dims Projective = 1
added_dims (Cl p n z) = 0
