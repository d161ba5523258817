-- The modes of the product: which pairs of masks each takes, and under which flavor. Assumes nothing.
use Rattle.std.specs.Prelude.{Bool, true, ◌||◌, cond, ℕ, ℤ, pos}
use Rattle.clifford.specs.Metric.{metric}
use Rattle.clifford.specs.Pairs.{within}
use Rattle.masks.specs.declared.flavor.Flavor.{Flavor}
use Rattle.masks.specs.Flavor.{metric_of, null_flavor}
use Rattle.product.specs.declared.mode.Mode.{Mode}
use Rattle.product.specs.declared.mode.Mode.TheVariants.{All, Left, Right, Inner, Outer}

-- All; Left (a within b); Right (b within a); Inner (either).
unfoldable pub takes : Mode → ℕ → ℕ → Bool
takes All a b = true
takes Left a b = within a b
takes Right a b = within b a
takes Inner a b = within a b || within b a
takes Outer a b = true

-- Outer uses `Flavor::NULL`; the others use the left value's flavor.
unfoldable pub flavor_for : Mode → Flavor → Flavor
flavor_for All f = f
flavor_for Left f = f
flavor_for Right f = f
flavor_for Inner f = f
flavor_for Outer f = null_flavor

-- `squares mode f i` is what basis vector i squares to in the product.
abbrev pub squares : Mode → Flavor → ℕ → ℤ
squares mode f = metric_of (flavor_for mode f)

-- The metric of a pair of masks, 0 where the mode doesn't take the pair.
unfoldable pub pair_metric : Mode → Flavor → ℕ → ℕ → ℕ → ℤ
pair_metric mode f d a b = cond (takes mode a b) (metric (squares mode f) d a b) (pos 0)
