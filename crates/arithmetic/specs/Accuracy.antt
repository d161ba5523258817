-- How near to exact `*` is: what demand 3 speaks of. Assumes nothing.
use Rattle.std.specs.Prelude.{cond, List, ℕ, Float}
use Rattle.masks.specs.declared.flavor.Flavor.{Flavor}
use Rattle.product.specs.declared.mode.Mode.TheVariants.{All}
use Rattle.product.specs.Accuracy.{contributing}
use Rattle.arithmetic.specs.Scalar.{is_scalar}

-- n of coefficient k of `*`: one pair by a scalar b, else the contributing pairs of the general product.
abbrev pub star_contributing : Flavor → ℕ → ℕ → List Float → ℕ
star_contributing flavor d k b = cond (is_scalar b) 1 (contributing All flavor d k)
