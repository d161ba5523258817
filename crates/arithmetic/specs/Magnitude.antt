-- The squared magnitude. Assumes nothing.
use Rattle.std.specs.Prelude.{List, ℕ, zero, suc, ◌^◌, Float, ℤ, length, get_or}
use Rattle.std.specs.Float.{nan, binary64}
use Rattle.std.specs.Float.Ieee.{add, mul, of_int}
use Rattle.clifford.specs.Blade.{has}
use Rattle.clifford.specs.Metric.{shared}
use Rattle.masks.specs.declared.flavor.Flavor.{Flavor}
use Rattle.masks.specs.declared.shape.Shape.{Shape}
use Rattle.masks.specs.Flavor.{metric_of}
use Rattle.masks.specs.Outcome.{Real, refusal, value_tests, unless, nought, refused_real}
use Rattle.product.specs.Pairwise.{mask_at}

-- w: the product of the flavor metrics of the mask's bits, with no swap sign.
unfoldable pub weight : Flavor → ℕ → ℕ → ℤ
weight f d m = shared (metric_of f) d (has m) (has m)

-- (w x c) x c
unfoldable pub weighed : ℤ → Float → Float
weighed w c = mul binary64 (mul binary64 (of_int binary64 w) c) c

-- The sum of (w x c) x c over the places below n, from place 0 up, zeros multiplied too.
unfoldable pub weighed_sum : Flavor → ℕ → List Float → ℕ → Float
weighed_sum f d a zero = nought
weighed_sum f d a (suc i) = add binary64 (weighed_sum f d a i) (weighed (weight f d (mask_at d i)) (get_or a i nan))

-- `squared_magnitude` is the sum over all places.
unfoldable pub squared_magnitude : Shape → List Float → Real
squared_magnitude s a =
    unless refused_real (refusal (value_tests s.dims (length a)))
    (record { number = 0; value = weighed_sum s.flavor s.dims a (2 ^ s.dims) })
