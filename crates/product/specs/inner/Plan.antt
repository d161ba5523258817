-- What a plan makes of two lists of numbers, in terms of specs/Given. A reader need not believe this page. Assumes nothing.
use Rattle.std.specs.Prelude.{List, map, ℕ, ◌%◌, ◌^◌, Float, get_or}
use Rattle.std.specs.Int.Bits.{bit_and, bit_xor}
use Rattle.std.specs.Int.Count.{ones}
use Rattle.std.specs.Float.{nan, binary64}
use Rattle.std.specs.Float.Ieee.{add, mul}
use Rattle.rounding.specs.Snap.{snap}
use Rattle.masks.specs.Order.{up_from}
use Rattle.product.specs.declared.metric.Blade.{Blade}
use Rattle.product.specs.declared.plan.Plan.{Plan}
use Rattle.product.specs.Given.{product_by}
use Rattle.product.specs.inner.Sums.{low_mask}

-- The mask of a place.
abbrev pub plan_mask : Plan → ℕ → ℕ
plan_mask p = low_mask p.given.now p.shape.dims

-- The sums at the places' masks, snapped.
abbrev pub taken_by : Plan → List Float → List Float
taken_by p sums = map (λ k. snap binary64 (get_or sums (plan_mask p k) nan)) (up_from 0 (2 ^ p.shape.dims))

-- The coefficients of the product.
abbrev pub planned : Plan → List Float → List Float → List Float
planned p = product_by (plan_mask p) p.shape.dims p.mode p.shape.flavor binary64

-- What the sum of the mask m's pair becomes: a's number times the one of two numbers that the sign picks is added.
abbrev pub paired : ℕ → Blade → List Float → List Float → List Float → Float
paired m b ys am acc =
    add binary64 (get_or acc (bit_xor m b.mask) nan) (mul binary64 (get_or am m nan) (get_or ys (ones (bit_and m b.flips) % 2) nan))
