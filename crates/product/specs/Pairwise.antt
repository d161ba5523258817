-- The pairwise product of two values of one dimension, in document 01's own words. Assumes nothing.
use Rattle.std.specs.Prelude.{cond, List, map, ℕ, zero, suc, ◌^◌, Float, ℤ, get_or, set, replicate}
use Rattle.std.specs.Int.Bits.{bit_xor}
use Rattle.std.specs.Float.{nan, Format}
use Rattle.std.specs.Float.Ieee.{add, mul, of_int}
use Rattle.clifford.specs.Pairs.{nonzero, pairs}
use Rattle.rounding.specs.Snap.{snap}
use Rattle.masks.specs.declared.flavor.Flavor.{Flavor}
use Rattle.masks.specs.Order.{order, place}
use Rattle.masks.specs.Outcome.{nought}
use Rattle.product.specs.declared.mode.Mode.{Mode}
use Rattle.product.specs.Mode.{takes, squares, pair_metric}

-- `mask_at d i` is the mask of place i.
abbrev pub mask_at : ℕ → ℕ → ℕ
mask_at d i = get_or (order d) i 0

module _ (mode : Mode) (flavor : Flavor) (d : ℕ) where
  -- The metric of a's place i and b's place j.
  unfoldable pub metric_at : ℕ → ℕ → ℤ
  metric_at i j = pair_metric mode flavor d (mask_at d i) (mask_at d j)

  -- The place of a xor b, for a's place i and b's place j.
  unfoldable pub place_at : ℕ → ℕ → ℕ
  place_at i j = place d (bit_xor (mask_at d i) (mask_at d j))

  -- The number of contributing pairs.
  unfoldable pub pairs_of : ℕ
  pairs_of = pairs (squares mode flavor) d (takes mode)

  module _ (f : Format) (a b : List Float) where
    -- (metric x a) x b, for a's place i and b's place j.
    unfoldable pub term : ℕ → ℕ → Float
    term i j = mul f (mul f (of_int f (metric_at i j)) (get_or a i nan)) (get_or b j nan)

    -- A pair with nonzero metric adds its term at the place of a xor b.
    unfoldable pub add_pair : ℕ → ℕ → List Float → List Float
    add_pair i j r = cond (nonzero (metric_at i j)) (set r (place_at i j) (add f (get_or r (place_at i j) nan) (term i j))) r

    -- a's places below n in order, with b's place j.
    unfoldable pub inside : ℕ → ℕ → List Float → List Float
    inside j zero r = r
    inside j (suc i) r = add_pair i j (inside j i r)

    -- The result starts at +0; b's places below n in order, and a's places inside.
    unfoldable pub sums : ℕ → List Float
    sums zero = replicate (2 ^ d) nought
    sums (suc j) = inside j (2 ^ d) (sums j)

    -- Then snap.
    unfoldable pub product : List Float
    product = map (snap f) (sums (2 ^ d))
