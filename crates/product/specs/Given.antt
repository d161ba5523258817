-- The product of values whose places have the masks that a caller gives, instead of those of the order. Assumes nothing.
use Rattle.std.specs.Prelude.{cond, List, map, ℕ, zero, suc, ◌%◌, ◌^◌, eqb, ltb, Float, length, get_or}
use Rattle.std.specs.Int.Bits.{bit_xor}
use Rattle.std.specs.Float.{nan, Format, binary64}
use Rattle.std.specs.Float.Ieee.{add, mul, of_int}
use Rattle.clifford.specs.Pairs.{nonzero}
use Rattle.rounding.specs.Snap.{snap}
use Rattle.masks.specs.declared.flavor.Flavor.{Flavor}
use Rattle.masks.specs.declared.shape.Shape.{Shape}
use Rattle.masks.specs.Order.{up_from}
use Rattle.masks.specs.Outcome.{refusal, unless, value, nought}
use Rattle.masks.specs.Shape.{conform}
use Rattle.product.specs.declared.mode.Mode.{Mode}
use Rattle.product.specs.Mode.{pair_metric}
use Rattle.product.specs.Pairwise.{mask_at, pairs_of}
use Rattle.product.specs.Products.{Counted, refused_product, product_tests}

-- The mask of place i: the given one's bits below d, or where fewer than 2^d are given that of the order.
unfoldable pub given_mask : List ℕ → ℕ → ℕ → ℕ
given_mask given d i = cond (ltb (length given) (2 ^ d)) (mask_at d i) (get_or given i 0 % 2 ^ d)

module _ (μ : ℕ → ℕ) (d : ℕ) where
  -- The number at mask m, of the places below n: that of the last place that has the mask, and +0 where none has.
  unfoldable pub at_mask : List Float → ℕ → ℕ → Float
  at_mask a zero m = nought
  at_mask a (suc i) m = cond (eqb (μ i) m) (get_or a i nan) (at_mask a i m)

  module _ (mode : Mode) (flavor : Flavor) (f : Format) (a b : List Float) where
    -- (metric x a) x b, for b's place j and the one mask of a that makes m with b's.
    unfoldable pub term_by : ℕ → ℕ → Float
    term_by j m = mul f (mul f (of_int f (pair_metric mode flavor d (bit_xor (μ j) m) (μ j))) (at_mask a (2 ^ d) (bit_xor (μ j) m))) (get_or b j nan)

    -- The sum at mask m after b's places below n: from +0, a pair with nonzero metric adds its term.
    unfoldable pub sum_by : ℕ → ℕ → Float
    sum_by zero m = nought
    sum_by (suc j) m = cond (nonzero (pair_metric mode flavor d (bit_xor (μ j) m) (μ j))) (add f (sum_by j m) (term_by j m)) (sum_by j m)

    -- Then snap, at each place's mask.
    unfoldable pub product_by : List Float
    product_by = map (λ k. snap f (sum_by (2 ^ d) (μ k))) (up_from 0 (2 ^ d))

-- The product of two values of one shape's dimensions; the shape is kept.
abbrev pub multiplied_by_of : List ℕ → Mode → Shape → List Float → List Float → Counted
multiplied_by_of given mode s a b =
    record {
      outcome = value s (product_by (given_mask given s.dims) s.dims mode s.flavor binary64 a b);
      pairs = pairs_of mode s.flavor s.dims;
    }

-- Both values are conformed and multiplied; the left shape is kept.
unfoldable pub multiplied_by : List ℕ → Mode → Shape → Shape → List Float → List Float → ℕ → Counted
multiplied_by given mode s t a b room =
    let c = conform s t a b room room in
    unless refused_product (refusal (product_tests s t a b room)) (multiplied_by_of given mode c.left_shape c.left_coefs c.right_coefs)
