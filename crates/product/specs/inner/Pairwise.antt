-- The product place by place, which is how laws work it out. A reader need not believe this page: `product_at_lem` (proofs/PairwiseLaws) shows that it is the
-- product of specs/Pairwise. Assumes nothing.
use Rattle.std.specs.Prelude.{Bool, true, false, List, ℕ, Float, ℤ, pos, negsuc, get_or}
use Rattle.std.specs.Int.Bits.{bit_xor}
use Rattle.std.specs.Float.{nan, Format}
use Rattle.clifford.specs.Pairs.{nonzero}
use Rattle.rounding.specs.Terms.{Term, run}
use Rattle.masks.specs.declared.flavor.Flavor.{Flavor}
use Rattle.masks.specs.Order.{place}
use Rattle.product.specs.declared.mode.Mode.{Mode}
use Rattle.product.specs.Mode.{pair_metric}
use Rattle.product.specs.Pairwise.{mask_at}

-- A metric is below zero.
abbrev pub negative : ℤ → Bool
negative (pos n) = false
negative (negsuc n) = true

-- The mask of a that goes with b's place j to place k.
abbrev pub partner : ℕ → ℕ → ℕ → ℕ
partner d j k = bit_xor (mask_at d j) (mask_at d k)

-- A pair of numbers with its metric, as a term of a sum.
abbrev pub term_of : ℤ → Float → Float → Term
term_of m x y = record { live = nonzero m; minus = negative m; left = x; right = y }

module _ (mode : Mode) (flavor : Flavor) (d : ℕ) (a b : List Float) where
  -- The pair of b's place j that goes to place k: a's mask is that of j's xor k's.
  unfoldable pub gathered : ℕ → ℕ → Term
  gathered k j = term_of (pair_metric mode flavor d (partner d j k) (mask_at d j)) (get_or a (place d (partner d j k)) nan) (get_or b j nan)

  -- What place k has after b's places below n.
  unfoldable pub sum_at : Format → ℕ → ℕ → Float
  sum_at f k n = run f (gathered k) n
