-- The sums by masks, which is how the code works them out. A reader need not believe this page: `rows_product` (proofs/SumsLaws) shows that they make the
-- product. Assumes nothing.
use Rattle.std.specs.Prelude.{Bool, not, ◌&&◌, cond, List, map, ℕ, zero, suc, ◌+◌, ◌%◌, ◌^◌, eqb, leb, ltb, Float, length, get_or, set, replicate}
use Rattle.std.specs.Int.Bits.{bit_and, bit_xor}
use Rattle.std.specs.Int.Count.{ones}
use Rattle.std.specs.Float.{nan, binary64}
use Rattle.std.specs.Float.Ieee.{add, mul, neg}
use Rattle.clifford.specs.Pairs.{within}
use Rattle.masks.specs.Order.{up_from}
use Rattle.masks.specs.Outcome.{nought}
use Rattle.product.specs.declared.mode.Mode.{Mode}
use Rattle.product.specs.declared.metric.Squares.{Squares}
use Rattle.product.specs.declared.metric.Blade.{Blade}
use Rattle.product.specs.Mode.{takes}
use Rattle.product.specs.inner.Metric.{blade_of}

-- a's mask m has a pair with a blade of b: the mode takes it, and they share no vector that squares to 0.
abbrev pub meets : Mode → Blade → ℕ → Bool
meets mode b m = takes mode m b.mask && eqb (bit_and m b.null) 0

-- An odd number of m's vectors change the sign.
abbrev pub flipped : Blade → ℕ → Bool
flipped b m = eqb (ones (bit_and m b.flips) % 2) 1

-- a's number at m times b's number y, or times its negative.
abbrev pub signed_product : Blade → Float → List Float → ℕ → Float
signed_product b y am m = mul binary64 (get_or am m nan) (cond (flipped b m) (neg y) y)

-- The sums r, one for each mask, with the pairs of a blade of b for those masks of a that pass a test.
unfoldable pub with_pairs : (ℕ → Bool) → Blade → Float → List Float → List Float → List Float
with_pairs test b y am r =
    map
    (λ c. cond (test (bit_xor c b.mask)) (add binary64 (get_or r c nan) (signed_product b y am (bit_xor c b.mask))) (get_or r c nan))
    (up_from 0 (length r))

-- A mask has `base` and a subset of `free`, one from the given subset on.
abbrev pub subset_from : ℕ → ℕ → ℕ → ℕ → Bool
subset_from base free from m = eqb m (base + bit_and m free) && leb from (bit_and m free)

-- A mask has another within it and more.
abbrev pub beyond : ℕ → ℕ → Bool
beyond b m = within b m && not (eqb m b)

-- The mask that is turned: 101 in three dimensions, else one that no place has.
abbrev pub turned_mask : ℕ → ℕ
turned_mask d = cond (eqb d 3) 5 512

-- A number of the mask m, negated where m is the turned one.
abbrev pub turned_number : ℕ → ℕ → Float → Float
turned_number turn m y = cond (eqb m turn) (neg y) y

-- A list by masks, changed at the turned mask where it has that.
abbrev pub turned_at : (Float → Float) → ℕ → List Float → List Float
turned_at change turn xs = cond (ltb turn (length xs)) (set xs turn (change (get_or xs turn nan))) xs

-- The mask of place i: the given one's bits below d.
abbrev pub low_mask : List ℕ → ℕ → ℕ → ℕ
low_mask given d i = get_or given i 0 % 2 ^ d

-- The sums after b's places below j, for n masks.
unfoldable pub rows_below : ℕ → (ℕ → ℕ) → ℕ → Mode → Squares → List Float → List Float → ℕ → List Float
rows_below n μ turn mode s am b zero = replicate n nought
rows_below n μ turn mode s am b (suc j) =
    with_pairs (meets mode (blade_of s (μ j))) (blade_of s (μ j)) (turned_number turn (μ j) (get_or b j nan)) am (rows_below n μ turn mode s am b j)
