-- The order that a call has built and passes down. A reader need not believe this page: no public contract cites it. Assumes nothing.
use Rattle.std.specs.Prelude.{◌≡◌, List, ℕ, ◌^◌, ◌<◌}
use Rattle.product.specs.Pairwise.{mask_at}
use Rattle.product.specs.Given.{given_mask}

-- A product in d dimensions that is given these masks takes those of the order: they are the order's, or too few.
abbrev pub InOrder : List ℕ → ℕ → Type 0
InOrder given d = (i : ℕ) → i < 2 ^ d → given_mask given d i ≡ mask_at d i
