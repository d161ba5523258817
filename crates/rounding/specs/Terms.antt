-- A sum of products of floats, as it is worked out and as it is exactly. Definitions only.
use Rattle.std.specs.Prelude.{ℕ, zero, suc, ◌+◌, ◌*◌, Bool, false, cond, pos, T, Float}
use Rattle.std.specs.Float.{fin, Format}
use Rattle.std.specs.Float.Ieee.{unlike, add, mul, fits}
use Rattle.rounding.specs.Signed.{above_zero, below_zero}
use Rattle.rounding.specs.Operation.{signed_one}
use Rattle.rounding.specs.Value.{sign_of, size_in, Whole}

-- One term: whether it is added at all, whether its metric is -1 and not 1, and its two factors.
pub record Term : Type 0 where
  pub live : Bool
  pub minus : Bool
  pub left : Float
  pub right : Float

-- (metric x left) x right, each product rounded.
abbrev pub prod : Format → Term → Float
prod f t = mul f (mul f (signed_one t.minus) t.left) t.right

-- The first n terms added up in order, those that are live, from +0, each sum rounded.
abbrev pub run : Format → (ℕ → Term) → ℕ → Float
run f ts zero = fin false 0 (pos 0)
run f ts (suc n) = cond (ts n).live (add f (run f ts n) (prod f (ts n))) (run f ts n)

-- How many of the first n terms are live.
abbrev pub live_count : (ℕ → Term) → ℕ → ℕ
live_count ts zero = 0
live_count ts (suc n) = cond (ts n).live (suc (live_count ts n)) (live_count ts n)

-- The sign of a term's exact product.
abbrev pub product_sign : Term → Bool
product_sign t = unlike (unlike t.minus (sign_of t.left)) (sign_of t.right)

-- The size of a term's exact product in units of 2 ^ -(g + h), for a left factor in units of 2 ^ -g and a right one of 2 ^ -h.
abbrev pub product_size : ℕ → ℕ → Term → ℕ
product_size g h t = size_in g t.left * size_in h t.right

-- What a term adds to the exact sum: its product, where that is above zero.
abbrev pub rise : ℕ → ℕ → Term → ℕ
rise g h t = above_zero (product_sign t) (product_size g h t)

-- What it takes from the exact sum: its product, where that is below zero.
abbrev pub fall : ℕ → ℕ → Term → ℕ
fall g h t = below_zero (product_sign t) (product_size g h t)

-- What the first n terms add to the exact sum, those that are live.
abbrev pub ups : ℕ → ℕ → (ℕ → Term) → ℕ → ℕ
ups g h ts zero = 0
ups g h ts (suc n) = cond (ts n).live (ups g h ts n + rise g h (ts n)) (ups g h ts n)

-- What they take from it.
abbrev pub downs : ℕ → ℕ → (ℕ → Term) → ℕ → ℕ
downs g h ts zero = 0
downs g h ts (suc n) = cond (ts n).live (downs g h ts n + fall g h (ts n)) (downs g h ts n)

-- The sum of the sizes of the live exact products: T of the bound (n + 1) x T x 2 ^ -prec.
abbrev pub sizes_total : ℕ → ℕ → (ℕ → Term) → ℕ → ℕ
sizes_total g h ts n = ups g h ts n + downs g h ts n

-- A term's factors are finite and whole numbers of 2 ^ -g and 2 ^ -h, and the format holds the left one.
abbrev pub OnGrid : Format → ℕ → ℕ → Term → Type 0
OnGrid f g h t = T (fits f t.left) × Whole g t.left × Whole h t.right
