-- How near to exact a product is: what demand 3 speaks of, for one coefficient. Assumes nothing.
use Rattle.std.specs.Prelude.{◌≡◌, Bool, ◌&&◌, cond, List, ℕ, suc, ◌+◌, ◌*◌, ◌^◌, ◌≤◌, ◌<◌, T, eqb, Float, ℤ, pos, negsuc, neg_ℤ, ◌*ℤ◌, get_or, length}
use Rattle.std.specs.Float.{nan, binary64}
use Rattle.std.specs.Float.Ieee.{eq, fits}
use Rattle.clifford.specs.Blade.{count}
use Rattle.clifford.specs.Sum.{sum, total}
use Rattle.clifford.specs.Pairs.{nonzero}
use Rattle.rounding.specs.Value.{sign_of, size_in, Whole, Close}
use Rattle.rounding.specs.Sized.{Sized}
use Rattle.masks.specs.declared.flavor.Flavor.{Flavor}
use Rattle.masks.specs.declared.shape.Shape.{Shape}
use Rattle.product.specs.declared.mode.Mode.{Mode}
use Rattle.product.specs.Pairwise.{metric_at, place_at}
use Rattle.product.specs.Products.{general_product}

-- ---- exact values, in units of 2 ^ -u

-- The value of a finite float that is a whole number of units.
unfoldable pub value_in : ℕ → Float → ℤ
value_in u x = cond (sign_of x) (neg_ℤ (pos (size_in u x))) (pos (size_in u x))

-- The size in units of a's place i.
abbrev pub exact_size_at : ℕ → List Float → ℕ → ℕ
exact_size_at u a i = size_in u (get_or a i nan)

-- The value in units of a's place i.
abbrev pub exact_value_at : ℕ → List Float → ℕ → ℤ
exact_value_at u a i = value_in u (get_or a i nan)

-- How far a whole number lies above zero, and how far below.
unfoldable pub above : ℤ → ℕ
above (pos n) = n
above (negsuc n) = 0

unfoldable pub beneath : ℤ → ℕ
beneath (pos n) = 0
beneath (negsuc n) = suc n

-- ---- one coefficient of a product, exactly

module _ (mode : Mode) (flavor : Flavor) (d k : ℕ) where
  -- The pair of a's place i and b's place j contributes to coefficient k: its metric is not zero, and k is its place.
  unfoldable pub contributes : ℕ → ℕ → Bool
  contributes i j = nonzero (metric_at mode flavor d i j) && eqb (place_at mode flavor d i j) k

  -- n: its contributing pairs.
  unfoldable pub contributing : ℕ
  contributing = total (2 ^ d) (λ j. count (2 ^ d) (λ i. contributes i j))

  module _ (p q : ℕ) (a b : List Float) where
    -- T: the sum of their exact sizes, for a in units of 2 ^ -p and b in units of 2 ^ -q.
    unfoldable pub exact_sizes : ℕ
    exact_sizes = total (2 ^ d) (λ j. total (2 ^ d) (λ i. cond (contributes i j) (exact_size_at p a i * exact_size_at q b j) 0))

    -- The exact sum.
    unfoldable pub exact_sum : ℤ
    exact_sum =
        sum (2 ^ d)
        (λ j. sum (2 ^ d) (λ i. cond (contributes i j) (metric_at mode flavor d i j *ℤ exact_value_at p a i *ℤ exact_value_at q b j) (pos 0)))

-- ---- demand 3's premises and promises

-- A value has 2 ^ d coefficients that f64 holds.
pub record Holds (d : ℕ) (a : List Float) : Type 0 where
  pub many : length a ≡ 2 ^ d
  pub held : (i : ℕ) → i < 2 ^ d → T (fits binary64 (get_or a i nan))

-- The dimensions are at most 9, and the output has room for a value.
pub record Fitting (s : Shape) (room : ℕ) : Type 0 where
  pub small : s.dims ≤ 9
  pub roomy : 2 ^ s.dims ≤ room

-- The coefficients of the general product of two values of one shape, hence of equal dimensions and equal flavor.
abbrev pub times : Shape → ℕ → List Float → List Float → List Float
times s room a b = (general_product s s a b room).outcome.coefs

-- Each coefficient is zero or from 2 ^ -400 to 2 ^ 400 in size.
abbrev pub InBounds : ℕ → List Float → Type 0
InBounds d a = (i : ℕ) → i < 2 ^ d → Sized 400 (get_or a i nan)

-- Each coefficient is a finite multiple of 2 ^ -p.
abbrev pub Multiples : ℕ → ℕ → List Float → Type 0
Multiples p d a = (i : ℕ) → i < 2 ^ d → Whole p (get_or a i nan)

-- x lies within c units of 2 ^ -957, that is of 2 ^ -904 x 2 ^ -53, of the exact e units of 2 ^ -904.
abbrev pub LiesWithin : Float → ℕ → ℤ → Type 0
LiesWithin x c e = Close binary64 904 x c (above e) (beneath e)

-- The exact case: finite multiples of 2 ^ -p and 2 ^ -q, p + q at most 46, T at most 2 ^ 53 units of 2 ^ -(p + q).
pub record ExactCase (mode : Mode) (flavor : Flavor) (d : ℕ) (a b : List Float) : Type 0 where
  pub p : ℕ
  pub q : ℕ
  pub fine : p + q ≤ 46
  pub left : Multiples p d a
  pub right : Multiples q d b
  pub small : (k : ℕ) → k < 2 ^ d → exact_sizes mode flavor d k p q a b ≤ 2 ^ 53

-- x is exactly e units of 2 ^ -u.
abbrev pub IsExactly : ℕ → Float → ℤ → Type 0
IsExactly u x e = Whole u x × (value_in u x ≡ e)

-- Two values are equal as numbers, -0 being equal to +0.
abbrev pub EqualNumbers : ℕ → List Float → List Float → Type 0
EqualNumbers d a b = (k : ℕ) → k < 2 ^ d → T (eq (get_or a k nan) (get_or b k nan))
