-- A multivector over the whole numbers is its 2 ^ d coefficients by place; `order` gives the mask of each place, and `place` the place of each mask.
use Rattle.std.specs.Prelude.{◌≡◌, ℕ, ◌^◌, ◌<◌, ℤ, ◌*ℤ◌}
use Rattle.std.specs.Int.Bits.{bit_xor}
use Rattle.clifford.specs.Blade.{has, count}
use Rattle.clifford.specs.Sign.{reversal}
use Rattle.clifford.specs.Metric.{metric}
use Rattle.clifford.specs.Sum.{sum, δ}

-- `Bijection d order place` says that they are the order and its inverse for one dimension.
pub record Bijection (d : ℕ) (order place : ℕ → ℕ) : Type 0 where
  pub order_lt : (i : ℕ) → i < 2 ^ d → order i < 2 ^ d
  pub place_lt : (m : ℕ) → m < 2 ^ d → place m < 2 ^ d
  pub order_place : (m : ℕ) → m < 2 ^ d → order (place m) ≡ m
  pub place_order : (i : ℕ) → i < 2 ^ d → place (order i) ≡ i

-- For b's places j, and a's places i inside, a pair adds (metric times a) times b at the place of a xor b; this is what place k gets.
unfoldable pub multiply : (ℕ → ℤ) → ℕ → (ℕ → ℕ) → (ℕ → ℕ) → (ℕ → ℤ) → (ℕ → ℤ) → ℕ → ℤ
multiply g d order place a b k =
    sum (2 ^ d) (λ j. sum (2 ^ d) (λ i. δ (place (bit_xor (order i) (order j))) k *ℤ (metric g d (order i) (order j) *ℤ a i *ℤ b j)))

-- `reverse_whole` negates grades 2, 3 mod 4, by the grade of each place's mask.
unfoldable pub reverse_whole : ℕ → (ℕ → ℕ) → (ℕ → ℤ) → ℕ → ℤ
reverse_whole d order a k = reversal (count d (has (order k))) *ℤ a k
