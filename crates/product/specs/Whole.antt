-- The general product over the whole numbers: a value is its coefficient at each place. Assumes nothing.
use Rattle.std.specs.Prelude.{ℕ, ◌^◌, ℤ}
use Rattle.clifford.specs.Sum.{δ}
use Rattle.clifford.specs.Product.{multiply}
use Rattle.masks.specs.declared.flavor.Flavor.{Flavor}
use Rattle.masks.specs.Order.{place}
use Rattle.masks.specs.Flavor.{metric_of}
use Rattle.product.specs.Pairwise.{mask_at}

-- For b's places, and a's places inside, a pair adds (metric x a) x b at the place of a xor b.
abbrev pub whole : Flavor → ℕ → (ℕ → ℤ) → (ℕ → ℤ) → ℕ → ℤ
whole flavor d = multiply (metric_of flavor) d (mask_at d) (place d)

-- Basis vector i is 1 at its mask's place.
abbrev pub basis_vector : ℕ → ℕ → ℕ → ℤ
basis_vector d i = δ (place d (2 ^ i))

-- The unit is 1 at place 0.
abbrev pub unit_value : ℕ → ℕ → ℤ
unit_value d = δ (place d 0)
