-- Over whole numbers the general product is Clifford's: it groups, has the unit, reverses, and has the defining relations. Assumes nothing.
use mathlib.Core.Path.{◌≡◌, sym, ◌∙◌, ap, ap₂}
use mathlib.Core.Bool.{true}
use mathlib.Core.List.{[], ◌∷◌, ◌++◌}
use mathlib.Core.Logic.{◌≢◌}
use Prim.Native.Nat.{ℕ, ◌^◌, ◌<◌}
use lib.Bits.{bit_xor, xor_self, xor_comm, xor_lt}
use lib.IntN.{ℤ, neg_ℤ, ◌*ℤ◌}
use lib.Pow.{pow-lt}
use Rattle.clifford.specs.Sum.{δ}
use Rattle.clifford.specs.Metric.{metric}
use Rattle.clifford.specs.Relations.{Equals}
use Rattle.clifford.specs.Placed.{stands}
use Rattle.clifford.specs.Product.{Bijection, reverse_whole}
use Rattle.clifford.proofs.Ring.{neg_mul}
use Rattle.clifford.proofs.PlacedLaws.{metric_derived, metric_unique}
use Rattle.clifford.proofs.VectorLaws.{metric_squared, metric_exchanged}
use Rattle.clifford.proofs.ProductLaws.{multiply_assoc, unit_multiply, multiply_unit, reverse_multiply, multiply_basis}
use Rattle.masks.specs.declared.flavor.Flavor.{Flavor}
use Rattle.masks.specs.Order.{grade, grades_below, order, place}
use Rattle.masks.specs.Flavor.{metric_of}
use Rattle.masks.proofs.OrderLaws.{order_at, order_place, place_lt}
use Rattle.product.specs.declared.mode.Mode.{Mode}
use Rattle.product.specs.Mode.{takes, squares, pair_metric}
use Rattle.product.specs.Pairwise.{mask_at, metric_at, place_at}
use Rattle.product.specs.Whole.{whole, basis_vector, unit_value}

-- The order and its inverse of masks are what the algebra asks for.
pub bijective : (d : ℕ) → Bijection d (mask_at d) (place d)
bijective d =
    record {
      order_lt = λ i h. (order_at d i h).low;
      place_lt = place_lt d;
      order_place = order_place d;
      place_order = λ i h. (order_at d i h).back;
    }

-- ---- the product

module _ (flavor : Flavor) (d : ℕ) where
  pub groups : (a b c : ℕ → ℤ) (k : ℕ) → whole flavor d (whole flavor d a b) c k ≡ whole flavor d a (whole flavor d b c) k
  groups = multiply_assoc (metric_of flavor) d (mask_at d) (place d) (bijective d)

  pub unit_left : (b : ℕ → ℤ) (k : ℕ) → k < 2 ^ d → whole flavor d (unit_value d) b k ≡ b k
  unit_left = unit_multiply (metric_of flavor) d (mask_at d) (place d) (bijective d)

  pub unit_right : (a : ℕ → ℤ) (k : ℕ) → k < 2 ^ d → whole flavor d a (unit_value d) k ≡ a k
  unit_right = multiply_unit (metric_of flavor) d (mask_at d) (place d) (bijective d)

  pub reverses : (a b : ℕ → ℤ) (k : ℕ)
      → reverse_whole d (mask_at d) (whole flavor d a b) k ≡ whole flavor d (reverse_whole d (mask_at d) b) (reverse_whole d (mask_at d) a) k
  reverses = reverse_multiply (metric_of flavor) d (mask_at d) (place d) (bijective d)

  -- Two basis vectors multiply to their metric at the place of their masks' xor.
  vectors : (i j : ℕ) → i < d → j < d → (k : ℕ)
      → whole flavor d (basis_vector d i) (basis_vector d j) k ≡ metric (metric_of flavor) d (2 ^ i) (2 ^ j) *ℤ δ (place d (bit_xor (2 ^ i) (2 ^ j))) k
  vectors i j h l k =
      multiply_basis (metric_of flavor) d (mask_at d) (place d) (place d (2 ^ i)) (place d (2 ^ j)) (place_lt d (2 ^ i) (pow-lt h)) (place_lt d (2 ^ j) (pow-lt l)) k
      ∙ ap₂ (λ (a b : ℕ). metric (metric_of flavor) d a b *ℤ δ (place d (bit_xor a b)) k) (order_place d (2 ^ i) (pow-lt h)) (order_place d (2 ^ j) (pow-lt l))

  -- e_i e_i is the flavor's metric.
  pub squared : (i : ℕ) → i < d → (k : ℕ) → whole flavor d (basis_vector d i) (basis_vector d i) k ≡ metric_of flavor i *ℤ unit_value d k
  squared i h k = vectors i i h h k ∙ ap₂ (λ (s : ℤ) (m : ℕ). s *ℤ δ (place d m) k) (metric_squared (metric_of flavor) d i h) (xor_self (2 ^ i))

  -- e_i e_j is -(e_j e_i).
  pub exchanged : (i j : ℕ) → i < d → j < d → i ≢ j → (k : ℕ) → whole flavor d (basis_vector d i) (basis_vector d j) k ≡ neg_ℤ (whole flavor d (basis_vector d j) (basis_vector d i) k)
  exchanged i j h l n k =
      vectors i j h l k
      ∙ ap₂ (λ (s : ℤ) (m : ℕ). s *ℤ δ (place d m) k) (metric_exchanged (metric_of flavor) d i j h l n) (xor_comm (2 ^ i) (2 ^ j))
      ∙ neg_mul (metric (metric_of flavor) d (2 ^ j) (2 ^ i)) _ ∙ sym (ap neg_ℤ (vectors j i l h k))

-- ---- the metric of places, by the relations, where the mode takes the pair, as All takes every pair

module _ (mode : Mode) (flavor : Flavor) (d i j : ℕ) (h : i < 2 ^ d) (l : j < 2 ^ d) (t : takes mode (mask_at d i) (mask_at d j) ≡ true) where
  taken_metric : metric_at mode flavor d i j ≡ metric (squares mode flavor) d (mask_at d i) (mask_at d j)
  unfolding metric_at pair_metric
  taken_metric = rw t

  mask_met : mask_at d (place_at mode flavor d i j) ≡ bit_xor (mask_at d i) (mask_at d j)
  unfolding place_at
  mask_met = order_place d (bit_xor (mask_at d i) (mask_at d j)) (xor_lt d (mask_at d i) (mask_at d j) (order_at d i h).low (order_at d j l).low)

  -- What two places stand for, one after the other, is by the relations the metric of the pair times what its place stands for.
  pub metric_from_relations : Equals (squares mode flavor) d (stands d (mask_at d i) ++ stands d (mask_at d j)) (metric_at mode flavor d i j)
      (stands d (mask_at d (place_at mode flavor d i j)))
  metric_from_relations = rw (taken_metric, mask_met) (metric_derived (squares mode flavor) d (mask_at d i) (mask_at d j))

  -- Any number that the relations give for them is that metric.
  pub metric_only : {s : ℤ} → Equals (squares mode flavor) d (stands d (mask_at d i) ++ stands d (mask_at d j)) s (stands d (mask_at d (place_at mode flavor d i j)))
      → s ≡ metric_at mode flavor d i j
  metric_only e = metric_unique (mask_at d i) (mask_at d j) (rw mask_met at e) ∙ sym taken_metric

-- Place 5 of three dimensions stands for e3 e1.
pub place_five : stands 3 (mask_at 3 5) ≡ 2 ∷ 0 ∷ []
unfolding order grades_below grade
place_five = Rattle.clifford.proofs.Examples.place_five
