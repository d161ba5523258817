-- The product over the whole numbers is that of the flavor's geometric algebra, and its places stand for the words that they should. Assumes nothing.
use mathlib.Core.Path.{◌≡◌, sym, ◌∙◌, ap, ap₂}
use Prim.Native.Nat.{ℕ, ◌^◌, ◌<◌}
use lib.Dec.{lit<}
use Rattle.clifford.specs.Sum.{δ}
use Rattle.clifford.specs.Placed.{stands}
use Rattle.clifford.specs.Algebra.{Clifford, word_value}
use Rattle.clifford.specs.Multivector.{Multivector}
use Rattle.clifford.proofs.AlgebraLaws.{pair}
use Rattle.clifford.proofs.AlgebraModel as Model
use Rattle.clifford.proofs.AlgebraWords as Words
use Rattle.masks.specs.declared.flavor.Flavor.{Flavor}
use Rattle.masks.specs.Order.{place}
use Rattle.masks.specs.Flavor.{metric_of}
use Rattle.product.specs.Pairwise.{mask_at}
use Rattle.product.specs.Whole.{whole, basis_vector}
use Rattle.product.proofs.WholeLaws.{bijective, place_five}

module _ (flavor : Flavor) (d : ℕ) where
  -- The multivectors are an algebra of the flavor's relations.
  pub algebra : Clifford (Multivector d) (metric_of flavor) d
  algebra = Model.algebra (metric_of flavor) d (mask_at d) (place d) (bijective d)

  open algebra use {◌·◌, e}

  -- Its product is `whole`.
  pub product_is : (x y : Multivector d) (k : ℕ) → (x · y).coefficient k ≡ whole flavor d x.coefficient y.coefficient k
  unfolding algebra
  product_is = Model.product_is (metric_of flavor) d (mask_at d) (place d) (bijective d)

  -- Its vectors are `basis_vector`.
  pub vector_is : (i : ℕ) → i < d → (e i).coefficient ≡ basis_vector d i
  unfolding algebra
  vector_is = Model.vector_is (metric_of flavor) d (mask_at d) (place d) (bijective d)

  -- The vectors of a mask multiplied in rising order, but at d = 3 those of 101 as e3 e1, are 1 at the mask's place and 0 elsewhere.
  pub stands_placed : (m : ℕ) → m < 2 ^ d → (k : ℕ) → (word_value algebra (stands d m)).coefficient k ≡ δ (place d m) k
  unfolding algebra
  stands_placed = Words.stands_placed (metric_of flavor) d (mask_at d) (place d) (bijective d)

-- At d = 3 e3 e1 is 1 at place 5 and 0 elsewhere.
module _ (flavor : Flavor) where
  open algebra flavor 3 use {e}

  pub e3_e1 : (k : ℕ) → whole flavor 3 (basis_vector 3 2) (basis_vector 3 0) k ≡ δ 5 k
  e3_e1 k =
      ap₂ (λ x y. whole flavor 3 x y k) (sym (vector_is flavor 3 2 (lit< tt))) (sym (vector_is flavor 3 0 (lit< tt)))
      ∙ sym (product_is flavor 3 (e 2) (e 0) k)
      ∙ ap (λ (x : Multivector 3). x.coefficient k) (sym (pair (algebra flavor 3) 2 0) ∙ ap (word_value (algebra flavor 3)) (sym place_five))
      ∙ stands_placed flavor 3 (mask_at 3 5) ((bijective 3).order_lt 5 (lit< tt)) k
      ∙ ap (λ (p : ℕ). δ p k) ((bijective 3).place_order 5 (lit< tt))
