-- In the algebra of multivectors the word that a mask stands for is 1 at the mask's place and 0 elsewhere. It stands apart from AlgebraModel, whose last law
-- it rests on: a wrong definition that mends all but that law is refused there.
use mathlib.Core.Path.{◌≡◌, ◌∙◌, ap}
use Prim.Native.Nat.{ℕ, zero, suc, ◌-◌, ◌^◌, ◌<◌, ◌≤◌}
use native.Mathlib.Nat.{le_refl}
use native.Mathlib.Omega.{arith}
use native.Mathlib.Decide.{dec_lt}
use lib.Bits.{bit_xor}
use lib.IntN.{ℤ}
use Rattle.clifford.specs.Sum.{δ}
use Rattle.clifford.specs.Placed.{stands}
use Rattle.clifford.specs.Algebra.{Clifford, word_value}
use Rattle.clifford.specs.Product.{Bijection}
use Rattle.clifford.specs.Multivector.{Multivector}
use Rattle.clifford.proofs.VectorLaws.{above}
use Rattle.clifford.proofs.AlgebraModel as Model

module _ (g : ℕ → ℤ) (d : ℕ) (order place : ℕ → ℕ) (inverse : Bijection d order place) where
  abbrev model : Clifford (Multivector d) g d
  model = Model.algebra g d order place inverse

  abbrev blade : ℕ → Multivector d
  blade = Model.blade g d order place inverse

  word_blade : (n : ℕ) → n ≤ d → (m : ℕ) → m < 2 ^ n → word_value model (stands d m) ≡ blade m
  word_blade zero l m h = rw (none m h) (Model.word_none g d order place inverse)
    where
      none : (m : ℕ) → m < 1 → m ≡ 0
      none m h = omega arith
  word_blade (suc n) l m h =
      elim (dec_lt m (2 ^ n)) [
        | yes k ↦ word_blade n (omega arith) m k
        | no k ↦ rw (← joined k) (Model.word_step g d order place inverse n (m - 2 ^ n) l (omega arith) (word_blade n (omega arith) (m - 2 ^ n) (omega arith)))
      ]
    where
      joined : ¬ (m < 2 ^ n) → bit_xor (m - 2 ^ n) (2 ^ n) ≡ m
      joined k = above n (m - 2 ^ n) (omega arith) ∙ omega arith

  -- The vectors of a mask, multiplied in the order that it stands for, are 1 at the mask's place and 0 elsewhere.
  pub stands_placed : (m : ℕ) → m < 2 ^ d → (k : ℕ) → (word_value model (stands d m)).coefficient k ≡ δ (place m) k
  stands_placed m h k =
      ap (λ (x : Multivector d). x.coefficient k) (word_blade d (le_refl d) m h)
      ∙ ap (λ (f : ℕ → ℤ). f k) (Model.blade_is g d order place inverse m h)
