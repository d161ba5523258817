-- Laws of `reversed`: each coefficient is kept or negated by its grade, and the exact sizes of a product are those of the reversed factors exchanged. Assumes nothing.
use mathlib.Core.Path.{◌≡◌, refl, sym, ap, ap₂, ◌∙◌}
use mathlib.Core.Bool.{Bool, true, false, not, ◌&&◌, ◌||◌, cond, and_comm}
use mathlib.Core.List.{List}
use Prim.Native.Nat.{ℕ, ◌*◌, ◌%◌, ◌^◌, ◌<◌}
use native.Mathlib.Nat.{mul_comm}
use native.Mathlib.Omega.{arith}
use lib.Bits.{xor_comm}
use lib.Count.{ones}
use lib.Dec.{eqb, ltb}
use lib.Ieee.{Float, nan, inf, fin, binary64, neg}
use lib.Ieee.Fits.{neg-fits, cond-fits}
use lib.IntN.{ℤ, pos, neg_ℤ, ◌*ℤ◌, neg_ℤ-neg_ℤ}
use lib.ListN.{get_or}
use Rattle.clifford.specs.Blade.{has, count}
use Rattle.clifford.specs.Sign.{reversal}
use Rattle.clifford.specs.Pairs.{nonzero}
use Rattle.clifford.specs.Product.{reverse_whole}
use Rattle.clifford.proofs.Ring.{one_mul, neg_mul}
use Rattle.clifford.proofs.SumLaws.{total_ext}
use Rattle.clifford.proofs.CountLaws.{count_ones}
use Rattle.clifford.proofs.Counting.{every_ext}
use Rattle.clifford.proofs.PairsLaws.{nonzero_metric}
use Rattle.rounding.specs.Value.{size_in, Whole}
use Rattle.masks.specs.declared.flavor.Flavor.{Flavor}
use Rattle.masks.specs.Order.{order, place}
use Rattle.masks.specs.Flavor.{metric_of}
use Rattle.masks.specs.Shape.{negated_if}
use Rattle.masks.proofs.ListLaws.{get_d_map}
use Rattle.masks.proofs.OrderLaws.{length_order, order_at}
use Rattle.masks.proofs.ShapeLaws.{coef_inside, ordered_length}
use Rattle.product.specs.declared.mode.Mode.TheVariants.{All}
use Rattle.product.specs.Mode.{takes, flavor_for, pair_metric}
use Rattle.product.specs.Pairwise.{mask_at, metric_at, place_at}
use Rattle.product.specs.Accuracy.{value_in, exact_size_at, exact_value_at, contributes, exact_sizes, Holds, Multiples, ExactCase}
use Rattle.product.specs.Reverse.{reversed}
use Rattle.product.proofs.PairsTotal.{total_swap}

-- ---- one number

pub size_negated : (b : Bool) (u : ℕ) (x : Float) → size_in u (negated_if b x) ≡ size_in u x
unfolding neg
size_negated false u x = refl
size_negated true u nan = refl
size_negated true u (inf s) = refl
size_negated true u (fin s m e) = refl

pub whole_negated : (b : Bool) (u : ℕ) (x : Float) → Whole u x → Whole u (negated_if b x)
unfolding neg
whole_negated false u x w = w
whole_negated true u nan w = w
whole_negated true u (inf s) w = w
whole_negated true u (fin s m e) w = (refl, w.1)

pub value_negated : (b : Bool) (u : ℕ) (x : Float) → value_in u (negated_if b x) ≡ cond b (neg_ℤ (value_in u x)) (value_in u x)
unfolding neg value_in
value_negated false u x = refl
value_negated true u nan = refl
value_negated true u (inf true) = refl
value_negated true u (inf false) = refl
value_negated true u (fin true m e) = sym (neg_ℤ-neg_ℤ (pos (size_in u (fin true m e))))
value_negated true u (fin false m e) = refl

-- ---- each coefficient

-- `turns m` says whether `reversed` negates the coefficient of a mask.
abbrev turns : ℕ → Bool
turns m = not (ltb (ones m % 4) 2)

module _ (d : ℕ) (a : List Float) where
  pub reversed_at : (k : ℕ) → k < 2 ^ d → get_or (reversed d a) k nan ≡ negated_if (turns (mask_at d k)) (get_or a k nan)
  unfolding reversed
  reversed_at k h =
      get_d_map _ (order d) k 0 nan (omega (arith, length_order d))
      ∙ ap (negated_if (turns (mask_at d k))) (coef_inside d (mask_at d k) a (order_at d k h).low ∙ ap (λ (i : ℕ). get_or a i nan) (order_at d k h).back)

  pub reversed_holds : Holds d a → Holds d (reversed d a)
  unfolding reversed
  reversed_holds v =
      record {
        many = ordered_length _ d;
        held = λ i h. rw (reversed_at i h) (cond-fits binary64 (turns (mask_at d i)) (neg (get_or a i nan)) (get_or a i nan) (neg-fits binary64 (get_or a i nan) (v.held i h)) (v.held i h));
      }

  pub reversed_multiples : (p : ℕ) → Multiples p d a → Multiples p d (reversed d a)
  reversed_multiples p w i h = rw (reversed_at i h) (whole_negated (turns (mask_at d i)) p (get_or a i nan) (w i h))

  pub reversed_size : (p k : ℕ) → k < 2 ^ d → exact_size_at p (reversed d a) k ≡ exact_size_at p a k
  reversed_size p k h = ap (size_in p) (reversed_at k h) ∙ size_negated (turns (mask_at d k)) p (get_or a k nan)

  pub reversed_value : (p k : ℕ) → k < 2 ^ d → exact_value_at p (reversed d a) k ≡ reverse_whole d (mask_at d) (exact_value_at p a) k
  unfolding reverse_whole reversal
  reversed_value p k h =
      ap (value_in p) (reversed_at k h) ∙ value_negated (turns (mask_at d k)) p (get_or a k nan)
      ∙ rw (count_ones d (mask_at d k) (order_at d k h).low) (by_sign (ltb (ones (mask_at d k) % 4) 2) (exact_value_at p a k))
    where
      by_sign : (b : Bool) (z : ℤ) → cond (not b) (neg_ℤ z) z ≡ cond b (pos 1) (neg_ℤ (pos 1)) *ℤ z
      by_sign true z = sym (one_mul z)
      by_sign false z = sym (neg_mul (pos 1) z ∙ ap neg_ℤ (one_mul z))

-- `reverse_whole` at a place rests on the coefficient there alone.
pub reverse_ext : (d : ℕ) (order : ℕ → ℕ) (a b : ℕ → ℤ) (k : ℕ) → a k ≡ b k → reverse_whole d order a k ≡ reverse_whole d order b k
unfolding reverse_whole
reverse_ext d order a b k e = ap (λ z. reversal (count d (has (order k))) *ℤ z) e

-- ---- the exact sizes of a product

module _ (flavor : Flavor) (d : ℕ) where
  -- A pair and the pair the other way round contribute to the same coefficient.
  contributes_swapped : (k i j : ℕ) → contributes All flavor d k i j ≡ contributes All flavor d k j i
  unfolding contributes metric_at place_at pair_metric takes flavor_for
  contributes_swapped k i j =
      let g = metric_of flavor in
      let x = mask_at d i in
      let y = mask_at d j in
      ap₂ (λ (s : Bool) (m : ℕ). s && eqb (place d m) k)
      (nonzero_metric g d x y ∙ every_ext d _ _ (λ n l. ap (λ (z : Bool). not z || nonzero (g n)) (and_comm (has x n) (has y n))) ∙ sym (nonzero_metric g d y x))
      (xor_comm x y)

  pub reversed_sizes : (k p q : ℕ) (a b : List Float) → exact_sizes All flavor d k q p (reversed d b) (reversed d a) ≡ exact_sizes All flavor d k p q a b
  unfolding exact_sizes
  reversed_sizes k p q a b =
      total_ext (2 ^ d) _ _ (λ j hj.
      total_ext (2 ^ d) _ _ (λ i hi.
      ap₂ (λ (t : Bool) (n : ℕ). cond t n 0) (contributes_swapped k i j)
      (ap₂ (λ (m n : ℕ). m * n) (reversed_size d b q i hi) (reversed_size d a p j hj) ∙ mul_comm (exact_size_at q b i) (exact_size_at p a j))))
      ∙ total_swap (2 ^ d) (2 ^ d) (λ j i. cond (contributes All flavor d k j i) (exact_size_at p a j * exact_size_at q b i) 0)

  -- The exact case of the reversed factors, exchanged.
  pub reversed_case : (a b : List Float) → ExactCase All flavor d a b → ExactCase All flavor d (reversed d b) (reversed d a)
  reversed_case a b c =
      record {
        p = c.q;
        q = c.p;
        fine = omega (arith, c.fine);
        left = reversed_multiples d b c.q c.right;
        right = reversed_multiples d a c.p c.left;
        small = λ k h. rw (reversed_sizes k c.p c.q a b) (c.small k h);
      }
