-- The pairs of all coefficients together are those of the product: each pair goes to one place, and the order has each mask once. Assumes nothing.
use mathlib.Core.Path.{◌≡◌, refl, sym, ap, ◌∙◌}
use mathlib.Core.Bool.{Bool, true, false, ◌&&◌, cond}
use Prim.Native.Nat.{ℕ, zero, suc, ◌+◌, ◌^◌, ◌<◌}
use native.Mathlib.Decide.{ℕ_discrete}
use native.Mathlib.Nat.{zero-add, add-zero}
use native.Mathlib.Omega.{arith}
use lib.Dec.{eqb}
use lib.IntN.{ℤ, pos}
use borrow.Author.Tests.{eq-eqb, ne_eqb}
use Rattle.clifford.specs.Metric.{metric}
use Rattle.clifford.specs.Pairs.{nonzero, pairs}
use Rattle.clifford.specs.Sum.{total}
use Rattle.clifford.proofs.CountLaws.{count_total}
use Rattle.clifford.proofs.Counting.{num}
use Rattle.clifford.proofs.SumLaws.{total_ext, total_add}
use Rattle.masks.specs.declared.flavor.Flavor.{Flavor}
use Rattle.masks.specs.Order.{place}
use Rattle.masks.proofs.OrderLaws.{order_at, order_place, place_lt}
use Rattle.product.specs.declared.mode.Mode.{Mode}
use Rattle.product.specs.Mode.{takes, squares, pair_metric}
use Rattle.product.specs.Pairwise.{mask_at, metric_at, place_at, pairs_of}
use Rattle.product.specs.Accuracy.{contributes, contributing}
use Rattle.product.proofs.PairwisePartners.{place_at_lt}

-- ---- sums of counts

total_none : (n : ℕ) → total n (λ i. 0) ≡ 0
unfolding total
total_none zero = refl
total_none (suc n) = ap (λ (k : ℕ). k + 0) (total_none n)

pub total_swap : (n m : ℕ) (f : ℕ → ℕ → ℕ) → total n (λ i. total m (λ j. f i j)) ≡ total m (λ j. total n (λ i. f i j))
unfolding total
total_swap zero m f = sym (total_none m)
total_swap (suc n) m f = rw (total_swap n m f) (sym (total_add m (λ j. total n (λ i. f i j)) (λ j. f n j)))

-- A sum whose terms are 0 but at k is its term at k.
pub total_pick : (n k : ℕ) (f : ℕ → ℕ) → k < n → total n (λ i. cond (eqb k i) (f i) 0) ≡ f k
unfolding total
total_pick zero k f h = absurd (omega arith)
total_pick (suc n) k f h = elim (ℕ_discrete k n) [
  | yes e ↦ rw (
    total_ext n (λ i. cond (eqb k i) (f i) 0) (λ i. 0) (λ i l. rw (ne_eqb k i (λ q. omega arith))),
    total_none n,
    eq-eqb k n e,
    zero-add (f n),
  ) (ap f (sym e))
  | no e ↦ rw (ne_eqb k n e, add-zero) (total_pick n k f (omega arith))
]

-- A sum may go through its indices in the order p, where q gives each one's place in it.
module _ (n : ℕ) (p q : ℕ → ℕ) (p-low : (i : ℕ) → i < n → p i < n) (q-low : (m : ℕ) → m < n → q m < n)
    (back : (i : ℕ) → i < n → q (p i) ≡ i) (forth : (m : ℕ) → m < n → p (q m) ≡ m) where
  same_test : (i m : ℕ) → i < n → m < n → eqb (p i) m ≡ eqb (q m) i
  same_test i m h l = elim (ℕ_discrete (p i) m) [
    | yes e ↦ eq-eqb (p i) m e ∙ sym (eq-eqb (q m) i (ap q (sym e) ∙ back i h))
    | no e ↦ ne_eqb (p i) m e ∙ sym (ne_eqb (q m) i (λ g. e (ap p (sym g) ∙ forth m l)))
  ]

  pub total_reordered : (f : ℕ → ℕ) → total n (λ i. f (p i)) ≡ total n f
  total_reordered f =
      total_ext n _ _ (λ i h. sym (total_pick n (p i) f (p-low i h)))
      ∙ total_swap n n (λ i m. cond (eqb (p i) m) (f m) 0)
      ∙ total_ext n _ _ (λ m l.
      total_ext n _ _ (λ i h. ap (λ t. cond t (f m) 0) (same_test i m h l))
      ∙ total_pick n (q m) (λ i. f m) (q-low m l))

-- ---- the pairs

num_test : (x y : Bool) → num (x && y) ≡ cond y (num x) 0
num_test true true = refl
num_test true false = refl
num_test false true = refl
num_test false false = refl

nonzero_taken : (t : Bool) (m : ℤ) → nonzero (cond t m (pos 0)) ≡ (t && nonzero m)
nonzero_taken true m = refl
nonzero_taken false m = refl

-- A sum over places is a sum over masks.
by_masks : (d : ℕ) (f : ℕ → ℕ) → total (2 ^ d) (λ i. f (mask_at d i)) ≡ total (2 ^ d) f
by_masks d = total_reordered (2 ^ d) (mask_at d) (place d) (λ i h. (order_at d i h).low) (place_lt d) (λ i h. (order_at d i h).back) (order_place d)

module _ (mode : Mode) (flavor : Flavor) (d : ℕ) where
  -- The pair of i and j counts once.
  counted : ℕ → ℕ → ℕ
  counted i j = num (nonzero (metric_at mode flavor d i j))

  contributing_total : (k : ℕ) → contributing mode flavor d k ≡ total (2 ^ d) (λ j. total (2 ^ d) (λ i. cond (eqb (place_at mode flavor d i j) k) (counted i j) 0))
  unfolding contributing contributes counted
  contributing_total k =
      total_ext (2 ^ d) _ _ (λ j _. count_total (2 ^ d) _ ∙ total_ext (2 ^ d) _ _ (λ i _. num_test (nonzero (metric_at mode flavor d i j)) (eqb (place_at mode flavor d i j) k)))

  counted_masks : (i j : ℕ) → counted i j ≡ num (takes mode (mask_at d i) (mask_at d j) && nonzero (metric (squares mode flavor) d (mask_at d i) (mask_at d j)))
  unfolding counted metric_at pair_metric
  counted_masks i j = ap num (nonzero_taken (takes mode (mask_at d i) (mask_at d j)) _)

  pairs_counted : total (2 ^ d) (λ i. total (2 ^ d) (λ j. counted i j)) ≡ pairs_of mode flavor d
  unfolding pairs_of pairs
  pairs_counted =
      let g : ℕ → ℕ → ℕ = λ a b. num (takes mode a b && nonzero (metric (squares mode flavor) d a b)) in
      total_ext (2 ^ d) _ _ (λ i _. total_ext (2 ^ d) _ _ (λ j _. counted_masks i j) ∙ by_masks d (λ b. g (mask_at d i) b))
      ∙ by_masks d (λ a. total (2 ^ d) (λ b. g a b))
      ∙ total_ext (2 ^ d) _ _ (λ a _. sym (count_total (2 ^ d) _))

  -- The pairs of all coefficients together are those of the product.
  pub contributing_pairs : total (2 ^ d) (λ k. contributing mode flavor d k) ≡ pairs_of mode flavor d
  contributing_pairs =
      total_ext (2 ^ d) _ _ (λ k _. contributing_total k)
      ∙ total_swap (2 ^ d) (2 ^ d) _
      ∙ total_ext (2 ^ d) _ _ (λ j hj.
      total_swap (2 ^ d) (2 ^ d) _
      ∙ total_ext (2 ^ d) _ _ (λ i hi. total_pick (2 ^ d) (place_at mode flavor d i j) (λ k. counted i j) (place_at_lt mode flavor d i j hi hj)))
      ∙ total_swap (2 ^ d) (2 ^ d) (λ j i. counted i j)
      ∙ pairs_counted
