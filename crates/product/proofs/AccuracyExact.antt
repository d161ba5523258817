-- One coefficient exactly: the pairs that contribute to it are one for each place of b, which are the gathered terms; and its exact sum is that of the
-- product over whole numbers. Assumes nothing.
use mathlib.Core.Path.{◌≡◌, refl, sym, ap, ◌∙◌}
use mathlib.Core.Logic.{◌⊎◌, inl, inr}
use mathlib.Core.Bool.{Bool, true, false, ◌&&◌, cond}
use mathlib.Core.List.{List}
use Prim.Native.Nat.{ℕ, zero, suc, ◌+◌, ◌*◌, ◌^◌, ◌<◌}
use native.Mathlib.Nat.{one-mul}
use native.Mathlib.Decide.{ℕ_discrete}
use native.Mathlib.Omega.{arith}
use borrow.Author.Tests.{eq-eqb, ne_eqb}
use lib.Dec.{eqb}
use lib.Ieee.{Float, nan, unlike}
use lib.IntN.{ℤ, pos, negsuc, neg_ℤ, ◌+ℤ◌, ◌-ℤ◌, ◌*ℤ◌, zero-*ℤ, *ℤ-zero, +ℤ_idl, +ℤ_idr, +ℤ_assoc, neg_ℤ-+ℤ, neg_ℤ-neg_ℤ}
use lib.ListN.{get_or}
use Rattle.clifford.specs.Sum.{sum, total, δ}
use Rattle.clifford.specs.Pairs.{nonzero}
use Rattle.clifford.specs.Product.{multiply}
use Rattle.clifford.proofs.Ring as Ring
use Rattle.clifford.proofs.CountLaws.{count_total}
use Rattle.clifford.proofs.SumLaws.{sum_ext, sum_at_lem, total_ext}
use Rattle.rounding.specs.Signed.{above_zero, below_zero}
use Rattle.rounding.specs.Value.{sign_of, size_in}
use Rattle.rounding.specs.Terms.{Term, live_count, product_sign, product_size, ups, downs, sizes_total}
use Rattle.rounding.proofs.SignedLaws.{parts}
use Rattle.masks.specs.declared.flavor.Flavor.{Flavor}
use Rattle.masks.specs.Order.{place}
use Rattle.masks.proofs.OrderLaws.{order_at, order_place}
use Rattle.product.specs.declared.mode.Mode.{Mode}
use Rattle.product.specs.declared.mode.Mode.TheVariants.{All}
use Rattle.product.specs.Mode.{takes, flavor_for, pair_metric}
use Rattle.product.specs.Pairwise.{mask_at, metric_at, place_at}
use Rattle.product.specs.inner.Pairwise.{negative, partner, gathered}
use Rattle.product.specs.Whole.{whole}
use Rattle.product.specs.Accuracy.{value_in, exact_size_at, exact_value_at, contributes, contributing, exact_sizes, exact_sum}
use Rattle.product.proofs.MetricSigns.{metric_unital}
use Rattle.product.proofs.PairsTotal.{total_pick}
use Rattle.product.proofs.PairwisePartners.{partner_low, partner_place, partner_there, partner_goes}

-- ---- the product over whole numbers

-- A pair that doesn't contribute has a product of 0, or another place.
term_by_δ : (m x y : ℤ) (e : Bool) → cond (nonzero m && e) (m *ℤ x *ℤ y) (pos 0) ≡ cond e (pos 1) (pos 0) *ℤ (m *ℤ x *ℤ y)
term_by_δ m x y e = go (nonzero m) refl e
  where
    nought : (m : ℤ) → nonzero m ≡ false → m *ℤ x *ℤ y ≡ pos 0
    nought (pos zero) h = rw (zero-*ℤ x, zero-*ℤ y)
    nought (pos (suc n)) h = cc
    nought (negsuc n) h = cc

    go : (t : Bool) → nonzero m ≡ t → (e : Bool) → cond (t && e) (m *ℤ x *ℤ y) (pos 0) ≡ cond e (pos 1) (pos 0) *ℤ (m *ℤ x *ℤ y)
    go true h true = sym (Ring.one_mul (m *ℤ x *ℤ y))
    go true h false = sym (zero-*ℤ (m *ℤ x *ℤ y))
    go false h e = sym (ap (λ z. cond e (pos 1) (pos 0) *ℤ z) (nought m h) ∙ *ℤ-zero (cond e (pos 1) (pos 0)))

pub exact_sum_whole : (flavor : Flavor) (d k p q : ℕ) (a b : List Float) → k < 2 ^ d → exact_sum All flavor d k p q a b ≡ whole flavor d (exact_value_at p a) (exact_value_at q b) k
unfolding exact_sum contributes metric_at place_at pair_metric takes flavor_for multiply δ
exact_sum_whole flavor d k p q a b _ =
    sum_ext (2 ^ d) _ _ (λ j _. sum_ext (2 ^ d) _ _ (λ i _. term_by_δ (metric_at All flavor d i j) (exact_value_at p a i) (exact_value_at q b j) (eqb (place_at All flavor d i j) k)))

-- ---- of a sum, the term at one index

sum_pick : (n c : ℕ) (f : ℕ → ℤ) → c < n → sum n (λ i. cond (eqb c i) (f i) (pos 0)) ≡ f c
unfolding δ
sum_pick n c f l = sum_ext n _ _ (λ i _. go (eqb c i) (f i)) ∙ sum_at_lem n c f l
  where
    go : (t : Bool) (x : ℤ) → cond t x (pos 0) ≡ cond t (pos 1) (pos 0) *ℤ x
    go true x = sym (Ring.one_mul x)
    go false x = sym (zero-*ℤ x)

-- ---- for each place of b, one place of a

partner_mask : (d j k : ℕ) → j < 2 ^ d → k < 2 ^ d → mask_at d (place d (partner d j k)) ≡ partner d j k
partner_mask d j k hj hk = order_place d (partner d j k) (partner_low d j k hj hk)

-- With b's place j, the partner's place alone goes to place k.
one_place : (mode : Mode) (flavor : Flavor) (d i j k : ℕ) → i < 2 ^ d → j < 2 ^ d → k < 2 ^ d → eqb (place_at mode flavor d i j) k ≡ eqb (place d (partner d j k)) i
one_place mode flavor d i j k hi hj hk = go (ℕ_discrete (place d (partner d j k)) i)
  where
    there : place d (partner d j k) ≡ i → place_at mode flavor d i j ≡ k
    there e = ap (λ (p : ℕ). place_at mode flavor d p j) (sym e) ∙ partner_goes mode flavor d j k hj hk

    back : place_at mode flavor d i j ≡ k → place d (partner d j k) ≡ i
    back e = ap (λ (p : ℕ). place d (partner d j p)) (sym e) ∙ ap (place d) (partner_there mode flavor d i j hi hj) ∙ (order_at d i hi).back

    go : Dec (place d (partner d j k) ≡ i) → eqb (place_at mode flavor d i j) k ≡ eqb (place d (partner d j k)) i
    go (yes e) = eq-eqb _ k (there e) ∙ sym (eq-eqb _ i e)
    go (no e) = ne_eqb _ k (λ q. e (back q)) ∙ sym (ne_eqb _ i e)

-- What is added over all pairs that contribute to k, in whole numbers or in counts, is added over the places of b.
module _ {A : Type 0} (none : A) (fold : ℕ → (ℕ → A) → A)
    (fold-ext : (n : ℕ) (f g : ℕ → A) → ((i : ℕ) → i < n → f i ≡ g i) → fold n f ≡ fold n g)
    (fold-pick : (n c : ℕ) (f : ℕ → A) → c < n → fold n (λ i. cond (eqb c i) (f i) none) ≡ f c)
    (mode : Mode) (flavor : Flavor) (d k : ℕ) (hk : k < 2 ^ d) where
  pairs_by_place : (f : ℕ → ℕ → A) → fold (2 ^ d) (λ j. fold (2 ^ d) (λ i. cond (contributes mode flavor d k i j) (f i j) none))
      ≡ fold (2 ^ d) (λ j. cond (nonzero (pair_metric mode flavor d (partner d j k) (mask_at d j))) (f (place d (partner d j k)) j) none)
  unfolding contributes metric_at
  pairs_by_place f =
      fold-ext (2 ^ d) _ _ (λ j hj.
      fold-ext (2 ^ d) _ _ (λ i hi.
      ap (λ t. cond (nonzero (metric_at mode flavor d i j) && t) (f i j) none) (one_place mode flavor d i j k hi hj hk)
      ∙ apart (nonzero (metric_at mode flavor d i j)) (eqb (place d (partner d j k)) i) (f i j))
      ∙ fold-pick (2 ^ d) (place d (partner d j k)) (λ i. cond (nonzero (metric_at mode flavor d i j)) (f i j) none) (partner_place d j k hj hk)
      ∙ ap (λ (m : ℕ). cond (nonzero (pair_metric mode flavor d m (mask_at d j))) (f (place d (partner d j k)) j) none) (partner_mask d j k hj hk))
    where
      apart : (t u : Bool) (x : A) → cond (t && u) x none ≡ cond u (cond t x none) none
      apart true true x = refl
      apart true false x = refl
      apart false true x = refl
      apart false false x = refl

-- ---- signed numbers

-- The whole number of a sign and a size.
abbrev signed : Bool → ℕ → ℤ
signed s n = cond s (neg_ℤ (pos n)) (pos n)

signed_mul : (s t : Bool) (m n : ℕ) → signed s m *ℤ signed t n ≡ signed (unlike s t) (m * n)
signed_mul false false m n = refl
signed_mul false true m n = Ring.mul_neg (pos m) (pos n)
signed_mul true false m n = Ring.neg_mul (pos m) (pos n)
signed_mul true true m n = Ring.neg_mul (pos m) (neg_ℤ (pos n)) ∙ ap neg_ℤ (Ring.mul_neg (pos m) (pos n)) ∙ neg_ℤ-neg_ℤ (pos (m * n))

-- A metric of -1, 0 or 1 gives a product's sign.
metric_mul : (m : ℤ) → (m ≡ negsuc 0) ⊎ ((m ≡ pos 0) ⊎ (m ≡ pos 1)) → (s t : Bool) (x y : ℕ)
    → cond (nonzero m) (m *ℤ signed s x *ℤ signed t y) (pos 0) ≡ cond (nonzero m) (signed (unlike (unlike (negative m) s) t) (x * y)) (pos 0)
metric_mul m u s t x y = go u
  where
    unit : (r : Bool) → signed r 1 *ℤ signed s x *ℤ signed t y ≡ signed (unlike (unlike r s) t) (x * y)
    unit r =
        ap (λ z. z *ℤ signed t y) (signed_mul r s 1 x) ∙ signed_mul (unlike r s) t (1 * x) y
        ∙ ap (λ (n : ℕ). signed (unlike (unlike r s) t) (n * y)) (one-mul x)

    go : (m ≡ negsuc 0) ⊎ ((m ≡ pos 0) ⊎ (m ≡ pos 1))
        → cond (nonzero m) (m *ℤ signed s x *ℤ signed t y) (pos 0) ≡ cond (nonzero m) (signed (unlike (unlike (negative m) s) t) (x * y)) (pos 0)
    go (inl e) = rw e (unit true)
    go (inr (inl e)) = rw e refl
    go (inr (inr e)) = rw e (unit false)

-- ---- the terms' counts, sizes and sums

count_terms : (ts : ℕ → Term) (n : ℕ) → total n (λ j. cond (ts j).live 1 0) ≡ live_count ts n
unfolding total
count_terms ts zero = refl
count_terms ts (suc n) = ap (λ (x : ℕ). x + cond (ts n).live 1 0) (count_terms ts n) ∙ go (ts n).live (live_count ts n)
  where
    go : (t : Bool) (x : ℕ) → x + cond t 1 0 ≡ cond t (suc x) x
    go true x = omega arith
    go false x = omega arith

module _ (p q : ℕ) (ts : ℕ → Term) where
  size_terms : (n : ℕ) → total n (λ j. cond (ts j).live (product_size p q (ts j)) 0) ≡ sizes_total p q ts n
  unfolding total
  size_terms zero = refl
  size_terms (suc n) =
      ap (λ (x : ℕ). x + cond (ts n).live (product_size p q (ts n)) 0) (size_terms n)
      ∙ go (ts n).live (product_sign (ts n)) (product_size p q (ts n)) (ups p q ts n) (downs p q ts n)
    where
      go : (t s : Bool) (x u v : ℕ) → u + v + cond t x 0 ≡ cond t (u + above_zero s x) u + cond t (v + below_zero s x) v
      go true s x u v = omega (arith, parts s x)
      go false s x u v = omega arith

  sum_terms : (n : ℕ) → sum n (λ j. cond (ts j).live (signed (product_sign (ts j)) (product_size p q (ts j))) (pos 0)) ≡ pos (ups p q ts n) -ℤ pos (downs p q ts n)
  unfolding sum
  sum_terms zero = refl
  sum_terms (suc n) =
      ap (λ z. z +ℤ cond (ts n).live (signed (product_sign (ts n)) (product_size p q (ts n))) (pos 0)) (sum_terms n)
      ∙ go (ts n).live (product_sign (ts n)) (product_size p q (ts n)) (ups p q ts n) (downs p q ts n)
    where
      add : (u v x y : ℤ) → u -ℤ v +ℤ (x -ℤ y) ≡ u +ℤ x -ℤ (v +ℤ y)
      add u v x y = rw (neg_ℤ-+ℤ v y) (simp (+ℤ_assoc, Ring.+-left_comm))

      halves : (s : Bool) (x : ℕ) → signed s x ≡ pos (above_zero s x) -ℤ pos (below_zero s x)
      halves false x = sym (+ℤ_idr (pos x))
      halves true x = sym (+ℤ_idl (neg_ℤ (pos x)))

      go : (t s : Bool) (x u v : ℕ) → pos u -ℤ pos v +ℤ cond t (signed s x) (pos 0) ≡ pos (cond t (u + above_zero s x) u) -ℤ pos (cond t (v + below_zero s x) v)
      go true s x u v = ap (λ z. pos u -ℤ pos v +ℤ z) (halves s x) ∙ add (pos u) (pos v) (pos (above_zero s x)) (pos (below_zero s x))
      go false s x u v = +ℤ_idr (pos u -ℤ pos v)

-- ---- one coefficient's numbers are those of its gathered terms

module _ (mode : Mode) (flavor : Flavor) (d k : ℕ) (h : k < 2 ^ d) (a b : List Float) where
  pub contributing_count : contributing mode flavor d k ≡ live_count (gathered mode flavor d a b k) (2 ^ d)
  unfolding contributing gathered
  contributing_count =
      total_ext (2 ^ d) _ _ (λ j _. count_total (2 ^ d) (λ i. contributes mode flavor d k i j))
      ∙ pairs_by_place 0 total total_ext total_pick mode flavor d k h (λ i j. 1)
      ∙ count_terms (gathered mode flavor d a b k) (2 ^ d)

  pub exact_sizes_total : (p q : ℕ) → exact_sizes mode flavor d k p q a b ≡ sizes_total p q (gathered mode flavor d a b k) (2 ^ d)
  unfolding exact_sizes gathered
  exact_sizes_total p q =
      pairs_by_place 0 total total_ext total_pick mode flavor d k h (λ i j. exact_size_at p a i * exact_size_at q b j)
      ∙ size_terms p q (gathered mode flavor d a b k) (2 ^ d)

  -- The term of b's place j, by its sign and its size.
  gathered_value : (p q j : ℕ) → j < 2 ^ d
      → let t = gathered mode flavor d a b k j in
      cond t.live (metric_at mode flavor d (place d (partner d j k)) j *ℤ exact_value_at p a (place d (partner d j k)) *ℤ exact_value_at q b j) (pos 0)
      ≡ cond t.live (signed (product_sign t) (product_size p q t)) (pos 0)
  unfolding gathered metric_at value_in
  gathered_value p q j l =
      let m = pair_metric mode flavor d (partner d j k) (mask_at d j) in
      let x = get_or a (place d (partner d j k)) nan in
      let y = get_or b j nan in
      ap (λ (c : ℕ). cond (nonzero m) (pair_metric mode flavor d c (mask_at d j) *ℤ value_in p x *ℤ value_in q y) (pos 0)) (partner_mask d j k l h)
      ∙ metric_mul m (metric_unital mode flavor d (partner d j k) (mask_at d j)) (sign_of x) (sign_of y) (size_in p x) (size_in q y)

  pub exact_sum_parts : (p q : ℕ) → exact_sum mode flavor d k p q a b ≡ pos (ups p q (gathered mode flavor d a b k) (2 ^ d)) -ℤ pos (downs p q (gathered mode flavor d a b k) (2 ^ d))
  unfolding exact_sum gathered
  exact_sum_parts p q =
      pairs_by_place (pos 0) sum sum_ext sum_pick mode flavor d k h (λ i j. metric_at mode flavor d i j *ℤ exact_value_at p a i *ℤ exact_value_at q b j)
      ∙ sum_ext (2 ^ d) _ _ (gathered_value p q)
      ∙ sum_terms p q (gathered mode flavor d a b k) (2 ^ d)
