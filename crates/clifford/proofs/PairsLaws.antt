-- The counts of contributing pairs have closed forms, since a pair contributes by a test at each vector.
use mathlib.Core.Path.{◌≡◌, refl, sym, ◌∙◌, ap, ap₂}
use mathlib.Core.Bool.{Bool, true, false, not, ◌&&◌, ◌||◌, cond}
use Prim.Native.Nat.{ℕ, zero, suc, ◌+◌, ◌-◌, ◌*◌, ◌^◌, ◌<◌, ◌≤◌}
use native.Mathlib.Omega.{arith}
use native.Mathlib.Decide.{ℕ_discrete}
use native.Mathlib.Nat.{add-zero, add_comm, mul-one, mul_assoc, pow-zero, pow-suc}
use native.Mathlib.Numerals.{add-one}
use lib.Dec.{eqb}
use lib.Bits.{bit_and, and_le_l}
use lib.IntN.{ℤ, pos, negsuc, neg_ℤ, ◌*ℤ◌, zero-*ℤ, *ℤ-zero}
use borrow.Author.Tests.{eq-eqb, ne_eqb}
use Rattle.clifford.specs.Blade.{Blade, has, count}
use Rattle.clifford.specs.Sign.{sign}
use Rattle.clifford.specs.Sum.{total}
use Rattle.clifford.specs.Metric.{shared, metric}
use Rattle.clifford.specs.Pairs.{nonzero, within, pairs, nulls}
use Rattle.clifford.proofs.SumLaws.{total_ext, total_add}
use Rattle.clifford.proofs.CountLaws.{count_le, count_total}
use Rattle.clifford.proofs.SignLaws.{sign_square}
use Rattle.clifford.proofs.BladeLaws.{has_and, has_ext}
use Rattle.clifford.proofs.Counting.{every, every_and, every_true, every_at, num, passes, ways, pairs_passing}

-- ---- when the metric is nonzero

positive : (k : ℕ) → 0 < k → nonzero (pos k) ≡ true
positive zero h = absurd (omega arith)
positive (suc k) h = refl

negative : (k : ℕ) → 0 < k → nonzero (neg_ℤ (pos k)) ≡ true
negative zero h = absurd (omega arith)
negative (suc k) h = refl

product_pos : (m n : ℕ) → 0 < suc m * suc n
product_pos m n = omega arith

nonzero_mul : (x y : ℤ) → nonzero (x *ℤ y) ≡ (nonzero x && nonzero y)
nonzero_mul (pos zero) y = ap nonzero (zero-*ℤ y)
nonzero_mul (pos (suc m)) (pos zero) = ap nonzero (*ℤ-zero (pos (suc m)))
nonzero_mul (pos (suc m)) (pos (suc n)) = positive (suc m * suc n) (product_pos m n)
nonzero_mul (pos (suc m)) (negsuc n) = negative (suc m * suc n) (product_pos m n)
nonzero_mul (negsuc m) (pos zero) = ap nonzero (*ℤ-zero (negsuc m))
nonzero_mul (negsuc m) (pos (suc n)) = negative (suc m * suc n) (product_pos m n)
nonzero_mul (negsuc m) (negsuc n) = positive (suc m * suc n) (product_pos m n)

nonzero_sign : (k : ℕ) → nonzero (sign k) ≡ true
nonzero_sign k = both (nonzero (sign k)) (sym (nonzero_mul (sign k) (sign k)) ∙ ap nonzero (sign_square k))
  where
    both : (x : Bool) → (x && x) ≡ true → x ≡ true
    both true e = refl
    both false e = e

-- `kept` tells that vector i is no null vector that both share.
abbrev kept : (ℕ → ℤ) → ℕ → Bool → Bool → Bool
kept g i x y = not (x && y) || nonzero (g i)

nonzero_shared : (g : ℕ → ℤ) (d : ℕ) (a b : Blade) → nonzero (shared g d a b) ≡ every d (λ i. kept g i (a i) (b i))
unfolding shared every
nonzero_shared g zero a b = refl
nonzero_shared g (suc d) a b = nonzero_mul (shared g d a b) _ ∙ ap₂ (λ x y. x && y) (nonzero_shared g d a b) (one (a d && b d))
  where
    one : (x : Bool) → nonzero (cond x (g d) (pos 1)) ≡ (not x || nonzero (g d))
    one true = refl
    one false = refl

-- The metric of a pair is nonzero just where they share no null vector.
pub nonzero_metric : (g : ℕ → ℤ) (d a b : ℕ) → nonzero (metric g d a b) ≡ every d (λ i. not (has a i && has b i) || nonzero (g i))
unfolding metric
nonzero_metric g d a b = nonzero_mul (sign _) (shared g d (has a) (has b)) ∙ rw (nonzero_sign _) (nonzero_shared g d (has a) (has b))

-- ---- a within b, vector by vector

pub within_every : (d a b : ℕ) → a < 2 ^ d → within a b ≡ every d (λ i. not (has a i) || has b i)
unfolding within
within_every d a b h = go (ℕ_discrete (bit_and a b) a)
  where
    held : ℕ → Bool
    held i = not (has a i) || has b i

    lost : (x y : Bool) → (x && y) ≡ x → (not x || y) ≡ true
    lost false y e = refl
    lost true y e = e

    found : (x y : Bool) → (not x || y) ≡ true → (x && y) ≡ x
    found false y e = refl
    found true y e = e

    all : every d held ≡ true → bit_and a b ≡ a
    all e = has_ext d (bit_and a b) a (omega (arith, and_le_l a b)) h (λ i l. has_and a b i ∙ found (has a i) (has b i) (every_at d held e i l))

    none : (x : Bool) → every d held ≡ x → (bit_and a b ≡ a → ⊥) → false ≡ x
    none true e p = absurd (p (all e))
    none false e p = refl

    go : Dec (bit_and a b ≡ a) → eqb (bit_and a b) a ≡ every d held
    go (yes p) = eq-eqb (bit_and a b) a p ∙ sym (every_true d held (λ i _. lost (has a i) (has b i) (sym (has_and a b i) ∙ ap (λ (m : ℕ). has m i) p)))
    go (no p) = ne_eqb (bit_and a b) a p ∙ none (every d held) refl p

-- ---- the closed forms

module _ (g : ℕ → ℤ) where
  -- Where a vector passes in p ways, or in q if it is null, the ways of all multiply to powers.
  ways_power : (t : ℕ → Bool → Bool → Bool) (p q : ℕ)
      → ((i : ℕ) → num (t i false false) + num (t i false true) + (num (t i true false) + num (t i true true)) ≡ cond (nonzero (g i)) p q)
      → (d : ℕ) → ways t d ≡ p ^ (d - nulls g d) * q ^ nulls g d
  unfolding ways nulls count
  ways_power t p q h zero = sym (ap₂ (λ (m n : ℕ). m * n) (pow-zero p) (pow-zero q))
  ways_power t p q h (suc d) =
      ap₂ (λ (m n : ℕ). m * n) (ways_power t p q h d) (h d) ∙ go (nonzero (g d)) (nulls g d) (count_le d (λ i. not (nonzero (g i))))
    where
      more : (d k : ℕ) → k ≤ d → suc d - (k + 0) ≡ suc (d - k)
      more d k l = omega arith

      less : (d k : ℕ) → suc d - (k + 1) ≡ d - k
      less d k = omega arith

      swap : (m n p : ℕ) → m * n * p ≡ m * p * n
      swap m n p = omega arith

      go : (x : Bool) (k : ℕ) → k ≤ d → p ^ (d - k) * q ^ k * cond x p q ≡ p ^ (suc d - (k + cond (not x) 1 0)) * q ^ (k + cond (not x) 1 0)
      go true k l = swap (p ^ (d - k)) (q ^ k) p ∙ ap₂ (λ (m n : ℕ). m * q ^ n) (sym (pow-suc p (d - k))) (sym (add-zero k)) ∙ ap (λ (m : ℕ). p ^ m * q ^ (k + 0)) (sym (more d k l))
      go false k l = mul_assoc (p ^ (d - k)) (q ^ k) q ∙ ap₂ (λ (m n : ℕ). p ^ m * n) (sym (less d k)) (sym (pow-suc q k)) ∙ ap (λ (n : ℕ). p ^ (suc d - (k + 1)) * q ^ n) (sym (add-one k))

  module _ (d : ℕ) where
    pairs_total : (takes : ℕ → ℕ → Bool) → pairs g d takes ≡ total (2 ^ d) (λ a. total (2 ^ d) (λ b. num (takes a b && nonzero (metric g d a b))))
    unfolding pairs
    pairs_total takes = total_ext (2 ^ d) _ _ (λ a _. count_total (2 ^ d) _)

    pairs_ways : (takes : ℕ → ℕ → Bool) (t : ℕ → Bool → Bool → Bool) → ((a b : ℕ) → a < 2 ^ d → b < 2 ^ d → takes a b ≡ passes t d a b)
        → pairs g d takes ≡ ways (λ i x y. t i x y && kept g i x y) d
    pairs_ways takes t e =
        pairs_total takes
        ∙ total_ext (2 ^ d) _ _ (λ a ha. total_ext (2 ^ d) _ _ (λ b hb. ap num (ap₂ (λ x y. x && y) (e a b ha hb) (nonzero_metric g d a b) ∙ every_and d _ _)))
        ∙ pairs_passing (λ i x y. t i x y && kept g i x y) d

    -- All takes every pair.
    pub pairs_all : pairs g d (λ a b. true) ≡ 4 ^ (d - nulls g d) * 3 ^ nulls g d
    pairs_all =
        pairs_ways _ (λ i x y. true) (λ a b _ _. sym (every_true d (λ i. true) (λ i _. refl)))
        ∙ ways_power _ 4 3 (λ i. four (nonzero (g i))) d
      where
        four : (z : Bool) → 1 + 1 + (1 + num z) ≡ cond z 4 3
        four true = refl
        four false = refl

    -- Left takes a within b.
    pub pairs_left : pairs g d within ≡ 3 ^ (d - nulls g d) * 2 ^ nulls g d
    pairs_left =
        pairs_ways within (λ i x y. not x || y) (λ a b ha _. within_every d a b ha)
        ∙ ways_power _ 3 2 (λ i. three (nonzero (g i))) d
      where
        three : (z : Bool) → 1 + 1 + (0 + num z) ≡ cond z 3 2
        three true = refl
        three false = refl

    -- Right takes b within a.
    pub pairs_right : pairs g d (λ a b. within b a) ≡ 3 ^ (d - nulls g d) * 2 ^ nulls g d
    pairs_right =
        pairs_ways (λ a b. within b a) (λ i x y. not y || x) (λ a b _ hb. within_every d b a hb)
        ∙ ways_power _ 3 2 (λ i. three (nonzero (g i))) d
      where
        three : (z : Bool) → 1 + 0 + (1 + num z) ≡ cond z 3 2
        three true = refl
        three false = refl

    -- Left and Right both take a pair of equal masks.
    pairs_same : pairs g d (λ a b. within a b && within b a) ≡ 2 ^ (d - nulls g d)
    pairs_same =
        pairs_ways (λ a b. within a b && within b a) (λ i x y. (not x || y) && (not y || x))
        (λ a b ha hb. ap₂ (λ x y. x && y) (within_every d a b ha) (within_every d b a hb) ∙ every_and d _ _)
        ∙ ways_power _ 2 1 (λ i. two (nonzero (g i))) d ∙ ap (λ (n : ℕ). 2 ^ (d - nulls g d) * n) (ones (nulls g d)) ∙ mul-one (2 ^ (d - nulls g d))
      where
        two : (z : Bool) → 1 + 0 + (0 + num z) ≡ cond z 2 1
        two true = refl
        two false = refl

        ones : (k : ℕ) → 1 ^ k ≡ 1
        ones zero = refl
        ones (suc k) = pow-suc 1 k ∙ mul-one (1 ^ k) ∙ ones k

    -- What either of two tests takes and what both take add up to what each takes.
    pairs_either : (s t : ℕ → ℕ → Bool) → pairs g d (λ a b. s a b || t a b) + pairs g d (λ a b. s a b && t a b) ≡ pairs g d s + pairs g d t
    pairs_either s t =
        ap₂ (λ (m n : ℕ). m + n) (pairs_total (λ a b. s a b || t a b)) (pairs_total (λ a b. s a b && t a b))
        ∙ sym (total_total _ _) ∙ total_ext (2 ^ d) _ _ (λ a _. total_ext (2 ^ d) _ _ (λ b _. either (s a b) (t a b) (nonzero (metric g d a b)))) ∙ total_total _ _
        ∙ sym (ap₂ (λ (m n : ℕ). m + n) (pairs_total s) (pairs_total t))
      where
        either : (x y m : Bool) → num ((x || y) && m) + num (x && y && m) ≡ num (x && m) + num (y && m)
        either true true m = refl
        either true false m = refl
        either false y m = add_comm (num (y && m)) 0

        total_total : (f h : ℕ → ℕ → ℕ)
            → total (2 ^ d) (λ a. total (2 ^ d) (λ b. f a b + h a b)) ≡ total (2 ^ d) (λ a. total (2 ^ d) (λ b. f a b)) + total (2 ^ d) (λ a. total (2 ^ d) (λ b. h a b))
        total_total f h = total_ext (2 ^ d) _ _ (λ a _. total_add (2 ^ d) (f a) (h a)) ∙ total_add (2 ^ d) _ _

    -- Inner takes either within the other.
    pub pairs_inner : pairs g d (λ a b. within a b || within b a) ≡ 2 * (3 ^ (d - nulls g d) * 2 ^ nulls g d) - 2 ^ (d - nulls g d)
    pairs_inner =
        take _ _ (3 ^ (d - nulls g d) * 2 ^ nulls g d) (pairs_either within (λ a b. within b a) ∙ ap₂ (λ (m n : ℕ). m + n) pairs_left pairs_right)
        ∙ ap (λ (n : ℕ). 2 * (3 ^ (d - nulls g d) * 2 ^ nulls g d) - n) pairs_same
      where
        take : (m n k : ℕ) → m + n ≡ k + k → m ≡ 2 * k - n
        take m n k e = omega arith
