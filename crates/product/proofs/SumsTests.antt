-- The tests of what `add_blade` and `add_beyond` call agree with those of the modes. Assumes nothing.
use mathlib.Core.Path.{◌≡◌, refl, sym, ◌∙◌, ap, ap₂}
use mathlib.Core.Bool.{Bool, true, false, not, ◌&&◌, ◌||◌, false≢true}
use mathlib.Core.Logic.{◌≢◌}
use Prim.Native.Nat.{ℕ, ◌+◌, ◌-◌, ◌^◌, ◌≤◌, ◌<◌}
use native.Mathlib.Omega.{arith}
use native.Mathlib.Nat.{mod-eq_of_lt, zero-add}
use lib.Bits.{bit_and, bit_xor, and_comm, and_self, and_zero_r, and_le_l, and_le_r, and_mask, xor_lt}
use lib.Dec.{eqb, leb}
use lib.Pow.{pow_pos}
use borrow.Author.Tests.{eq-eqb, ne_eqb, le-leb, eqb-true, eqb-false, leb-true, not-true}
use Rattle.clifford.specs.Pairs.{within}
use Rattle.masks.proofs.ListLaws.{both_true}
use Rattle.product.specs.inner.Sums.{subset_from, beyond}
use Rattle.product.proofs.Subsets.{next_subset, and_twice, next_last, next_rises, next_least}
use Rattle.product.proofs.SumsMasks.{rest_add, rest_apart, rest_and}

-- ---- tests

same_test : (x z : Bool) → (x ≡ true → z ≡ true) → (z ≡ true → x ≡ true) → x ≡ z
same_test true true f g = refl
same_test true false f g = sym (f refl)
same_test false true f g = g refl
same_test false false f g = refl

fails : (x : Bool) → (x ≡ true → ⊥) → x ≡ false
fails true f = absurd (f refl)
fails false f = refl

and_both : (x z : Bool) → x ≡ true → z ≡ true → (x && z) ≡ true
and_both x z p q = ap₂ (λ v w. v && w) p q

within_eq : (a b : ℕ) → within a b ≡ true → bit_and a b ≡ a
unfolding within
within_eq a b e = eqb-true (bit_and a b) a e

eq_within : (a b : ℕ) → bit_and a b ≡ a → within a b ≡ true
unfolding within
eq_within a b e = eq-eqb (bit_and a b) a e

module _ (base free from m : ℕ) where
  subset_eq : subset_from base free from m ≡ true → (m ≡ base + bit_and m free) × (from ≤ bit_and m free)
  subset_eq e =
      let parts = both_true (eqb m (base + bit_and m free)) (leb from (bit_and m free)) e in
      (eqb-true m (base + bit_and m free) parts.0, leb-true from (bit_and m free) parts.1)

  eq_subset : m ≡ base + bit_and m free → from ≤ bit_and m free → subset_from base free from m ≡ true
  eq_subset e l = and_both (eqb m (base + bit_and m free)) (leb from (bit_and m free)) (eq-eqb m (base + bit_and m free) e) (le-leb from (bit_and m free) l)

-- ---- what a mask that holds `null` lets in

module _ (d b null : ℕ) (hb : b < 2 ^ d) (inside : bit_and b null ≡ null) (m : ℕ) where
  -- The subsets of b that have no bit of `null`.
  pub left_test : subset_from 0 (bit_xor b null) 0 m ≡ (within m b && eqb (bit_and m null) 0)
  left_test =
      let free = bit_xor b null in
      let parts = rest_and d b null hb inside m in
      same_test (subset_from 0 free 0 m) (within m b && eqb (bit_and m null) 0)
      (λ e.
      let p = (subset_eq 0 free 0 m e).0 in
      and_both (within m b) (eqb (bit_and m null) 0) (eq_within m b (omega (arith, and_le_l m b))) (eq-eqb (bit_and m null) 0 (omega (arith, and_le_l m b))))
      (λ e.
      let p = both_true (within m b) (eqb (bit_and m null) 0) e in
      eq_subset 0 free 0 m (omega (arith, within_eq m b p.0, eqb-true (bit_and m null) 0 p.1)) (omega arith))

  -- A mask that has all of b has `null`.
  pub right_none : null ≢ 0 → (within b m && eqb (bit_and m null) 0) ≡ false
  right_none ne =
      fails (within b m && eqb (bit_and m null) 0)
      (λ e.
      let p = both_true (within b m) (eqb (bit_and m null) 0) e in
      ne (omega (
        arith,
        within_eq b m p.0,
        eqb-true (bit_and m null) 0 p.1,
        and_comm b m,
        rest_and d b null hb inside m,
        rest_add d b null hb inside,
        and_le_r m (bit_xor b null),
      )))

  -- So where there is a `null`, the masks that have all of b add nothing to those within b.
  pub inner_null : null ≢ 0 → subset_from 0 (bit_xor b null) 0 m ≡ ((within m b || within b m) && eqb (bit_and m null) 0)
  inner_null ne = left_test ∙ go (within m b) (within b m) (eqb (bit_and m null) 0) (right_none ne)
    where
      go : (x z o : Bool) → (z && o) ≡ false → (x && o) ≡ ((x || z) && o)
      go true z o e = refl
      go false z o e = sym e

  -- No mask is within b and beyond it.
  pub inner_apart : (subset_from 0 (bit_xor b null) 0 m && beyond b m) ≡ false
  inner_apart =
      fails (subset_from 0 (bit_xor b null) 0 m && beyond b m)
      (λ e.
      let p = both_true (subset_from 0 (bit_xor b null) 0 m) (beyond b m) e in
      let q = both_true (within m b) (eqb (bit_and m null) 0) (sym left_test ∙ p.0) in
      let r = both_true (within b m) (not (eqb m b)) p.1 in
      eqb-false m b (not-true (eqb m b) r.1) (sym (within_eq m b q.0) ∙ and_comm m b ∙ within_eq b m r.0))

  -- Without one, they are those within b and those beyond it.
  pub inner_both : null ≡ 0 → (subset_from 0 (bit_xor b null) 0 m || beyond b m) ≡ ((within m b || within b m) && eqb (bit_and m null) 0)
  inner_both z =
      ap (λ x. x || beyond b m) left_test
      ∙ go (within m b) (within b m) (eqb m b) (eqb (bit_and m null) 0) (eq-eqb (bit_and m null) 0 (ap (bit_and m) z ∙ and_zero_r m))
      (λ e. let p = eqb-true m b e in eq_within m b (ap (bit_and m) (sym p) ∙ and_self m))
    where
      go : (x z e o : Bool) → o ≡ true → (e ≡ true → x ≡ true) → ((x && o) || (z && not e)) ≡ ((x || z) && o)
      go x z e false p h = absurd (false≢true p)
      go true z e true p h = refl
      go false z true true p h = absurd (false≢true (h refl))
      go false true false true p h = refl
      go false false false true p h = refl

-- ---- what all masks let in

module _ (d n : ℕ) (size : n ≡ 2 ^ d) where
  full_lt : n - 1 < 2 ^ d
  full_lt = omega (arith, pow_pos d)

  full_and : (m : ℕ) → m < 2 ^ d → bit_and m (n - 1) ≡ m
  full_and m h = ap (λ (k : ℕ). bit_and m (k - 1)) size ∙ and_mask m d ∙ mod-eq_of_lt h

  module _ (b : ℕ) (hb : b < 2 ^ d) where
    b_inside : bit_and (n - 1) b ≡ b
    b_inside = and_comm (n - 1) b ∙ full_and b hb

    -- The masks that b leaves free.
    abbrev pub free_of : ℕ
    free_of = bit_xor (n - 1) b

    pub free_lt : free_of < 2 ^ d
    free_lt = xor_lt d (n - 1) b full_lt hb

    pub free_add : b + free_of < 2 ^ d
    free_add = omega (arith, rest_add d (n - 1) b full_lt b_inside, full_lt)

    pub free_apart : bit_and b free_of ≡ 0
    free_apart = and_comm b free_of ∙ rest_apart d (n - 1) b full_lt b_inside

    parts : (m : ℕ) → m < 2 ^ d → bit_and m free_of + bit_and m b ≡ m
    parts m h = rest_and d (n - 1) b full_lt b_inside m ∙ full_and m h

    -- The masks that have no bit of b.
    pub all_test : (m : ℕ) → m < 2 ^ d → subset_from 0 free_of 0 m ≡ eqb (bit_and m b) 0
    all_test m h =
        same_test (subset_from 0 free_of 0 m) (eqb (bit_and m b) 0)
        (λ e. eq-eqb (bit_and m b) 0 (omega (arith, parts m h, (subset_eq 0 free_of 0 m e).0)))
        (λ e. eq_subset 0 free_of 0 m (omega (arith, parts m h, eqb-true (bit_and m b) 0 e)) (omega arith))

    -- The masks that have all of b.
    pub right_test : (m : ℕ) → m < 2 ^ d → subset_from b free_of 0 m ≡ within b m
    right_test m h =
        same_test (subset_from b free_of 0 m) (within b m)
        (λ e. eq_within b m (omega (arith, parts m h, and_comm b m, (subset_eq b free_of 0 m e).0)))
        (λ e. eq_subset b free_of 0 m (omega (arith, parts m h, and_comm b m, within_eq b m e)) (omega arith))

    -- There are none beyond b where it leaves none free.
    pub beyond_none : free_of ≡ 0 → (m : ℕ) → m < 2 ^ d → beyond b m ≡ false
    beyond_none z m h =
        fails (beyond b m)
        (λ e.
        let p = both_true (within b m) (not (eqb m b)) e in
        eqb-false m b (not-true (eqb m b) p.1) (omega (arith, parts m h, and_le_r m free_of, and_comm b m, within_eq b m p.0)))

    -- Else they are those from the first subset of what it leaves free.
    pub beyond_test : free_of ≢ 0 → (from : ℕ) → from ≡ bit_and (n - free_of) free_of → (m : ℕ) → m < 2 ^ d → subset_from b free_of from m ≡ beyond b m
    beyond_test ne from first m h =
        let q = bit_and m free_of in
        let next = next_subset d free_of 0 in
        let e : from ≡ next = first ∙ ap (λ (k : ℕ). bit_and (k - free_of) free_of) size ∙ ap (λ (k : ℕ). bit_and k free_of) (sym (zero-add (2 ^ d - free_of))) in
        let some : next ≢ 0 = λ z. ne (sym (next_last d free_of 0 free_lt refl z)) in
        same_test (subset_from b free_of from m) (beyond b m)
        (λ t.
        let p = subset_eq b free_of from m t in
        let above = next_rises d free_of 0 free_lt refl some in
        and_both (within b m) (not (eqb m b)) (eq_within b m (omega (arith, parts m h, and_comm b m, p.0)))
        (ap not (ne_eqb m b (λ z. omega (arith, e, above, z, p.0, p.1)))))
        (λ t.
        let p = both_true (within b m) (not (eqb m b)) t in
        let apart = eqb-false m b (not-true (eqb m b) p.1) in
        let sum : m ≡ b + q = omega (arith, parts m h, and_comm b m, within_eq b m p.0) in
        let positive : 0 < q = omega (arith, apart) in
        eq_subset b free_of from m sum (omega (arith, e, next_least d free_of 0 free_lt refl q (and_twice m free_of) positive)))
