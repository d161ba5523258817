-- Demand 3's bound and its exact case, over the public product's result, for each of the five modes. Assumes nothing.
use mathlib.Core.Path.{◌≡◌, refl, sym, ap, ◌∙◌}
use mathlib.Core.Bool.{Bool, true, false, cond}
use mathlib.Core.List.{List}
use Prim.Native.Nat.{ℕ, zero, suc, ◌+◌, ◌-◌, ◌*◌, ◌^◌, ◌≤◌, ◌<◌}
use native.Mathlib.Nat.{le_trans}
use native.Mathlib.Omega.{arith}
use borrow.Author.Tests.{ltb-true, ltb-false}
use lib.Dec.{ltb}
use lib.Ieee.{Float, nan, Format, binary64}
use lib.IntN.{ℤ, pos, negsuc, neg_ℤ, ◌+ℤ◌, ◌-ℤ◌, +ℤ-neg_ℤ_cancel, +ℤ_invr, +ℤ_idr, neg_ℤ-+ℤ}
use lib.ListN.{get_or}
use Rattle.clifford.proofs.Ring.{+-left_comm}
use Rattle.rounding.specs.Signed.{above_zero, below_zero, Within}
use Rattle.rounding.specs.Value.{Close, Exact}
use Rattle.rounding.specs.Terms.{Term, run, OnGrid}
use Rattle.rounding.specs.Sized.{InRange}
use Rattle.rounding.specs.Snap.{snap}
use Rattle.rounding.proofs.TermsLaws.{count_le}
use Rattle.rounding.proofs.DemandLaws.{demand_bound, demand_exact}
use Rattle.masks.specs.declared.shape.Shape.{Shape}
use Rattle.masks.proofs.OrderLaws.{blades_le}
use Rattle.product.specs.declared.mode.Mode.{Mode}
use Rattle.product.specs.inner.Pairwise.{gathered, sum_at}
use Rattle.product.specs.Products.{multiplied}
use Rattle.product.specs.Accuracy.{value_in, above, beneath, contributing, exact_sizes, exact_sum, Holds, Fitting, InBounds, Multiples, LiesWithin, ExactCase, IsExactly}
use Rattle.product.proofs.PairwiseLaws.{product_at_lem}
use Rattle.product.proofs.ProductsLaws.{multiplied_same}
use Rattle.product.proofs.PairwisePartners.{partner_place}
use Rattle.product.proofs.AccuracyUnits.{sign_is, size_is, value_whole}
use Rattle.product.proofs.AccuracyExact.{contributing_count, exact_sizes_total, exact_sum_parts}

-- ---- a difference of two natural numbers, as a whole number

above_beneath : (p m : ℕ) → above (pos p -ℤ pos m) + m ≡ beneath (pos p -ℤ pos m) + p
unfolding above beneath
above_beneath p zero = omega arith
above_beneath p (suc m) = go (ltb p (suc m)) refl
  where
    go : (t : Bool) → ltb p (suc m) ≡ t
        → above (cond t (negsuc (suc m - suc p)) (pos (p - suc m))) + suc m ≡ beneath (cond t (negsuc (suc m - suc p)) (pos (p - suc m))) + p
    go true e = omega (arith, ltb-true p (suc m) e)
    go false e = omega (arith, ltb-false p (suc m) e)

-- A bound about p - m is one about that whole number.
within_difference : (Q C a b p m A B : ℕ) → A + m ≡ B + p → Within Q C a b p m → Within Q C a b A B
within_difference Q C a b p m A B e w = let x : Q * (A + m) ≡ Q * (B + p) = ap (λ (z : ℕ). Q * z) e in (omega arith, omega arith)

near_difference : (f : Format) (u : ℕ) (x : Float) (C p m : ℕ) → Close f u x C p m → Close f u x C (above (pos p -ℤ pos m)) (beneath (pos p -ℤ pos m))
near_difference f u x C p m c = record { sign = c.sign; amount = c.amount; value = c.value; near = within_difference _ _ _ _ p m _ _ (above_beneath p m) c.near }

-- A sign and a size that are p - m are that whole number.
signed_difference : (s : Bool) (n p m : ℕ) → above_zero s n + m ≡ below_zero s n + p → cond s (neg_ℤ (pos n)) (pos n) ≡ pos p -ℤ pos m
signed_difference false n p m e = let q : p ≡ n + m = omega arith in rw q (sym (+ℤ-neg_ℤ_cancel (pos n) (pos m)))
signed_difference true n p m e = let q : m ≡ n + p = omega arith in rw q (sym (cancel (pos p) (pos n)))
  where
    cancel : (x y : ℤ) → x -ℤ (y +ℤ x) ≡ neg_ℤ y
    cancel x y = rw (neg_ℤ-+ℤ y x) (+-left_comm x (neg_ℤ y) (neg_ℤ x) ∙ rw (+ℤ_invr x, +ℤ_idr (neg_ℤ y)))

exactly : (u : ℕ) (x : Float) (p m : ℕ) → Exact u x p m → IsExactly u x (pos p -ℤ pos m)
unfolding value_in
exactly u x p m r = (
  value_whole u x r.sign r.amount r.value,
  rw (sign_is u x r.sign r.amount r.value, size_is u x r.sign r.amount r.value) (signed_difference r.sign r.amount p m r.exact),
)

-- ---- the public product

module _ (mode : Mode) (s : Shape) (room : ℕ) (a b : List Float) (t : Fitting s room) (u : Holds s.dims a) (v : Holds s.dims b) where
  -- The terms of coefficient k.
  abbrev terms : ℕ → ℕ → Term
  terms k = gathered mode s.flavor s.dims a b k

  coefficient : (k : ℕ) → k < 2 ^ s.dims → get_or (multiplied mode s s a b room).outcome.coefs k nan ≡ snap binary64 (run binary64 (terms k) (2 ^ s.dims))
  unfolding sum_at
  coefficient k h = ap (λ o. get_or o.outcome.coefs k nan) (multiplied_same mode s a b room t u.many v.many) ∙ product_at_lem mode s.flavor s.dims binary64 a b k h

  in_range : InBounds s.dims a → InBounds s.dims b → (k : ℕ) → k < 2 ^ s.dims → (j : ℕ) → j < 2 ^ s.dims → InRange binary64 400 (terms k j)
  unfolding gathered
  in_range x y k h j l = let c = partner_place s.dims j k l h in (u.held _ c, v.held j l, x _ c, y j l)

  on_grid : (p q : ℕ) → Multiples p s.dims a → Multiples q s.dims b → (k : ℕ) → k < 2 ^ s.dims → (j : ℕ) → j < 2 ^ s.dims → OnGrid binary64 p q (terms k j)
  unfolding gathered
  on_grid p q x y k h j l = let c = partner_place s.dims j k l h in (u.held _ c, x _ c, y j l)

  -- Each coefficient lies within (n + 1) x T x 2 ^ -53 plus 2 ^ -46 of the exact sum: in units of 2 ^ -904, of which 2 ^ -46 is 2 ^ 858.
  pub bound : InBounds s.dims a → InBounds s.dims b → (k : ℕ) → k < 2 ^ s.dims
      → LiesWithin (get_or (multiplied mode s s a b room).outcome.coefs k nan)
      (suc (contributing mode s.flavor s.dims k) * exact_sizes mode s.flavor s.dims k 452 452 a b + 2 ^ 53 * 2 ^ 858)
      (exact_sum mode s.flavor s.dims k 452 452 a b)
  bound x y k h =
      let f = s.flavor in
      let d = s.dims in
      rw (coefficient k h, contributing_count mode f d k h a b, exact_sizes_total mode f d k h a b 452 452, exact_sum_parts mode f d k h a b 452 452)
      (near_difference binary64 904 _ _ _ _
      (demand_bound binary64 (terms k) (2 ^ d) (le_trans (count_le (terms k) (2 ^ d)) (blades_le d t.small)) (λ j l _. in_range x y k h j l)))

  -- A coefficient whose T is at most 2 ^ 53 units of 2 ^ -(p + q) is the exact sum, whatever the T of the others.
  pub exact_at : (p q : ℕ) → p + q ≤ 46 → Multiples p s.dims a → Multiples q s.dims b → (k : ℕ) → k < 2 ^ s.dims → exact_sizes mode s.flavor s.dims k p q a b ≤ 2 ^ 53
      → IsExactly (p + q) (get_or (multiplied mode s s a b room).outcome.coefs k nan) (exact_sum mode s.flavor s.dims k p q a b)
  exact_at p q fine x y k h small =
      let f = s.flavor in
      let d = s.dims in
      rw (coefficient k h, exact_sum_parts mode f d k h a b p q)
      (exactly _ _ _ _
      (demand_exact binary64 p q (terms k) (2 ^ d) fine (λ j l _. on_grid p q x y k h j l) (rw (← exact_sizes_total mode f d k h a b p q) small)))

  -- In the exact case each coefficient is the exact sum.
  pub exact : (c : ExactCase mode s.flavor s.dims a b) (k : ℕ) → k < 2 ^ s.dims
      → IsExactly (c.p + c.q) (get_or (multiplied mode s s a b room).outcome.coefs k nan) (exact_sum mode s.flavor s.dims k c.p c.q a b)
  exact c k h = exact_at c.p c.q c.fine c.left c.right k h (c.small k h)
