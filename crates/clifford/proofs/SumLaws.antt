-- Sums are equal term by term, add, multiply and exchange, and δ picks a term of one.
use mathlib.Core.Path.{◌≡◌, refl, sym, ◌∙◌, ap, ap₂}
use mathlib.Core.Bool.{cond}
use mathlib.Core.Logic.{◌≢◌}
use Prim.Native.Nat.{ℕ, zero, suc, ◌+◌, ◌*◌, ◌<◌, ◌≤◌}
use native.Mathlib.Omega.{arith}
use native.Mathlib.Nat.{add-zero, add-suc}
use native.Mathlib.Decide.{ℕ_discrete}
use lib.IntN.{ℤ, pos, ◌+ℤ◌, ◌*ℤ◌, +ℤ_idl, +ℤ_idr, +ℤ_assoc, +ℤ_comm, zero-*ℤ, *ℤ-zero}
use borrow.Author.Tests.{eq-eqb, ne_eqb}
use Rattle.clifford.specs.Sum.{sum, total, δ}
use Rattle.clifford.proofs.Ring.{+-left_comm, mul_add, one_mul}

pub sum_ext : (n : ℕ) (f h : ℕ → ℤ) → ((i : ℕ) → i < n → f i ≡ h i) → sum n f ≡ sum n h
unfolding sum
sum_ext zero f h e = refl
sum_ext (suc n) f h e = ap₂ (λ x y. x +ℤ y) (sum_ext n f h (λ i l. e i (omega arith))) (e n (omega arith))

pub sum_zero : (n : ℕ) → sum n (λ i. pos 0) ≡ pos 0
unfolding sum
sum_zero zero = refl
sum_zero (suc n) = rw (sum_zero n)

pub sum_add : (n : ℕ) (f h : ℕ → ℤ) → sum n (λ i. f i +ℤ h i) ≡ sum n f +ℤ sum n h
unfolding sum
sum_add zero f h = refl
sum_add (suc n) f h = rw (sum_add n f h) (simp (+ℤ_assoc, +ℤ_comm, +-left_comm))

pub sum_mul : (n : ℕ) (k : ℤ) (f : ℕ → ℤ) → k *ℤ sum n f ≡ sum n (λ i. k *ℤ f i)
unfolding sum
sum_mul zero k f = *ℤ-zero k
sum_mul (suc n) k f = mul_add k (sum n f) (f n) ∙ ap (λ x. x +ℤ k *ℤ f n) (sum_mul n k f)

pub sum_swap : (n m : ℕ) (f : ℕ → ℕ → ℤ) → sum n (λ i. sum m (λ j. f i j)) ≡ sum m (λ j. sum n (λ i. f i j))
unfolding sum
sum_swap zero m f = sym (sum_zero m)
sum_swap (suc n) m f = rw (sum_swap n m f) (sym (sum_add m (λ j. sum n (λ i. f i j)) (λ j. f n j)))

pub δ_same : (i : ℕ) → δ i i ≡ pos 1
unfolding δ
δ_same i = ap (λ t. cond t (pos 1) (pos 0)) (eq-eqb i i refl)

pub δ_other : (i j : ℕ) → i ≢ j → δ i j ≡ pos 0
unfolding δ
δ_other i j h = ap (λ t. cond t (pos 1) (pos 0)) (ne_eqb i j h)

pub δ_comm : (i j : ℕ) → δ i j ≡ δ j i
δ_comm i j = go (ℕ_discrete i j)
  where
    go : Dec (i ≡ j) → δ i j ≡ δ j i
    go (yes p) = rw p
    go (no p) = δ_other i j p ∙ sym (δ_other j i (λ e. p (sym e)))

sum_past : (n k : ℕ) (f : ℕ → ℤ) → n ≤ k → sum n (λ i. δ k i *ℤ f i) ≡ pos 0
unfolding sum
sum_past zero k f h = refl
sum_past (suc n) k f h = rw (sum_past n k f (omega arith), δ_other k n (λ e. omega arith), zero-*ℤ (f n))

-- Of a sum over all indices, δ k keeps the term at k.
pub sum_at_lem : (n k : ℕ) (f : ℕ → ℤ) → k < n → sum n (λ i. δ k i *ℤ f i) ≡ f k
unfolding sum
sum_at_lem zero k f h = absurd (omega arith)
sum_at_lem (suc n) k f h = go (ℕ_discrete k n) (sum_at_lem n k f)
  where
    go : Dec (k ≡ n) → (k < n → sum n (λ i. δ k i *ℤ f i) ≡ f k) → sum n (λ i. δ k i *ℤ f i) +ℤ δ k n *ℤ f n ≡ f k
    go (yes p) ih = rw (sum_past n k f (omega arith), ← p, δ_same k, one_mul (f k), +ℤ_idl (f k))
    go (no p) ih = rw (ih (omega arith), δ_other k n p, zero-*ℤ (f n), +ℤ_idr (f k))

-- Where δ is not 0, its two indices are one.
pub δ_move : (k m : ℕ) (f : ℕ → ℤ) → f m *ℤ δ k m ≡ f k *ℤ δ k m
δ_move k m f = go (ℕ_discrete k m)
  where
    go : Dec (k ≡ m) → f m *ℤ δ k m ≡ f k *ℤ δ k m
    go (yes p) = rw p
    go (no p) = rw (δ_other k m p, *ℤ-zero (f m), *ℤ-zero (f k))

-- ---- sums of counts

pub total_ext : (n : ℕ) (f h : ℕ → ℕ) → ((i : ℕ) → i < n → f i ≡ h i) → total n f ≡ total n h
unfolding total
total_ext zero f h e = refl
total_ext (suc n) f h e = ap₂ (λ (x y : ℕ). x + y) (total_ext n f h (λ i l. e i (omega arith))) (e n (omega arith))

pub total_add : (n : ℕ) (f h : ℕ → ℕ) → total n (λ i. f i + h i) ≡ total n f + total n h
unfolding total
total_add zero f h = refl
total_add (suc n) f h = let ih = total_add n f h in omega arith

pub total_mul : (n k : ℕ) (f : ℕ → ℕ) → total n (λ i. f i * k) ≡ total n f * k
unfolding total
total_mul zero k f = omega arith
total_mul (suc n) k f = let ih = total_mul n k f in omega arith

pub total_split : (n m : ℕ) (f : ℕ → ℕ) → total (n + m) f ≡ total n f + total m (λ i. f (n + i))
unfolding total
total_split n zero f = ap (λ (k : ℕ). total k f) (add-zero n) ∙ sym (add-zero (total n f))
total_split n (suc m) f = ap (λ (k : ℕ). total k f) (add-suc n m) ∙ (let ih = total_split n m f in omega arith)
