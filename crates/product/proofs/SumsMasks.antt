-- Masks that share no bit are added like any numbers, and a turn of the subset loop takes in one mask more. Assumes nothing.
use mathlib.Core.Path.{◌≡◌, refl, sym, ◌∙◌, ap, ap₂}
use mathlib.Core.Bool.{Bool, true, false, ◌&&◌, ◌||◌, or-false}
use mathlib.Core.Logic.{◌≢◌}
use Prim.Native.Nat.{ℕ, ◌+◌, ◌^◌, ◌≤◌, ◌<◌}
use native.Mathlib.Omega.{arith}
use native.Mathlib.Decide.{ℕ_discrete}
use lib.Bits.{bit_and, bit_xor, and_comm, and_le_l, and_le_r, xor_comm, xor_lt, xor_disjoint, xor_add_and}
use lib.Dec.{eqb, ltb, lit<}
use lib.Pow.{pow_pos}
use borrow.Author.Tests.{eq-eqb, ne_eqb, le-leb, le-ltb}
use Rattle.clifford.specs.Blade.{has, ◌⊻◌}
use Rattle.clifford.proofs.BladeLaws.{has_beyond, has_xor, has_and, has_ext, xor_cancel}
use Rattle.product.specs.inner.Sums.{subset_from}

-- ---- masks that share no bit

xor_at : (a b i : ℕ) → has (bit_xor a b) i ≡ has a i ⊻ has b i
xor_at a b i = ap (λ (v : ℕ → Bool). v i) (has_xor a b)

spread : (x y z : Bool) → (x && (y ⊻ z)) ≡ (x && y) ⊻ (x && z)
spread true y z = refl
spread false y z = refl

none_shared : (x y z : Bool) → (y && z) ≡ false → ((x && y) && (x && z)) ≡ false
none_shared true y z e = e
none_shared false y z e = refl

module _ (d a b : ℕ) (ha : a < 2 ^ d) (hb : b < 2 ^ d) where
  and_xor : (m : ℕ) → bit_and m (bit_xor a b) ≡ bit_xor (bit_and m a) (bit_and m b)
  and_xor m =
      has_ext d (bit_and m (bit_xor a b)) (bit_xor (bit_and m a) (bit_and m b)) (omega (arith, and_le_r m (bit_xor a b), xor_lt d a b ha hb))
      (xor_lt d (bit_and m a) (bit_and m b) (omega (arith, and_le_r m a)) (omega (arith, and_le_r m b)))
      (λ i l. has_and m (bit_xor a b) i ∙ ap (λ x. has m i && x) (xor_at a b i) ∙ spread (has m i) (has a i) (has b i)
      ∙ sym (xor_at (bit_and m a) (bit_and m b) i ∙ ap₂ (λ x z. x ⊻ z) (has_and m a i) (has_and m b i)))

  parts_apart : bit_and a b ≡ 0 → (m : ℕ) → bit_and (bit_and m a) (bit_and m b) ≡ 0
  parts_apart e m =
      has_ext d (bit_and (bit_and m a) (bit_and m b)) 0 (omega (arith, and_le_r (bit_and m a) (bit_and m b), and_le_r m b)) (pow_pos d)
      (λ i l. has_and (bit_and m a) (bit_and m b) i ∙ ap₂ (λ x z. x && z) (has_and m a i) (has_and m b i)
      ∙ none_shared (has m i) (has a i) (has b i) (sym (has_and a b i) ∙ ap (λ (n : ℕ). has n i) e ∙ nothing i) ∙ sym (nothing i))
    where
      nothing : (i : ℕ) → has 0 i ≡ false
      nothing i = has_beyond 0 0 i (lit< tt) (omega arith)

  -- What m has of both is what it has of each.
  and_add : bit_and a b ≡ 0 → (m : ℕ) → bit_and m (a + b) ≡ bit_and m a + bit_and m b
  and_add e m = ap (bit_and m) (sym (xor_disjoint a b e)) ∙ and_xor m ∙ xor_disjoint (bit_and m a) (bit_and m b) (parts_apart e m)

-- A mask f, and one n within it: the bits of f that n doesn't have.
module _ (d f n : ℕ) (hf : f < 2 ^ d) (inside : bit_and f n ≡ n) where
  n_lt : n < 2 ^ d
  n_lt = omega (arith, and_le_l f n)

  pub rest_add : bit_xor f n + n ≡ f
  rest_add = omega (arith, xor_add_and f n)

  pub rest_apart : bit_and (bit_xor f n) n ≡ 0
  rest_apart = omega (arith, xor_add_and (bit_xor f n) n, rest_add, xor_comm (bit_xor f n) n, xor_cancel d f n hf n_lt)

  -- What m has of f.
  pub rest_and : (m : ℕ) → bit_and m (bit_xor f n) + bit_and m n ≡ bit_and m f
  rest_and m = sym (and_add d (bit_xor f n) n (xor_lt d f n hf n_lt) n_lt rest_apart m) ∙ ap (bit_and m) rest_add

-- ---- a base and a subset of `free`, which share no bit

module _ (d base free : ℕ) (room : base + free < 2 ^ d) (apart : bit_and base free ≡ 0) (s : ℕ) (within : bit_and s free ≡ s) where
  pub subset_lt : base + s < 2 ^ d
  subset_lt = omega (arith, and_le_r s free)

  -- The subset is what the mask has of `free`.
  pub subset_free : bit_and (base + s) free ≡ s
  subset_free =
      let hs : s < 2 ^ d = omega (arith, and_le_r s free) in
      let none : bit_and base s ≡ 0 = omega (arith, rest_and d free s (omega arith) (and_comm free s ∙ within) base) in
      and_comm (base + s) free ∙ and_add d base s (omega arith) hs none free ∙ omega (arith, and_comm free base, and_comm free s)

  -- The masks before s and the one at s.
  pub subset_more : (from : ℕ) → from ≤ s → (k : ℕ) (x : Bool) → x ≡ (ltb (bit_and k free) s || eqb (bit_and k free) s)
      → (subset_from base free from k && x) ≡ ((subset_from base free from k && ltb (bit_and k free) s) || eqb k (base + s))
  subset_more from h k x e = ap (λ z. subset_from base free from k && z) e ∙ elim (ℕ_discrete (bit_and k free) s) [ yes p ↦ at p | no ne ↦ off ne ]
    where
      at : bit_and k free ≡ s
          → (subset_from base free from k && (ltb (bit_and k free) s || eqb (bit_and k free) s)) ≡ ((subset_from base free from k && ltb (bit_and k free) s) || eqb k (base + s))
      at p = rw p (rw (le-leb from s h, le-ltb s s (omega arith), eq-eqb s s refl) (go (eqb k (base + s))))
        where
          go : (z : Bool) → ((z && true) && true) ≡ (((z && true) && false) || z)
          go true = refl
          go false = refl

      off : bit_and k free ≢ s
          → (subset_from base free from k && (ltb (bit_and k free) s || eqb (bit_and k free) s)) ≡ ((subset_from base free from k && ltb (bit_and k free) s) || eqb k (base + s))
      off ne =
          ap (λ z. subset_from base free from k && (ltb (bit_and k free) s || z)) (ne_eqb (bit_and k free) s ne)
          ∙ ap (λ z. subset_from base free from k && z) (or-false (ltb (bit_and k free) s))
          ∙ sym (ap (λ z. (subset_from base free from k && ltb (bit_and k free) s) || z) (ne_eqb k (base + s) (λ p. ne (ap (λ (j : ℕ). bit_and j free) p ∙ subset_free)))
          ∙ or-false (subset_from base free from k && ltb (bit_and k free) s))
