-- The product of the flavor metrics of a mask's bits, by masks: 0 where the mask has a vector that squares to 0, else the sign of a count of ones. Assumes nothing.
use mathlib.Core.Path.{◌≡◌, refl, sym, ap, ap₂, ◌∙◌}
use mathlib.Core.Bool.{Bool, true, false, ◌&&◌, cond, false≢true}
use mathlib.Core.List.{List}
use mathlib.Core.Logic.{◌⊎◌, ⊎_elim, inl, inr}
use Prim.Native.Nat.{ℕ, zero, suc, ◌+◌, ◌-◌, ◌/◌, ◌%◌, ◌^◌, ◌<◌, ◌≤◌, min}
use native.Mathlib.Nat.{add-zero, min-eq_left, min-eq_right}
use native.Mathlib.Omega.{arith}
use lib.Bits.{bit_and, and_le_l}
use lib.Count.{ones}
use lib.Dec.{eqb, ltb, lit<, leb-suc-zero, leb-suc-suc}
use lib.IntN.{ℤ, pos, negsuc, ◌*ℤ◌, *ℤ-zero, zero-*ℤ, pow, one}
use lib.ListN.{length, get_or, drop, length-append, get_or-append}
use lib.Pow.{pow_pos}
use borrow.Author.Tests.{eq-eqb, ne_eqb, lt-ltb, le-ltb}
use Rattle.clifford.specs.Blade.{has, count}
use Rattle.clifford.specs.Metric.{shared}
use Rattle.clifford.specs.Sign.{sign}
use Rattle.clifford.proofs.Ring.{mul_one}
use Rattle.clifford.proofs.BladeLaws.{has_zero, has_suc, has_beyond, has_and, has_ext}
use Rattle.clifford.proofs.CountLaws.{count_ext, count_ones}
use Rattle.clifford.proofs.SignLaws.{sign_add}
use Rattle.std.specs.Prelude.{Result}
use Rattle.masks.specs.declared.flavor.Flavor.{Flavor}
use Rattle.masks.specs.declared.flavor.Flavor.TheVariants.{Vanilla, Projective, Cl}
use Rattle.masks.specs.declared.outcome.Refusal.{Refusal}
use Rattle.masks.specs.Flavor.{metric_of}
use Rattle.masks.specs.Order.{order, GivesOrder}
use Rattle.masks.specs.Outcome.{refusal, unless, laid}
use Rattle.masks.proofs.ListLaws.{split}
use Rattle.masks.proofs.OrderLaws.{length_order}
use Rattle.product.specs.Pairwise.{mask_at}
use Rattle.arithmetic.specs.Magnitude.{weight}

-- ---- the order in an array

-- An array with room for the order of d dimensions holds the mask of each place.
pub order_put : (d : ℕ) (r : Result (Unit {0}) Refusal) (before after : List ℕ) → GivesOrder d r before after → d ≤ 9 → 2 ^ d ≤ length before → (2 ^ d ≤ length after) × ((i : ℕ) → i < 2 ^ d → get_or after i 0 ≡ mask_at d i)
unfolding refusal unless
order_put d r before after g h l =
    let e : after ≡ laid (order d) before = g.left ∙ rw (le-ltb 9 d h, le-ltb (length before) (2 ^ d) l) refl in
    (omega (arith, ap length e, length-append (order d) (drop (length (order d)) before), length_order d), (λ i q. rw e (get_or-append (order d) _ 0 i (omega (arith, length_order d)))))

-- ---- the lowest bits

-- 0 has no bit.
none_has : (i : ℕ) → has 0 i ≡ false
none_has i = has_beyond 0 0 i (lit< tt) (omega arith)

low_has : (k i : ℕ) → has (2 ^ k - 1) i ≡ ltb i k
low_has zero i = none_has i ∙ sym (leb-suc-zero i)
low_has (suc k) zero =
    let e : (2 ^ suc k - 1) % 2 ≡ 1 = omega (arith, pow_pos k) in
    has_zero (2 ^ suc k - 1) ∙ eq-eqb _ _ e ∙ sym (lt-ltb 0 (suc k) (omega arith))
low_has (suc k) (suc i) =
    let e : (2 ^ suc k - 1) / 2 ≡ 2 ^ k - 1 = omega (arith, pow_pos k) in
    has_suc (2 ^ suc k - 1) i ∙ ap (λ (n : ℕ). has n i) e ∙ low_has k i ∙ sym (leb-suc-suc (suc i) k)

-- Of the nine bits.
pub low_nine : (k i : ℕ) → i < 9 → has (2 ^ min k 9 - 1) i ≡ ltb i k
low_nine k i h = low_has (min k 9) i ∙ ⊎_elim (λ (l : k < 9). ap (ltb i) (min-eq_left (omega arith))) (λ (l : 9 ≤ k). ap (ltb i) (min-eq_right l) ∙ lt-ltb i 9 h ∙ sym (lt-ltb i k (omega arith))) (split k 9)

-- ---- the squares of a flavor

-- What a basis vector squares to, by whether it is of those that square to 0, and of those that square to 0 or -1.
abbrev pub square_by : Bool → Bool → ℤ
square_by null lower = cond null (pos 0) (cond lower (negsuc 0) (pos 1))

-- The masks of a flavor's squares.
abbrev pub Squared : Flavor → ℕ → ℕ → Type 0
Squared f null lower = (i : ℕ) → i < 9 → metric_of f i ≡ square_by (has null i) (has lower i)

pub squares_vanilla : (i : ℕ) → metric_of Vanilla i ≡ square_by (has 0 i) (has 0 i)
unfolding metric_of
squares_vanilla i = rw (none_has i)

pub squares_projective : (i : ℕ) → metric_of Projective i ≡ square_by (has 1 i) (has 1 i)
unfolding metric_of
squares_projective i = rw (low_has 1 i) (go i)
  where
    go : (j : ℕ) → cond (eqb j 0) (pos 0) (pos 1) ≡ square_by (ltb j 1) (ltb j 1)
    go zero = refl
    go (suc j) = let e : ltb (suc j) 1 ≡ false = leb-suc-suc (suc j) 0 ∙ leb-suc-zero j in rw (e, ne_eqb (suc j) 0 (λ z. omega arith))

pub squares_cl : (p n z i : ℕ) → i < 9 → metric_of (Cl p n z) i ≡ square_by (has (2 ^ min z 9 - 1) i) (has (2 ^ min (z + n) 9 - 1) i)
unfolding metric_of
squares_cl p n z i h = rw (low_nine z i h, low_nine (z + n) i h)

-- ---- the product of a mask's metrics

double : (x : Bool) (y z : ℤ) → cond (x && x) y z ≡ cond x y z
double true y z = refl
double false y z = refl

sign_one : (w : Bool) → cond w (negsuc 0) (pos 1) ≡ sign (cond w 1 0)
unfolding sign pow one
sign_one true = refl
sign_one false = refl

module _ (g : ℕ → ℤ) (null lower d m : ℕ) (h : (i : ℕ) → i < d → g i ≡ square_by (has null i) (has lower i)) (l : m < 2 ^ d) where
  abbrev product : ℕ → ℤ
  product k = shared g k (has m) (has m)

  abbrev minuses : ℕ → ℕ
  minuses k = count k (λ i. has m i && has lower i)

  -- Below k the mask has no vector that squares to 0, or it has one.
  abbrev Signed : ℕ → Type 0
  Signed k = ((i : ℕ) → i < k → (has m i && has null i) ≡ false) × (product k ≡ sign (minuses k))

  abbrev Null : ℕ → Type 0
  Null k = ((i : ℕ) × ((has m i && has null i) ≡ true)) × (product k ≡ pos 0)

  -- What bit k multiplies in.
  grown : (k : ℕ) → k < d → (x n w : Bool) → has m k ≡ x → has null k ≡ n → has lower k ≡ w → product (suc k) ≡ product k *ℤ cond x (square_by n w) (pos 1)
  unfolding shared
  grown k q x n w e f u =
      ap₂ (λ (y : Bool) (z : ℤ). product k *ℤ cond (y && y) z (pos 1)) e (h k q ∙ ap₂ square_by f u)
      ∙ ap (λ (z : ℤ). product k *ℤ z) (double x (square_by n w) (pos 1))

  counted : (k : ℕ) (x w : Bool) → has m k ≡ x → has lower k ≡ w → minuses (suc k) ≡ minuses k + cond (x && w) 1 0
  unfolding count
  counted k x w e u = ap₂ (λ (y z : Bool). minuses k + cond (y && z) 1 0) e u

  -- No vector below k + 1 is met that squares to 0, if none is below k nor at k.
  still : (k : ℕ) → ((i : ℕ) → i < k → (has m i && has null i) ≡ false) → (has m k && has null k) ≡ false → (i : ℕ) → i < suc k → (has m i && has null i) ≡ false
  still k a e i q = ⊎_elim (λ (z : i < k). a i z) (λ (z : k ≤ i). let y : k ≡ i = omega arith in rw (← y) e) (split i k)

  next : (k : ℕ) → k < d → (x n w : Bool) → has m k ≡ x → has null k ≡ n → has lower k ≡ w → Signed k ⊎ Null k → Signed (suc k) ⊎ Null (suc k)
  next k q x n w e f u (inr z) = inr (z.0, grown k q x n w e f u ∙ ap (λ (y : ℤ). y *ℤ cond x (square_by n w) (pos 1)) z.1 ∙ zero-*ℤ (cond x (square_by n w) (pos 1)))
  next k q false n w e f u (inl z) =
      inl (still k z.0 (ap₂ (λ (a b : Bool). a && b) e f), grown k q false n w e f u ∙ mul_one (product k) ∙ z.1 ∙ ap sign (sym (counted k false w e u ∙ add-zero (minuses k))))
  next k q true true w e f u (inl z) = inr ((k, ap₂ (λ (a b : Bool). a && b) e f), grown k q true true w e f u ∙ *ℤ-zero (product k))
  next k q true false w e f u (inl z) =
      inl (
        still k z.0 (ap₂ (λ (a b : Bool). a && b) e f),
        grown k q true false w e f u ∙ ap₂ (λ (a b : ℤ). a *ℤ b) z.1 (sign_one w) ∙ sym (sign_add (minuses k) (cond w 1 0)) ∙ ap sign (sym (counted k true w e u)),
      )

  all : (k : ℕ) → k ≤ d → Signed k ⊎ Null k
  unfolding shared count sign pow one
  all zero q = inl ((λ i z. absurd (omega arith)), refl)
  all (suc k) q = next k (omega arith) (has m k) (has null k) (has lower k) refl refl refl (all k (omega arith))

  small : (b : ℕ) → bit_and m b < 2 ^ d
  small b = omega (arith, and_le_l m b)

  ones_counted : minuses d ≡ ones (bit_and m lower)
  ones_counted = sym (count_ext d (has (bit_and m lower)) (λ i. has m i && has lower i) (λ i q. has_and m lower i)) ∙ count_ones d (bit_and m lower) (small lower)

  pub product_by_lem : shared g d (has m) (has m) ≡ cond (eqb (bit_and m null) 0) (sign (ones (bit_and m lower))) (pos 0)
  product_by_lem =
      ⊎_elim
      (λ (z : Signed d).
      let e : bit_and m null ≡ 0 = has_ext d (bit_and m null) 0 (small null) (pow_pos d) (λ i q. has_and m null i ∙ z.0 i q ∙ sym (none_has i)) in
      z.1 ∙ ap sign ones_counted ∙ sym (ap (λ (t : Bool). cond t (sign (ones (bit_and m lower))) (pos 0)) (eq-eqb _ _ e)))
      (λ (z : Null d).
      let e : bit_and m null ≡ 0 → ⊥ = λ y. false≢true (sym (none_has z.0.0) ∙ ap (λ (n : ℕ). has n z.0.0) (sym y) ∙ has_and m null z.0.0 ∙ z.0.1) in
      z.1 ∙ sym (ap (λ (t : Bool). cond t (sign (ones (bit_and m lower))) (pos 0)) (ne_eqb _ _ e)))
      (all d (omega arith))

-- The weight of a mask, by the masks of a flavor's squares.
pub weight_by : (f : Flavor) (null lower d m : ℕ) → Squared f null lower → d ≤ 9 → m < 2 ^ d
    → weight f d m ≡ cond (eqb (bit_and m null) 0) (sign (ones (bit_and m lower))) (pos 0)
unfolding weight
weight_by f null lower d m h q l = product_by_lem (metric_of f) null lower d m (λ i z. h i (omega arith)) l
