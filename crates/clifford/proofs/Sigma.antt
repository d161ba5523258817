-- The metric, but for the turned masks, is a product of one factor for each vector. In this form, by recursion on the top index, its laws are proved.
use mathlib.Core.Path.{◌≡◌, refl, sym, ◌∙◌, ap, ap₂}
use mathlib.Core.Bool.{Bool, true, false, ◌&&◌, cond}
use Prim.Native.Nat.{ℕ, zero, suc, ◌+◌, ◌<◌}
use native.Mathlib.Omega.{arith}
use native.Mathlib.Nat.{add-zero}
use native.Mathlib.Numerals.{add-one}
use lib.IntN.{ℤ, pos, negsuc, ◌*ℤ◌, *ℤ_comm, pow, one}
use Rattle.clifford.specs.Blade.{Blade, ◌⊻◌, ◌⊕◌, count}
use Rattle.clifford.specs.Sign.{sign, reversal}
use Rattle.clifford.specs.Metric.{swaps, shared}
use Rattle.clifford.proofs.Ring.{product, mul_cross, mul_one, one_mul}
use Rattle.clifford.proofs.CountLaws.{swaps_zero, swaps_suc}
use Rattle.clifford.proofs.SignLaws.{sign_add, reversal_suc}

-- `when x k` is k where the test holds, else 1.
abbrev pub when : Bool → ℤ → ℤ
when x k = cond x k (pos 1)

-- `parity d a` is -1 to the number of vectors of a below d.
unfoldable pub parity : ℕ → Blade → ℤ
parity zero a = pos 1
parity (suc d) a = parity d a *ℤ when (a d) (negsuc 0)

-- One vector with the metric g brings `factor x y p g` to a product: x and y tell whether the left and the right blade hold it, and p is the parity of
-- the right one's lower vectors, which it passes.
abbrev pub factor : Bool → Bool → ℤ → ℤ → ℤ
factor x y p g = when x p *ℤ when x (when y g)

-- `sigma` has a sign change for each vector of a and each lower vector of b, and the metric of each vector that both hold.
unfoldable pub sigma : (ℕ → ℤ) → ℕ → Blade → Blade → ℤ
sigma g zero a b = pos 1
sigma g (suc d) a b = sigma g d a b *ℤ factor (a d) (b d) (parity d b) (g d)

-- `backwards d a` is -1 to the number of pairs among the vectors of a, the sign of a read backwards.
unfoldable pub backwards : ℕ → Blade → ℤ
backwards zero a = pos 1
backwards (suc d) a = backwards d a *ℤ when (a d) (parity d a)

-- ---- the cocycle law and the law of reversal

ruleset units = (product, mul_one, one_mul)

when_when : (x : Bool) (p : ℤ) → p *ℤ p ≡ pos 1 → when x p *ℤ when x p ≡ pos 1
when_when false p h = refl
when_when true p h = h

when-⊻ : (x y : Bool) (p : ℤ) → p *ℤ p ≡ pos 1 → when (x ⊻ y) p ≡ when x p *ℤ when y p
when-⊻ false y p h = sym (one_mul (when y p))
when-⊻ true false p h = sym (mul_one p)
when-⊻ true true p h = sym h

square_times : (p q : ℤ) → p *ℤ p ≡ pos 1 → q *ℤ q ≡ pos 1 → (p *ℤ q) *ℤ (p *ℤ q) ≡ pos 1
square_times p q h k = mul_cross p q p q ∙ rw (h, k)

pub parity_square : (d : ℕ) (a : Blade) → parity d a *ℤ parity d a ≡ pos 1
unfolding parity
parity_square zero a = refl
parity_square (suc d) a = square_times (parity d a) (when (a d) (negsuc 0)) (parity_square d a) (when_when (a d) (negsuc 0) refl)

pub parity-⊕ : (d : ℕ) (a b : Blade) → parity d (a ⊕ b) ≡ parity d a *ℤ parity d b
unfolding parity
parity-⊕ zero a b = refl
parity-⊕ (suc d) a b =
    ap₂ (λ s t. s *ℤ t) (parity-⊕ d a b) (when-⊻ (a d) (b d) (negsuc 0) refl)
    ∙ mul_cross (parity d a) (parity d b) (when (a d) (negsuc 0)) (when (b d) (negsuc 0))

-- This is one vector's part in the cocycle law, where p and q are the parities of b and of c below it.
top : (x y z : Bool) (p q g : ℤ) → q *ℤ q ≡ pos 1
    → factor x y p g *ℤ factor (x ⊻ y) z q g ≡ factor y z q g *ℤ factor x (y ⊻ z) (p *ℤ q) g
top false y z p q g h = *ℤ_comm (pos 1) (factor y z q g)
top true false z p q g h = swap p q (when z g)
  where
    swap : (p q g : ℤ) → (p *ℤ pos 1) *ℤ (q *ℤ g) ≡ pos 1 *ℤ (p *ℤ q *ℤ g)
    swap p q g = simp units
top true true false p q g h = ap (λ s. p *ℤ g *ℤ s) (sym h) ∙ swap p q g
  where
    swap : (p q g : ℤ) → p *ℤ g *ℤ (q *ℤ q) ≡ (q *ℤ pos 1) *ℤ (p *ℤ q *ℤ g)
    swap p q g = simp units
top true true true p q g h = ap (λ s. p *ℤ g *ℤ s) (sym h) ∙ swap p q g
  where
    swap : (p q g : ℤ) → p *ℤ g *ℤ (q *ℤ q) ≡ (q *ℤ g) *ℤ (p *ℤ q *ℤ pos 1)
    swap p q g = simp units

-- Three blades group either way: this is the cocycle law.
pub sigma_cocycle : (g : ℕ → ℤ) (d : ℕ) (a b c : Blade) → sigma g d a b *ℤ sigma g d (a ⊕ b) c ≡ sigma g d b c *ℤ sigma g d a (b ⊕ c)
unfolding sigma
sigma_cocycle g zero a b c = refl
sigma_cocycle g (suc d) a b c =
    let one = factor (a d) (b d) (parity d b) (g d) in
    let two = factor (a d ⊻ b d) (c d) (parity d c) (g d) in
    let three = factor (b d) (c d) (parity d c) (g d) in
    let four = factor (a d) (b d ⊻ c d) (parity d b *ℤ parity d c) (g d) in
    mul_cross (sigma g d a b) one (sigma g d (a ⊕ b) c) two
    ∙ ap₂ (λ s t. s *ℤ t) (sigma_cocycle g d a b c) (top (a d) (b d) (c d) (parity d b) (parity d c) (g d) (parity_square d c))
    ∙ mul_cross (sigma g d b c) (sigma g d a (b ⊕ c)) three four
    ∙ ap (λ p. sigma g d b c *ℤ three *ℤ (sigma g d a (b ⊕ c) *ℤ factor (a d) (b d ⊻ c d) p (g d))) (sym (parity-⊕ d b c))

-- This is one vector's part in the law of reversal.
turn : (x y : Bool) (p q g : ℤ) → p *ℤ p ≡ pos 1 → q *ℤ q ≡ pos 1
    → when (x ⊻ y) (p *ℤ q) *ℤ factor x y q g ≡ (when x p *ℤ when y q) *ℤ factor y x p g
turn false false p q g h k = refl
turn false true p q g h k = simp units
turn true false p q g h k = pair p q ∙ ap (λ s. p *ℤ pos 1 *ℤ s) k
  where
    pair : (p q : ℤ) → p *ℤ q *ℤ (q *ℤ pos 1) ≡ p *ℤ pos 1 *ℤ (q *ℤ q)
    pair p q = simp units
turn true true p q g h k = ap (λ s. s *ℤ (q *ℤ g)) (sym h) ∙ pair p q g
  where
    pair : (p q g : ℤ) → p *ℤ p *ℤ (q *ℤ g) ≡ p *ℤ q *ℤ (p *ℤ g)
    pair p q g = simp units

-- The blade a times b read backwards is b read backwards times a read backwards.
pub sigma_reversal : (g : ℕ → ℤ) (d : ℕ) (a b : Blade)
    → backwards d (a ⊕ b) *ℤ sigma g d a b ≡ backwards d a *ℤ backwards d b *ℤ sigma g d b a
unfolding sigma backwards
sigma_reversal g zero a b = refl
sigma_reversal g (suc d) a b =
    let both = when (a d ⊻ b d) (parity d a *ℤ parity d b) in
    let left = factor (a d) (b d) (parity d b) (g d) in
    ap (λ p. backwards d (a ⊕ b) *ℤ when (a d ⊻ b d) p *ℤ (sigma g d a b *ℤ left)) (parity-⊕ d a b)
    ∙ mul_cross (backwards d (a ⊕ b)) both (sigma g d a b) left
    ∙ ap₂ (λ s t. s *ℤ t) (sigma_reversal g d a b) (turn (a d) (b d) (parity d a) (parity d b) (g d) (parity_square d a) (parity_square d b))
    ∙ six (backwards d a) (backwards d b) (sigma g d b a) (when (a d) (parity d a)) (when (b d) (parity d b)) (factor (b d) (a d) (parity d a) (g d))
  where
    six : (a b c x y z : ℤ) → a *ℤ b *ℤ c *ℤ (x *ℤ y *ℤ z) ≡ a *ℤ x *ℤ (b *ℤ y) *ℤ (c *ℤ z)
    six a b c x y z = simp product

-- Only the vectors below d count.
pub parity_ext : (d : ℕ) (a b : Blade) → ((i : ℕ) → i < d → a i ≡ b i) → parity d a ≡ parity d b
unfolding parity
parity_ext zero a b h = refl
parity_ext (suc d) a b h = rw (parity_ext d a b (λ i l. h i (omega arith)), h d (omega arith))

pub sigma_ext : (g : ℕ → ℤ) (d : ℕ) (a a' b b' : Blade) → ((i : ℕ) → i < d → a i ≡ a' i) → ((i : ℕ) → i < d → b i ≡ b' i)
    → sigma g d a b ≡ sigma g d a' b'
unfolding sigma
sigma_ext g zero a a' b b' h k = refl
sigma_ext g (suc d) a a' b b' h k =
    rw (sigma_ext g d a a' b b' (λ i l. h i (omega arith)) (λ i l. k i (omega arith)), h d (omega arith), k d (omega arith), parity_ext d b b' (λ i l. k i (omega arith)))

-- ---- the blade of no vectors is a unit

abbrev pub none : Blade
none i = false

pub when_one : (x : Bool) → when x (pos 1) ≡ pos 1
when_one false = refl
when_one true = refl

parity_none : (d : ℕ) → parity d none ≡ pos 1
unfolding parity
parity_none zero = refl
parity_none (suc d) = rw (parity_none d)

pub none_sigma : (g : ℕ → ℤ) (d : ℕ) (b : Blade) → sigma g d none b ≡ pos 1
unfolding sigma
none_sigma g zero b = refl
none_sigma g (suc d) b = rw (none_sigma g d b)

pub sigma_none : (g : ℕ → ℤ) (d : ℕ) (a : Blade) → sigma g d a none ≡ pos 1
unfolding sigma
sigma_none g zero a = refl
sigma_none g (suc d) a = rw (sigma_none g d a, parity_none d, when_one (a d))

-- ---- the same in the words of the definition

sign_if : (x : Bool) (k : ℕ) → sign (cond x k 0) ≡ when x (sign k)
unfolding sign pow one
sign_if false k = refl
sign_if true k = refl

pub parity_is : (d : ℕ) (a : Blade) → parity d a ≡ sign (count d a)
unfolding parity count sign pow one
parity_is zero a = refl
parity_is (suc d) a = ap₂ (λ s t. s *ℤ t) (parity_is d a) (sym (sign_if (a d) 1)) ∙ sym (sign_add (count d a) (cond (a d) 1 0))

both_when : (x y : Bool) (g : ℤ) → when x (when y g) ≡ when (x && y) g
both_when false y g = refl
both_when true y g = refl

-- `sigma` is -1 to the number of index pairs, times the metrics of shared vectors.
pub sigma_is : (g : ℕ → ℤ) (d : ℕ) (a b : Blade) → sigma g d a b ≡ sign (swaps d a b) *ℤ shared g d a b
unfolding sigma shared sign pow one
sigma_is g zero a b = ap (λ (k : ℕ). sign k *ℤ pos 1) (sym (swaps_zero a b))
sigma_is g (suc d) a b =
    ap₂ (λ s t. s *ℤ t) (sigma_is g d a b)
    (ap₂ (λ s t. s *ℤ t) (ap (when (a d)) (parity_is d b) ∙ sym (sign_if (a d) (count d b))) (both_when (a d) (b d) (g d)))
    ∙ mul_cross (sign (swaps d a b)) (shared g d a b) (sign (cond (a d) (count d b) 0)) (when (a d && b d) (g d))
    ∙ ap (λ s. s *ℤ (shared g d a b *ℤ when (a d && b d) (g d))) (sym (ap sign (swaps_suc d a b) ∙ sign_add (swaps d a b) (cond (a d) (count d b) 0)))

-- The sign of a blade read backwards is the one that `reverse` gives to its grade.
pub backwards_is : (d : ℕ) (a : Blade) → backwards d a ≡ reversal (count d a)
unfolding backwards count reversal
backwards_is zero a = refl
backwards_is (suc d) a = go (a d) (backwards_is d a)
  where
    go : (x : Bool) → backwards d a ≡ reversal (count d a) → backwards d a *ℤ when x (parity d a) ≡ reversal (count d a + cond x 1 0)
    go false e = mul_one (backwards d a) ∙ e ∙ ap reversal (sym (add-zero (count d a)))
    go true e = ap₂ (λ s t. s *ℤ t) e (parity_is d a) ∙ sym (reversal_suc (count d a)) ∙ ap reversal (sym (add-one (count d a)))
