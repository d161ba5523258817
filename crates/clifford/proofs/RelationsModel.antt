-- Blades multiplied by sigma satisfy the relations, so nothing but sigma can be derived for the words of two blades.
use mathlib.Core.Path.{◌≡◌, refl, sym, ◌∙◌, ap, ap₂, fun_ext}
use mathlib.Core.Logic.{◌≢◌}
use mathlib.Core.Bool.{Bool, true, false, ◌&&◌, and-false, and-true}
use mathlib.Core.List.{List, [], ◌∷◌, ◌++◌, append-nil}
use Prim.Native.Nat.{ℕ, zero, suc, ◌<◌, ◌≤◌}
use native.Mathlib.Omega.{arith}
use native.Mathlib.Decide.{ℕ_discrete, dec_lt}
use lib.Dec.{eqb}
use lib.IntN.{ℤ, pos, negsuc, ◌*ℤ◌}
use borrow.Author.Tests.{eq-eqb, ne_eqb}
use Rattle.clifford.specs.Blade.{Blade, ◌⊻◌, ◌⊕◌}
use Rattle.clifford.specs.Relations.{Equals, exchange, square, same, chain, left, right, word}
use Rattle.clifford.proofs.Ring.{product, mul_assoc, mul_one, one_mul}
use Rattle.clifford.proofs.BladeLaws.{⊻-false, ⊻-comm, ⊻-self, ⊻-assoc}
use Rattle.clifford.proofs.Sigma.{when, parity, factor, sigma, sigma_cocycle, sigma_ext, none, when_one, none_sigma, sigma_none}
use Rattle.clifford.proofs.RelationsLaws.{only}

-- ---- one vector

-- `single i` is the blade of vector i alone.
unfoldable single : ℕ → Blade
single i j = eqb i j

single_same : (i : ℕ) → single i i ≡ true
unfolding single
single_same i = eq-eqb i i refl

single_other : (i j : ℕ) → i ≢ j → single i j ≡ false
unfolding single
single_other = ne_eqb

parity_low : (d j : ℕ) → d ≤ j → parity d (single j) ≡ pos 1
unfolding parity
parity_low zero j h = refl
parity_low (suc d) j h = rw (parity_low d j (omega arith), single_other j d (λ e. omega arith))

parity_high : (d j : ℕ) → j < d → parity d (single j) ≡ negsuc 0
unfolding parity
parity_high zero j h = absurd (omega arith)
parity_high (suc d) j h = go (ℕ_discrete j d) (parity_high d j)
  where
    go : Dec (j ≡ d) → (j < d → parity d (single j) ≡ negsuc 0) → parity d (single j) *ℤ when (single j d) (negsuc 0) ≡ negsuc 0
    go (yes p) ih = rw (parity_low d j (omega arith), p, single_same d)
    go (no p) ih = rw (ih (omega arith), single_other j d p)

single_low : (g : ℕ → ℤ) (d i : ℕ) (b : Blade) → d ≤ i → sigma g d (single i) b ≡ pos 1
unfolding sigma
single_low g zero i b h = refl
single_low g (suc d) i b h = rw (single_low g d i b (omega arith), single_other i d (λ e. omega arith))

single_sigma : (g : ℕ → ℤ) (d i : ℕ) (b : Blade) → i < d → sigma g d (single i) b ≡ parity i b *ℤ when (b i) (g i)
unfolding sigma
single_sigma g zero i b h = absurd (omega arith)
single_sigma g (suc d) i b h = go (ℕ_discrete i d) (single_sigma g d i b)
  where
    go : Dec (i ≡ d) → (i < d → sigma g d (single i) b ≡ parity i b *ℤ when (b i) (g i))
        → sigma g d (single i) b *ℤ factor (single i d) (b d) (parity d b) (g d) ≡ parity i b *ℤ when (b i) (g i)
    go (yes p) ih = rw (single_low g d i b (omega arith), p, single_same d, one_mul (parity d b *ℤ when (b d) (g d)))
    go (no p) ih = rw (ih (omega arith), single_other i d p, mul_one (parity i b *ℤ when (b i) (g i)))

-- The defining relations hold of sigma.
sigma_square : (g : ℕ → ℤ) (d i : ℕ) → i < d → sigma g d (single i) (single i) ≡ g i
sigma_square g d i h = rw (single_sigma g d i (single i) h, parity_low i i (omega arith), single_same i, one_mul (g i))

sigma_exchange : (g : ℕ → ℤ) (d i j : ℕ) → i < d → j < d → i ≢ j
    → sigma g d (single i) (single j) ≡ negsuc 0 *ℤ sigma g d (single j) (single i)
sigma_exchange g d i j hi hj h = go (dec_lt i j)
  where
    go : Dec (i < j) → sigma g d (single i) (single j) ≡ negsuc 0 *ℤ sigma g d (single j) (single i)
    go (yes l) = rw (single_sigma g d i (single j) hi, single_sigma g d j (single i) hj, single_other i j h, single_other j i (λ e. h (sym e)), parity_low i j (omega arith), parity_high j i l)
    go (no l) = rw (single_sigma g d i (single j) hi, single_sigma g d j (single i) hj, single_other i j h, single_other j i (λ e. h (sym e)), parity_high i j (omega arith), parity_low j i (omega arith))

-- ---- the value of a word where blades are multiplied by sigma: the number `coef` times the blade `held`

unfoldable held : List ℕ → Blade
held [] = none
held (i ∷ w) = single i ⊕ held w

unfoldable coef : (ℕ → ℤ) → ℕ → List ℕ → ℤ
coef g d [] = pos 1
coef g d (i ∷ w) = sigma g d (single i) (held w) *ℤ coef g d w

held-++ : (u v : List ℕ) → held (u ++ v) ≡ held u ⊕ held v
unfolding held
held-++ [] v = refl
held-++ (i ∷ u) v = rw (held-++ u v) (fun_ext (λ j. sym (⊻-assoc (single i j) (held u j) (held v j))))

coef-++ : (g : ℕ → ℤ) (d : ℕ) (u v : List ℕ) → coef g d (u ++ v) ≡ (coef g d u *ℤ coef g d v) *ℤ sigma g d (held u) (held v)
unfolding held coef
coef-++ g d [] v = rw (none_sigma g d (held v), one_mul (coef g d v), mul_one (coef g d v))
coef-++ g d (i ∷ u) v =
    ap₂ (λ b s. sigma g d (single i) b *ℤ s) (held-++ u v) (coef-++ g d u v)
    ∙ one_way (sigma g d (single i) (held u ⊕ held v)) (coef g d u) (coef g d v) (sigma g d (held u) (held v))
    ∙ ap (λ s. s *ℤ (coef g d u *ℤ coef g d v)) (sym (sigma_cocycle g d (single i) (held u) (held v)))
    ∙ other_way (sigma g d (single i) (held u)) (sigma g d (single i ⊕ held u) (held v)) (coef g d u) (coef g d v)
  where
    one_way : (s x y t : ℤ) → s *ℤ ((x *ℤ y) *ℤ t) ≡ (t *ℤ s) *ℤ (x *ℤ y)
    one_way s x y t = simp product

    other_way : (s t x y : ℤ) → (s *ℤ t) *ℤ (x *ℤ y) ≡ ((s *ℤ x) *ℤ y) *ℤ t
    other_way s t x y = simp product

-- An equation of words is one of their values.
abbrev Sound : (ℕ → ℤ) → ℕ → List ℕ → ℤ → List ℕ → Type 0
Sound g d u s v = (held u ≡ held v) × (coef g d u ≡ s *ℤ coef g d v)

⊕-none : (a : Blade) → a ⊕ none ≡ a
⊕-none a = fun_ext (λ k. ⊻-false (a k))

coef_pair : (g : ℕ → ℤ) (d i j : ℕ) → coef g d (i ∷ j ∷ []) ≡ sigma g d (single i) (single j)
unfolding held coef
coef_pair g d i j = rw (⊕-none (single j), sigma_none g d (single j), mul_one (sigma g d (single i) (single j)))

held_pair : (i j k : ℕ) → held (i ∷ j ∷ []) k ≡ single i k ⊻ single j k
unfolding held
held_pair i j k = rw (⊻-false (single j k))

-- What the relations give holds of the values.
sound : {g : ℕ → ℤ} {d : ℕ} {u v : List ℕ} {s : ℤ} → Equals g d u s v → Sound g d u s v
unfolding held coef
sound {g} {d} (exchange i j hi hj h) = (
  fun_ext (λ k. held_pair i j k ∙ ⊻-comm (single i k) (single j k) ∙ sym (held_pair j i k)),
  coef_pair g d i j ∙ sigma_exchange g d i j hi hj h ∙ ap (λ x. negsuc 0 *ℤ x) (sym (coef_pair g d j i)),
)
sound {g} {d} (square i h) = (fun_ext (λ k. held_pair i i k ∙ ⊻-self (single i k)), coef_pair g d i i ∙ sigma_square g d i h ∙ sym (mul_one (g i)))
sound {g} {d} (same u) = (refl, sym (one_mul (coef g d u)))
sound {g} {d} (chain {w = w} {s = s} {t = t} e f) =
    ((sound e).0 ∙ (sound f).0, (sound e).1 ∙ ap (λ x. s *ℤ x) (sound f).1 ∙ sym (mul_assoc s t (coef g d w)))
sound {g} {d} (left p {u = u} {v = v} {s = s} e) = (
  held-++ p u ∙ ap (λ b. held p ⊕ b) (sound e).0 ∙ sym (held-++ p v),
  coef-++ g d p u ∙ ap₂ (λ x b. (coef g d p *ℤ x) *ℤ sigma g d (held p) b) (sound e).1 (sound e).0
      ∙ out (coef g d p) s (coef g d v) (sigma g d (held p) (held v)) ∙ ap (λ x. s *ℤ x) (sym (coef-++ g d p v)),
)
  where
    out : (p s v t : ℤ) → (p *ℤ (s *ℤ v)) *ℤ t ≡ s *ℤ ((p *ℤ v) *ℤ t)
    out p s v t = simp product
sound {g} {d} (right q {u = u} {v = v} {s = s} e) = (
  held-++ u q ∙ ap (λ b. b ⊕ held q) (sound e).0 ∙ sym (held-++ v q),
  coef-++ g d u q ∙ ap₂ (λ x b. (x *ℤ coef g d q) *ℤ sigma g d b (held q)) (sound e).1 (sound e).0
      ∙ out (coef g d q) s (coef g d v) (sigma g d (held v) (held q)) ∙ ap (λ x. s *ℤ x) (sym (coef-++ g d v q)),
)
  where
    out : (q s v t : ℤ) → ((s *ℤ v) *ℤ q) *ℤ t ≡ s *ℤ ((v *ℤ q) *ℤ t)
    out q s v t = simp product

-- ---- the value of a blade's word is the blade itself

held_only : (x : Bool) (i k : ℕ) → held (only x i) k ≡ (x && single i k)
unfolding held
held_only false i k = refl
held_only true i k = ⊻-false (single i k)

held_step : (d : ℕ) (a : Blade) (k : ℕ) → held (word (suc d) a) k ≡ held (word d a) k ⊻ (a d && single d k)
unfolding word
held_step d a k = ap (λ b. b k) (held-++ (word d a) (only (a d) d)) ∙ ap (λ x. held (word d a) k ⊻ x) (held_only (a d) d k)

held_above : (d : ℕ) (a : Blade) (k : ℕ) → d ≤ k → held (word d a) k ≡ false
unfolding word held
held_above zero a k h = refl
held_above (suc d) a k h = held_step d a k ∙ rw (held_above d a k (omega arith), single_other d k (λ e. omega arith), and-false (a d))

held_word : (d : ℕ) (a : Blade) (k : ℕ) → k < d → held (word d a) k ≡ a k
held_word zero a k h = absurd (omega arith)
held_word (suc d) a k h = held_step d a k ∙ go (ℕ_discrete k d) (held_word d a k)
  where
    go : Dec (k ≡ d) → (k < d → held (word d a) k ≡ a k) → held (word d a) k ⊻ (a d && single d k) ≡ a k
    go (yes p) ih = rw (held_above d a k (omega arith), p, single_same d, and-true (a d))
    go (no p) ih = rw (ih (omega arith), single_other d k (λ e. p (sym e)), and-false (a d), ⊻-false (a k))

-- A blade of vectors below d meets none of its own when the vector d is multiplied to it.
sigma_rise : (g : ℕ → ℤ) (e d : ℕ) (a : Blade) → ((k : ℕ) → d ≤ k → a k ≡ false) → sigma g e a (single d) ≡ pos 1
unfolding sigma
sigma_rise g zero d a h = refl
sigma_rise g (suc e) d a h = rw (sigma_rise g e d a h) (go (dec_lt e d))
  where
    go : Dec (e < d) → pos 1 *ℤ factor (a e) (single d e) (parity e (single d)) (g e) ≡ pos 1
    go (yes l) = rw (parity_low e d (omega arith), single_other d e (λ q. omega arith), when_one (a e))
    go (no l) = rw (h e (omega arith))

coef_word : (g : ℕ → ℤ) (n d : ℕ) (a : Blade) → coef g n (word d a) ≡ pos 1
unfolding coef word held
coef_word g n zero a = refl
coef_word g n (suc d) a = go (a d) (coef_word g n d a)
  where
    go : (x : Bool) → coef g n (word d a) ≡ pos 1 → coef g n (word d a ++ only x d) ≡ pos 1
    go false ih = rw append-nil ih
    go true ih =
        coef-++ g n (word d a) (d ∷ [])
        ∙ rw (ih, ⊕-none (single d), sigma_none g n (single d), sigma_rise g n d (held (word d a)) (held_above d a))

-- Whatever number the relations give for the words of two blades is sigma.
pub sigma_unique : {g : ℕ → ℤ} {n : ℕ} {s : ℤ} (a b c : Blade) → Equals g n (word n a ++ word n b) s (word n c) → s ≡ sigma g n a b
sigma_unique {g} {n} {s} a b c e =
    sym (mul_one s) ∙ ap (λ x. s *ℤ x) (sym (coef_word g n n c)) ∙ sym (sound e).1 ∙ coef-++ g n (word n a) (word n b)
    ∙ rw (coef_word g n n a, coef_word g n n b, sigma_ext g n (held (word n a)) a (held (word n b)) b (held_word n a) (held_word n b), one_mul (sigma g n a b))
