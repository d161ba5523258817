-- The order with its masks backwards: which of them are kept, what the complements are, and what follows each. Assumes nothing.
use mathlib.Core.Path.{◌≡◌, refl, sym, ap, ◌∙◌}
use mathlib.Core.Bool.{cond}
use mathlib.Core.Logic.{◌⊎◌, inl, inr, ⊎_elim}
use Prim.Native.Nat.{ℕ, zero, suc, ◌+◌, ◌-◌, ◌*◌, ◌/◌, ◌%◌, ◌^◌, ◌≤◌, ◌<◌}
use native.Mathlib.Nat.{pow-suc, add-zero, sub-zero, not-suc-le-zero, mod-eq_of_lt, mul-add-mod_self_right}
use native.Mathlib.Omega.{arith}
use borrow.Author.Tests.{ne_eqb}
use lib.Arith.{digits_div}
use lib.Bits.{bit_and, and_step, and_self}
use lib.Count.{count_trailing_zeros}
use lib.Dec.{eqb}
use lib.ListN.{get_or}
use lib.Pow.{pow-add, pow_pos, pow_mono}
use Rattle.masks.specs.Order.{grade, order, size}
use Rattle.masks.specs.inner.Walk.{backwards, next_backwards}
use Rattle.masks.proofs.ListLaws.{split}
use Rattle.masks.proofs.OrderLaws.{size_zero, size_above, odd_at, even_at, none_at, blades_le}
use Rattle.masks.proofs.OrderSteps.{size_pos, along}
use Rattle.masks.proofs.OrderMirror.{halved}

-- ---- masks backwards

parity : (m : ℕ) → (m % 2 ≡ 0) ⊎ (m % 2 ≡ 1)
parity m = ⊎_elim (λ (l : m % 2 < 1). inl (omega arith)) (λ (l : 1 ≤ m % 2). inr (omega arith)) (split (m % 2) 1)

module _ (n m : ℕ) where
  backwards_even : m % 2 ≡ 0 → backwards (suc n) m ≡ backwards n (m / 2)
  unfolding backwards
  backwards_even e = rw e (omega arith)

  backwards_odd : m % 2 ≡ 1 → backwards (suc n) m ≡ 2 ^ n + backwards n (m / 2)
  unfolding backwards
  backwards_odd e = rw e (omega arith)

-- of a mask that is made of another
backwards_double : (n m : ℕ) → backwards (suc n) (2 * m) ≡ backwards n m
backwards_double n m =
    let h : 2 * m / 2 ≡ m = omega arith in
    backwards_even n (2 * m) (omega arith) ∙ ap (backwards n) h

backwards_more : (n m : ℕ) → backwards (suc n) (2 * m + 1) ≡ 2 ^ n + backwards n m
backwards_more n m =
    let h : (2 * m + 1) / 2 ≡ m = omega arith in
    backwards_odd n (2 * m + 1) (omega arith) ∙ ap (λ (x : ℕ). 2 ^ n + backwards n x) h

pub backwards_lt : (n m : ℕ) → backwards n m < 2 ^ n
unfolding backwards
backwards_lt zero m = omega arith
backwards_lt (suc n) m =
    ⊎_elim (λ e. omega (arith, backwards_even n m e, backwards_lt n (m / 2), pow-suc 2 n))
    (λ e. omega (arith, backwards_odd n m e, backwards_lt n (m / 2), pow-suc 2 n)) (parity m)

-- complements stay complements
pub backwards_mirror : (n m c : ℕ) → m + c + 1 ≡ 2 ^ n → backwards n m + backwards n c + 1 ≡ 2 ^ n
unfolding backwards
backwards_mirror zero m c e = refl
backwards_mirror (suc n) m c e =
    let h = halved n m c e in
    let i = backwards_mirror n (m / 2) (c / 2) h.0 in
    ⊎_elim (λ q. omega (arith, backwards_even n m q, backwards_odd n c (omega (arith, h.1)), pow-suc 2 n))
    (λ q. omega (arith, backwards_odd n m q, backwards_even n c (omega (arith, h.1)), pow-suc 2 n)) (parity m)

-- ---- the masks that are kept end with zeros

pub backwards_none : (n m : ℕ) → m < 2 ^ n → backwards n m ≡ 0 → m ≡ 0
unfolding backwards
backwards_none zero m h e = omega arith
backwards_none (suc n) m h e =
    ⊎_elim (λ q. omega (arith, backwards_none n (m / 2) (omega (arith, pow-suc 2 n)) (omega (arith, backwards_even n m q))))
    (λ q. absurd (omega (arith, backwards_odd n m q, pow_pos n))) (parity m)

pub backwards_zero : (n : ℕ) → backwards n 0 ≡ 0
unfolding backwards
backwards_zero zero = refl
backwards_zero (suc n) = backwards_double n 0 ∙ backwards_zero n

-- the last k bits of a mask of d + 1 + k dimensions are those of the mask without bit 0
ending : (d k n m : ℕ) → d + k ≡ n → backwards (suc n) m % 2 ^ k ≡ backwards n (m / 2) % 2 ^ k
ending d k n m e =
    ⊎_elim (λ q. ap (λ (x : ℕ). x % 2 ^ k) (backwards_even n m q))
    (λ q.
    ap (λ (x : ℕ). x % 2 ^ k) (backwards_odd n m q ∙ ap (λ (x : ℕ). x + backwards n (m / 2)) (ap (λ (x : ℕ). 2 ^ x) (sym e) ∙ pow-add 2 d k))
    ∙ mul-add-mod_self_right (2 ^ d) (2 ^ k) (backwards n (m / 2)))
    (parity m)

pub kept_ends : (d k n m : ℕ) → d + k ≡ n → m < 2 ^ d → backwards n m % 2 ^ k ≡ 0
kept_ends zero k n m e h =
    let z : m ≡ 0 = omega arith in
    rw (z, backwards_zero n) (mod-eq_of_lt (pow_pos k))
kept_ends (suc d) k zero m e h = absurd (omega arith)
kept_ends (suc d) k (suc n) m e h =
    ending d k n m (omega arith) ∙ kept_ends d k n (m / 2) (omega arith) (omega (arith, pow-suc 2 d))

pub ends_kept : (d k n m : ℕ) → d + k ≡ n → m < 2 ^ n → backwards n m % 2 ^ k ≡ 0 → m < 2 ^ d
ends_kept zero k n m e h q =
    let s : k ≡ n = omega arith in
    omega (arith, backwards_none n m h (sym (mod-eq_of_lt (backwards_lt n m)) ∙ ap (λ (x : ℕ). backwards n m % 2 ^ x) (sym s) ∙ q))
ends_kept (suc d) k zero m e h q = absurd (omega arith)
ends_kept (suc d) k (suc n) m e h q =
    omega
    (arith, pow-suc 2 d, pow-suc 2 n, ends_kept d k n (m / 2) (omega arith) (omega (arith, pow-suc 2 n)) (sym (ending d k n m (omega arith)) ∙ q))

-- ---- the first and the last of a grade

backwards_first : (d g : ℕ) → g ≤ d → backwards d (get_or (grade d g) 0 0) + 2 ^ (d - g) ≡ 2 ^ d
unfolding backwards
backwards_first zero zero h = refl
backwards_first zero (suc g) h = absurd (not-suc-le-zero h)
backwards_first (suc d) zero h =
    let m : ℕ = get_or (grade d 0) 0 0 in
    let i : backwards d m + 2 ^ (d - 0) ≡ 2 ^ d = backwards_first d zero (omega arith) in
    omega
    (arith, ap (backwards (suc d)) (none_at d 0 (size_pos d 0 (omega arith))) ∙ backwards_double d m, ap (λ (n : ℕ). 2 ^ n) (sub-zero d), ap (λ (n : ℕ). 2 ^ n) (sub-zero (suc d)))
backwards_first (suc d) (suc g) h =
    let m : ℕ = get_or (grade d g) 0 0 in
    let s : suc d - suc g ≡ d - g = omega arith in
    omega
    (arith, ap (backwards (suc d)) (odd_at d g 0 (size_pos d g (omega arith))) ∙ backwards_more d m, backwards_first d g (omega arith), ap (λ (n : ℕ). 2 ^ n) s, pow-suc 2 d)

backwards_last : (d g k : ℕ) → g ≤ d → suc k ≡ size d g → backwards d (get_or (grade d g) k 0) + 1 ≡ 2 ^ g
unfolding backwards size
backwards_last zero zero k h e = refl
backwards_last zero (suc g) k h e = absurd (not-suc-le-zero h)
backwards_last (suc d) zero k h e =
    let m : ℕ = get_or (grade d 0) k 0 in
    ap (λ (x : ℕ). x + 1) (ap (backwards (suc d)) (none_at d k (omega arith)) ∙ backwards_double d m) ∙ backwards_last d zero k (omega arith) e
backwards_last (suc d) (suc g) k h e =
    ⊎_elim
    (λ (l : g < d).
    let n : ℕ = k - size d g in
    let p = size_pos d (suc g) l in
    let b : size d g + n ≡ k = omega arith in
    rw (← b)
    (ap (λ (x : ℕ). x + 1) (ap (backwards (suc d)) (even_at d g n (omega arith)) ∙ backwards_double d (get_or (grade d (suc g)) n 0)) ∙ backwards_last d (suc g) n l (omega arith)))
    (λ (l : d ≤ g).
    let z = size_above d (suc g) (omega arith) in
    let s : d ≡ g = omega arith in
    let m : ℕ = get_or (grade d g) k 0 in
    omega
    (arith, ap (backwards (suc d)) (odd_at d g k (omega arith)) ∙ backwards_more d m, backwards_last d g k (omega arith) (omega arith), ap (λ (n : ℕ). 2 ^ n) s, pow-suc 2 g))
    (split g d)

-- ---- from a mask to the next of its grade

-- From x to x', below 2 ^ n: x ends with b ones; of its others the lowest is bit t, and 2 * above + 1 is what stands from there on. That bit moves down by one,
-- and the b ones follow it.
record Falls (n x x' : ℕ) : Type 0 where
  pub b : ℕ
  pub t : ℕ
  pub above : ℕ
  pub below : b < t
  pub within : t < n
  pub from : x + 1 ≡ (2 * above + 1) * 2 ^ t + 2 ^ b
  pub to : x' + 2 ^ (t - suc b) ≡ (2 * above + 1) * 2 ^ t

-- a bit above all others stays
over : (n x x' y y' : ℕ) → y ≡ 2 ^ n + x → y' ≡ 2 ^ n + x' → Falls n x x' → Falls (suc n) y y'
over n x x' y y' e e' f =
    let w : ℕ = n - suc f.t in
    let s : w + suc f.t ≡ n = omega (arith, f.within) in
    let p : 2 ^ n ≡ 2 ^ w * 2 ^ suc f.t = ap (λ (k : ℕ). 2 ^ k) (sym s) ∙ pow-add 2 w (suc f.t) in
    let q : 2 ^ n + (2 * f.above + 1) * 2 ^ f.t ≡ (2 * (2 ^ w + f.above) + 1) * 2 ^ f.t = omega (arith, p ∙ ap (λ (k : ℕ). 2 ^ w * k) (pow-suc 2 f.t)) in
    record {
      b = f.b;
      t = f.t;
      above = 2 ^ w + f.above;
      below = f.below;
      within = omega (arith, f.within);
      from = omega (arith, f.from, q);
      to = omega (arith, f.to, q);
    }

-- from the last mask that has bit 0 to the first that has not
across : (n g l f y y' : ℕ) → g < n → l + 1 ≡ 2 ^ g → f + 2 ^ (n - suc g) ≡ 2 ^ n → y ≡ 2 ^ n + l → y' ≡ f → Falls (suc n) y y'
across n g l f y y' h a c e e' = record {
  b = g;
  t = n;
  above = 0;
  below = h;
  within = omega arith;
  from = omega arith;
  to = omega arith;
}

wider : (n x x' y y' : ℕ) → y ≡ x → y' ≡ x' → Falls n x x' → Falls (suc n) y y'
wider n x x' y y' e e' f =
    record {
      b = f.b;
      t = f.t;
      above = f.above;
      below = f.below;
      within = omega (arith, f.within);
      from = omega (arith, f.from);
      to = omega (arith, f.to);
    }

falls : (d g i : ℕ) → suc i < size d g → Falls d (backwards d (get_or (grade d g) i 0)) (backwards d (get_or (grade d g) (suc i) 0))
unfolding size
falls zero zero i h = absurd (omega arith)
falls zero (suc g) i h = absurd (omega arith)
falls (suc d) zero i h = absurd (omega (arith, size_zero d))
falls (suc d) (suc g) i h =
    ⊎_elim
    (λ (l : suc i < size d g). over d _ _ _ _ (with_bit i (omega arith)) (with_bit (suc i) l) (falls d g i l))
    (λ (l : size d g ≤ suc i).
    ⊎_elim
    (λ (k : i < size d g).
    let s : g < d = ⊎_elim (λ (q : g < d). q) (λ (q : d ≤ g). absurd (omega (arith, size_above d (suc g) (omega arith)))) (split g d) in
    across d g _ _ _ _ s (backwards_last d g i (omega arith) (omega arith)) (backwards_first d (suc g) s) (with_bit i k) (without 0 (suc i) (omega arith) (size_pos d (suc g) s)))
    (λ (k : size d g ≤ i).
    let n : ℕ = i - size d g in
    wider d _ _ _ _ (without n i (omega arith) (omega arith)) (without (suc n) (suc i) (omega arith) (omega arith)) (falls d (suc g) n (omega arith)))
    (split i (size d g)))
    (split (suc i) (size d g))
  where
    with_bit : (k : ℕ) → k < size d g → backwards (suc d) (get_or (grade (suc d) (suc g)) k 0) ≡ 2 ^ d + backwards d (get_or (grade d g) k 0)
    with_bit k l = ap (backwards (suc d)) (odd_at d g k l) ∙ backwards_more d (get_or (grade d g) k 0)

    without : (n k : ℕ) → size d g + n ≡ k → n < size d (suc g) → backwards (suc d) (get_or (grade (suc d) (suc g)) k 0) ≡ backwards d (get_or (grade d (suc g)) n 0)
    without n k e l =
        ap (λ (k : ℕ). backwards (suc d) (get_or (grade (suc d) (suc g)) k 0)) (sym e)
        ∙ ap (backwards (suc d)) (even_at d g n l)
        ∙ backwards_double d (get_or (grade d (suc g)) n 0)

-- ---- the rule

-- the lowest one bit of an odd number times a power of two
lowest_is : (w q b n : ℕ) → b < w → n ≡ (2 * q + 1) * 2 ^ b → count_trailing_zeros w n ≡ b
unfolding count_trailing_zeros
lowest_is zero q b n h e = absurd (not-suc-le-zero h)
lowest_is (suc w) q zero n h e =
    let r : n % 2 ≡ 1 = omega arith in
    rw r
lowest_is (suc w) q (suc b) n h e =
    let s : n ≡ 2 * ((2 * q + 1) * 2 ^ b) = e ∙ omega (arith, ap (λ (k : ℕ). (2 * q + 1) * k) (pow-suc 2 b)) in
    let r : n % 2 ≡ 0 = omega arith in
    let d : n / 2 ≡ (2 * q + 1) * 2 ^ b = omega arith in
    rw r (ap suc (lowest_is w q b (n / 2) (omega arith) d))

-- a number and the next have in common all but the ones that the number ends with
common : (w x : ℕ) → x + 1 < 2 ^ w → bit_and x (x + 1) + 2 ^ count_trailing_zeros w (x + 1) ≡ x + 1
unfolding count_trailing_zeros
common zero x h = absurd (omega arith)
common (suc w) x h =
    ⊎_elim
    (λ (e : x % 2 ≡ 0).
    let r : (x + 1) % 2 ≡ 1 = omega arith in
    let d : (x + 1) / 2 ≡ x / 2 = omega arith in
    rw (r, and_step x (x + 1), r, d, e, and_self (x / 2)) (omega arith))
    (λ (e : x % 2 ≡ 1).
    let r : (x + 1) % 2 ≡ 0 = omega arith in
    let d : (x + 1) / 2 ≡ x / 2 + 1 = omega arith in
    rw (and_step x (x + 1), r, d, e)
    (omega (arith, common w (x / 2) (omega (arith, pow-suc 2 w)), pow-suc 2 (count_trailing_zeros w (x / 2 + 1)))))
    (parity x)

-- b + 1 places down from bit t
lower : (b t : ℕ) → b < t → 2 ^ t / 2 ^ (b + 1) ≡ 2 ^ (t - suc b)
lower b t h =
    let s : t - suc b + (b + 1) ≡ t = omega arith in
    let p : 2 ^ t ≡ 2 ^ (t - suc b) * 2 ^ (b + 1) + 0 = ap (λ (k : ℕ). 2 ^ k) (sym s) ∙ pow-add 2 (t - suc b) (b + 1) ∙ sym (add-zero _) in
    ap (λ (k : ℕ). k / 2 ^ (b + 1)) p ∙ digits_div (2 ^ (t - suc b)) (pow_pos (b + 1))

module _ (d x : ℕ) (small : x + 1 < 2 ^ 32) where
  -- x ends with b ones, and has the others u, of which bit t is the lowest
  by_rule : (b t q u m : ℕ) → b < t → t < 32 → count_trailing_zeros 32 (x + 1) ≡ b → cond (eqb (bit_and x (x + 1)) 0) (2 ^ d) (bit_and x (x + 1)) ≡ u → u ≡ (2 * q + 1) * 2 ^ t → m + 2 ^ (t - suc b) ≡ u → next_backwards d x ≡ m
  unfolding next_backwards
  by_rule b t q u m l h e f g k = rw (e, f, lowest_is 32 q t u h g, lower b t l) (omega arith)

  others : (b u : ℕ) → count_trailing_zeros 32 (x + 1) ≡ b → x + 1 ≡ u + 2 ^ b → bit_and x (x + 1) ≡ u
  others b u e f = omega (arith, common 32 x small, ap (λ (k : ℕ). 2 ^ k) e)

  falls_next : (n x' : ℕ) → n ≤ 31 → Falls n x x' → next_backwards d x ≡ x'
  falls_next n x' h f =
      let u : ℕ = (2 * f.above + 1) * 2 ^ f.t in
      let w : ℕ = f.t - suc f.b in
      let s : w + suc f.b ≡ f.t = omega (arith, f.below) in
      let p : 2 ^ f.t ≡ 2 ^ w * (2 ^ f.b * 2) = ap (λ (k : ℕ). 2 ^ k) (sym s) ∙ pow-add 2 w (suc f.b) ∙ ap (λ (k : ℕ). 2 ^ w * k) (pow-suc 2 f.b) in
      let o : x + 1 ≡ (2 * ((2 * f.above + 1) * 2 ^ w) + 1) * 2 ^ f.b = f.from ∙ omega (arith, ap (λ (k : ℕ). (2 * f.above + 1) * k) p) in
      let e : count_trailing_zeros 32 (x + 1) ≡ f.b = lowest_is 32 _ f.b (x + 1) (omega (arith, f.below, f.within)) o in
      let a : bit_and x (x + 1) ≡ u = others f.b u e f.from in
      let z : 0 < u = omega (arith, f.from, pow_pos f.t) in
      by_rule f.b f.t f.above u x' f.below (omega (arith, f.within)) e (rw (a, ne_eqb u 0 (λ q. omega arith))) refl f.to

  last_next : (g m : ℕ) → g < d → d ≤ 31 → x + 1 ≡ 2 ^ g → m + 2 ^ (d - suc g) ≡ 2 ^ d → next_backwards d x ≡ m
  last_next g m h l f k =
      let e : count_trailing_zeros 32 (x + 1) ≡ g = lowest_is 32 0 g (x + 1) (omega arith) (omega arith) in
      let a : bit_and x (x + 1) ≡ 0 = others g 0 e (omega arith) in
      by_rule g d 0 (2 ^ d) m h (omega arith) e (rw a) (omega arith) k

-- ---- along the order

-- each mask of the order, backwards, by the rule from the one before
pub next_backwards_lem : (d k : ℕ) → d ≤ 9 → suc k < 2 ^ d → next_backwards d (backwards d (get_or (order d) k 0)) ≡ backwards d (get_or (order d) (suc k) 0)
next_backwards_lem d k l h =
    along d (λ (m m' : ℕ). next_backwards d (backwards d m) ≡ backwards d m') (λ g i s. falls_next d _ (small _) d _ (omega arith) (falls d g i s))
    (λ g i s e. last_next d _ (small _) g _ s (omega arith) (backwards_last d g i (omega arith) e) (backwards_first d (suc g) s))
    k h
  where
    small : (m : ℕ) → backwards d m + 1 < 2 ^ 32
    small m = omega (arith, backwards_lt d m, blades_le d l)

-- ---- the lowest one bit

lowest_le : (w n : ℕ) → 0 < n → n < 2 ^ w → 2 ^ count_trailing_zeros w n ≤ n
unfolding count_trailing_zeros
lowest_le zero n p h = absurd (omega arith)
lowest_le (suc w) n p h =
    ⊎_elim
    (λ (e : n % 2 ≡ 0).
    rw e
    (omega (arith, lowest_le w (n / 2) (omega arith) (omega (arith, pow-suc 2 w)), pow-suc 2 (count_trailing_zeros w (n / 2)))))
    (λ (e : n % 2 ≡ 1). rw e (omega arith)) (parity n)

-- it is one of the bits that a number has
pub lowest_within : (d n : ℕ) → d ≤ 9 → 0 < n → n < 2 ^ d → (2 ^ count_trailing_zeros 32 n ≤ n) × (count_trailing_zeros 32 n < d)
lowest_within d n l p h =
    let t : ℕ = count_trailing_zeros 32 n in
    let s : 2 ^ t ≤ n = lowest_le 32 n p (omega (arith, blades_le d l)) in
    (s, ⊎_elim (λ (q : t < d). q) (λ (q : d ≤ t). absurd (omega (arith, pow_mono {i = d} {j = t} q))) (split t d))

-- the rule, in its own words, where x is the last of its grade and where it is not
pub next_first : (d x : ℕ) → d ≤ 9 → bit_and x (x + 1) ≡ 0 → next_backwards d x ≡ 2 ^ d - 2 ^ d / 2 ^ (count_trailing_zeros 32 (x + 1) + 1)
unfolding next_backwards
next_first d x l e = rw (e, lowest_is 32 0 d (2 ^ d) (omega arith) (omega arith))

pub next_others : (d x : ℕ) → (bit_and x (x + 1) ≡ 0 → ⊥) → next_backwards d x ≡ bit_and x (x + 1) - 2 ^ count_trailing_zeros 32 (bit_and x (x + 1)) / 2 ^ (count_trailing_zeros 32 (x + 1) + 1)
unfolding next_backwards
next_others d x e = rw (ne_eqb (bit_and x (x + 1)) 0 e)
