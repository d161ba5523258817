-- The subsets of a mask in rising order: `(s + (2 ^ d - free)) & free` is the least subset of `free` above s, and 0 after the
-- last, so its steps from 0 meet each subset once. Assumes nothing.
use mathlib.Core.Path.{◌≡◌, refl, sym, ◌∙◌, ap, ap₂}
use mathlib.Core.Bool.{Bool, true, false, ◌||◌}
use mathlib.Core.Logic.{◌≢◌, ◌⊎◌, inl, inr, ⊎_elim}
use Prim.Native.Nat.{ℕ, zero, suc, ◌+◌, ◌-◌, ◌*◌, ◌/◌, ◌%◌, ◌^◌, ◌<◌, ◌≤◌, min}
use native.Mathlib.Omega.{arith}
use native.Mathlib.Nat.{pow-suc, min-le_left, min-le_right, min-eq_left, zero-min, div-add-mod', add-zero}
use lib.Arith.{bin_ind}
use lib.Bits.{bit_and, and_step, and_le_r}
use lib.Dec.{ltb, eqb}
use borrow.Author.Tests.{lt-ltb, le-ltb, eq-eqb, ne_eqb}
use Rattle.clifford.specs.Blade.{count}
use Rattle.masks.proofs.ListLaws.{split}

-- The subset of `free` that comes after s, in rising order, and 0 after the last.
abbrev pub next_subset : ℕ → ℕ → ℕ → ℕ
next_subset d free s = bit_and (s + (2 ^ d - free)) free

-- t is a subset of `free`.
abbrev pub subset_of : ℕ → ℕ → Bool
subset_of free t = eqb (bit_and t free) t

-- ---- counts

module _ (t : ℕ → Bool) where
  count_at : (i : ℕ) → t i ≡ true → count (suc i) t ≡ suc (count i t)
  unfolding count
  count_at i e = rw e (omega arith)

  count_rises : (i n : ℕ) → t i ≡ true → i < n → count i t < count n t
  unfolding count
  count_rises i zero e l = absurd (omega arith)
  count_rises i (suc n) e l =
      ⊎_elim (λ (h : i < n). omega (arith, count_rises i n e h)) (λ (h : n ≤ i). let q : i ≡ n = omega arith in rw (sym q) (omega (arith, count_at i e))) (split i n)

  -- No test from m up passes.
  count_gap : (m n : ℕ) → m ≤ n → ((i : ℕ) → m ≤ i → i < n → t i ≡ false) → count n t ≡ count m t
  unfolding count
  count_gap m zero h none = let e : m ≡ 0 = omega arith in rw e
  count_gap m (suc n) h none =
      ⊎_elim (λ (l : n < m). let e : suc n ≡ m = omega arith in ap (λ (k : ℕ). count k t) e)
      (λ (l : m ≤ n). rw (none n l (omega arith)) (omega (arith, count_gap m n l (λ i p q. none i p (omega arith))))) (split n m)

-- ---- a subset by its lowest bit and the others

within_half : (s free : ℕ) → bit_and s free ≡ s → bit_and (s / 2) (free / 2) ≡ s / 2
within_half s free e = omega (arith, and_step s free, min-le_left (s % 2) (free % 2))

within_low : (s free : ℕ) → bit_and s free ≡ s → s % 2 ≤ free % 2
within_low s free e = omega (arith, and_step s free, min-le_left (s % 2) (free % 2), min-le_right (s % 2) (free % 2))

-- The `and` by its lowest bit and the others.
and_digits : (a b h l : ℕ) → bit_and (a / 2) (b / 2) ≡ h → min (a % 2) (b % 2) ≡ l → bit_and a b ≡ h * 2 + l
and_digits a b h l p q = and_step a b ∙ ap₂ (λ (x y : ℕ). x * 2 + y) p q

within_digits : (s free : ℕ) → bit_and (s / 2) (free / 2) ≡ s / 2 → s % 2 ≤ free % 2 → bit_and s free ≡ s
within_digits s free h l = and_digits s free (s / 2) (s % 2) h (min-eq_left l) ∙ div-add-mod' s 2

-- What an `and` gives is within its second number.
pub and_twice : (a b : ℕ) → bit_and (bit_and a b) b ≡ bit_and a b
and_twice =
    bin_ind (λ (n : ℕ). (b : ℕ) → bit_and (bit_and n b) b ≡ bit_and n b) (λ b. refl)
    (λ n ih b.
    let small = min-le_left (n % 2) (b % 2) in
    let half : bit_and n b / 2 ≡ bit_and (n / 2) (b / 2) = omega (arith, and_step n b, small) in
    let odd : bit_and n b % 2 ≡ min (n % 2) (b % 2) = omega (arith, and_step n b, small) in
    within_digits (bit_and n b) b (ap (λ (x : ℕ). bit_and x (b / 2)) half ∙ ih (b / 2) ∙ sym half) (omega (arith, odd, min-le_right (n % 2) (b % 2))))

-- ---- the lowest bit of the next one

half_low : (d free : ℕ) → free < 2 ^ suc d → free / 2 < 2 ^ d
half_low d free low = omega (arith, pow-suc 2 d)

-- The lowest bits of s and `free` are the same: the others move on.
next_same : (d free s : ℕ) → free < 2 ^ suc d → s % 2 ≡ free % 2 → next_subset (suc d) free s ≡ next_subset d (free / 2) (s / 2) * 2
next_same d free s low e =
    let u = s + (2 ^ suc d - free) in
    let half : u / 2 ≡ s / 2 + (2 ^ d - free / 2) = omega (arith, pow-suc 2 d) in
    let even : u % 2 ≡ 0 = omega (arith, pow-suc 2 d) in
    and_digits u free (next_subset d (free / 2) (s / 2)) 0 (ap (λ (x : ℕ). bit_and x (free / 2)) half)
    (ap (λ (x : ℕ). min x (free % 2)) even ∙ zero-min (free % 2))
    ∙ add-zero (next_subset d (free / 2) (s / 2) * 2)

-- With ones in the bits that `free` doesn't have, s is as it was.
held_kept : (d free s : ℕ) → free < 2 ^ d → bit_and s free ≡ s → bit_and (s + (2 ^ d - 1 - free)) free ≡ s
held_kept zero free s low within = let e : s + (2 ^ 0 - 1 - free) ≡ s = omega arith in ap (λ (x : ℕ). bit_and x free) e ∙ within
held_kept (suc d) free s low within =
    let u = s + (2 ^ suc d - 1 - free) in
    let l = within_low s free within in
    let half : u / 2 ≡ s / 2 + (2 ^ d - 1 - free / 2) = omega (arith, pow-suc 2 d) in
    let kept : min (u % 2) (free % 2) ≡ s % 2 = omega (arith, pow-suc 2 d, min-le_left (u % 2) (free % 2)) in
    and_digits u free (s / 2) (s % 2) (ap (λ (x : ℕ). bit_and x (free / 2)) half ∙ held_kept d (free / 2) (s / 2) (half_low d free low) (within_half s free within)) kept
    ∙ div-add-mod' s 2

-- `free` has the lowest bit and s doesn't: it is set.
next_sets : (d free s : ℕ) → free < 2 ^ suc d → bit_and s free ≡ s → s % 2 < free % 2 → next_subset (suc d) free s ≡ suc s
next_sets d free s low within l =
    let u = s + (2 ^ suc d - free) in
    let half : u / 2 ≡ s / 2 + (2 ^ d - 1 - free / 2) = omega (arith, pow-suc 2 d) in
    let odd : u % 2 ≡ 1 = omega (arith, pow-suc 2 d) in
    let set : free % 2 ≡ 1 = omega arith in
    and_digits u free (s / 2) 1 (ap (λ (x : ℕ). bit_and x (free / 2)) half ∙ held_kept d (free / 2) (s / 2) (half_low d free low) (within_half s free within))
    (ap₂ min odd set)
    ∙ omega arith

-- The one or the other.
lowest_bits : (s free : ℕ) → bit_and s free ≡ s → (s % 2 ≡ free % 2) ⊎ (s % 2 < free % 2)
lowest_bits s free within = ⊎_elim inr (λ (l : free % 2 ≤ s % 2). inl (omega (arith, within_low s free within))) (split (s % 2) (free % 2))

-- ---- the next one

-- It is 0 only after the last, which is `free`.
pub next_last : (d free s : ℕ) → free < 2 ^ d → bit_and s free ≡ s → next_subset d free s ≡ 0 → s ≡ free
next_last zero free s low within e = omega (arith, and_le_r s free)
next_last (suc d) free s low within e =
    ⊎_elim (λ (b : s % 2 ≡ free % 2).
    let n : next_subset d (free / 2) (s / 2) ≡ 0 = omega (arith, next_same d free s low b) in
    omega (arith, next_last d (free / 2) (s / 2) (half_low d free low) (within_half s free within) n))
    (λ (b : s % 2 < free % 2). absurd (omega (arith, next_sets d free s low within b))) (lowest_bits s free within)

-- Else it is above s.
pub next_rises : (d free s : ℕ) → free < 2 ^ d → bit_and s free ≡ s → next_subset d free s ≢ 0 → s < next_subset d free s
next_rises zero free s low within ne = absurd (ne (omega (arith, and_le_r (s + (2 ^ 0 - free)) free)))
next_rises (suc d) free s low within ne =
    ⊎_elim (λ (b : s % 2 ≡ free % 2).
    let e = next_same d free s low b in
    omega (arith, e, next_rises d (free / 2) (s / 2) (half_low d free low) (within_half s free within) (λ z. ne (omega (arith, e, z)))))
    (λ (b : s % 2 < free % 2). omega (arith, next_sets d free s low within b)) (lowest_bits s free within)

-- No subset is between the two.
pub next_least : (d free s : ℕ) → free < 2 ^ d → bit_and s free ≡ s → (t : ℕ) → bit_and t free ≡ t → s < t → next_subset d free s ≤ t
next_least zero free s low within t inside l = absurd (omega (arith, and_le_r t free))
next_least (suc d) free s low within t inside l =
    ⊎_elim (λ (b : s % 2 ≡ free % 2).
    let above : s / 2 < t / 2 = omega (arith, within_low t free inside) in
    omega (
      arith,
      next_same d free s low b,
      next_least d (free / 2) (s / 2) (half_low d free low) (within_half s free within) (t / 2) (within_half t free inside) above,
    ))
    (λ (b : s % 2 < free % 2). omega (arith, next_sets d free s low within b)) (lowest_bits s free within)

-- ---- what comes before

pub before_or_at : (t s : ℕ) → t ≤ s → (ltb t s || eqb t s) ≡ true
before_or_at t s h =
    ⊎_elim (λ (l : t < s). ap (λ x. x || eqb t s) (lt-ltb t s l))
    (λ (l : s ≤ t). ap₂ (λ x y. x || y) (le-ltb t s l) (eq-eqb t s (omega arith))) (split t s)

pub neither_before : (t s : ℕ) → s < t → (ltb t s || eqb t s) ≡ false
neither_before t s h = ap₂ (λ x y. x || y) (le-ltb t s (omega arith)) (ne_eqb t s (λ e. omega (arith, e)))

module _ (d free s : ℕ) (low : free < 2 ^ d) (within : bit_and s free ≡ s) where
  pub next_within : bit_and (next_subset d free s) free ≡ next_subset d free s
  next_within = and_twice (s + (2 ^ d - free)) free

  -- A subset comes before the next one exactly where it comes before s or is s.
  pub next_before : next_subset d free s ≢ 0 → (t : ℕ) → bit_and t free ≡ t → ltb t (next_subset d free s) ≡ (ltb t s || eqb t s)
  next_before ne t inside =
      ⊎_elim (λ (l : s < t). le-ltb t (next_subset d free s) (next_least d free s low within t inside l) ∙ sym (neither_before t s l))
      (λ (l : t ≤ s). lt-ltb t (next_subset d free s) (omega (arith, next_rises d free s low within ne)) ∙ sym (before_or_at t s l)) (split s t)

  -- Where none is next, each comes before s or is s.
  pub last_before : next_subset d free s ≡ 0 → (t : ℕ) → bit_and t free ≡ t → (ltb t s || eqb t s) ≡ true
  last_before e t inside = before_or_at t s (omega (arith, next_last d free s low within e, and_le_r t free, inside))

  -- One subset more is below the next one than is below s.
  pub next_count : next_subset d free s ≢ 0 → count (next_subset d free s) (subset_of free) ≡ suc (count s (subset_of free))
  next_count ne =
      count_gap (subset_of free) (suc s) (next_subset d free s) (next_rises d free s low within ne)
      (λ i h l. ne_eqb (bit_and i free) i (λ e. omega (arith, next_least d free s low within i e h)))
      ∙ count_at (subset_of free) s (eq-eqb (bit_and s free) s within)

  -- All but the last one are below it.
  pub last_count : next_subset d free s ≡ 0 → count (2 ^ d) (subset_of free) ≡ suc (count s (subset_of free))
  last_count z =
      count_gap (subset_of free) (suc s) (2 ^ d) (omega (arith, next_last d free s low within z))
      (λ i h l. ne_eqb (bit_and i free) i (λ e. omega (arith, next_last d free s low within z, and_le_r i free, e)))
      ∙ count_at (subset_of free) s (eq-eqb (bit_and s free) s within)

-- ---- each is met once

-- The subset that k steps from 0 meet.
unfoldable pub subset_at : ℕ → ℕ → ℕ → ℕ
subset_at d free zero = 0
subset_at d free (suc k) = next_subset d free (subset_at d free k)

module _ (d free : ℕ) (low : free < 2 ^ d) where
  pub subset_within : (k : ℕ) → bit_and (subset_at d free k) free ≡ subset_at d free k
  unfolding subset_at
  subset_within zero = refl
  subset_within (suc k) = and_twice (subset_at d free k + (2 ^ d - free)) free

  -- It has k subsets below it, as long as there are more than k.
  pub subset_count : (k : ℕ) → k < count (2 ^ d) (subset_of free) → count (subset_at d free k) (subset_of free) ≡ k
  unfolding subset_at count
  subset_count zero h = refl
  subset_count (suc k) h =
      let e = subset_count k (omega arith) in
      let inside = subset_within k in
      next_count d free (subset_at d free k) low inside (λ z. omega (arith, last_count d free (subset_at d free k) low inside z, e)) ∙ ap suc e

  -- So each subset is met, after as many steps as there are subsets below it.
  pub subset_met : (t : ℕ) → bit_and t free ≡ t → subset_at d free (count t (subset_of free)) ≡ t
  subset_met t inside =
      let k = count t (subset_of free) in
      let u = subset_at d free k in
      let some : k < count (2 ^ d) (subset_of free) = count_rises (subset_of free) t (2 ^ d) (eq-eqb (bit_and t free) t inside) (omega (arith, and_le_r t free)) in
      let e = subset_count k some in
      ⊎_elim (λ (l : u < t). absurd (omega (arith, count_rises (subset_of free) u t (eq-eqb (bit_and u free) u (subset_within k)) l, e)))
      (λ (l : t ≤ u). ⊎_elim (λ (m : t < u). absurd (omega (arith, count_rises (subset_of free) t u (eq-eqb (bit_and t free) t inside) m, e)))
      (λ (m : u ≤ t). omega arith) (split t u)) (split u t)
