-- The order of n dimensions without the masks that d of them have not is the order of d: so the masks that are kept stay in their order. Assumes nothing.
use mathlib.Core.Path.{◌≡◌, refl, sym, ap, ap₂, ◌∙◌}
use mathlib.Core.Bool.{Bool, true, false, cond}
use mathlib.Core.Logic.{⊎_elim}
use mathlib.Core.List.{List, [], ◌∷◌, ◌++◌, map, append-nil}
use Prim.Native.Nat.{ℕ, zero, suc, ◌+◌, ◌*◌, ◌^◌, ◌≤◌, ◌<◌}
use native.Mathlib.Nat.{pow-suc, add-zero, le_of_suc-le-suc, not-suc-le-zero}
use native.Mathlib.Omega.{arith}
use borrow.Author.Tests.{lt-ltb, le-ltb}
use lib.Dec.{ltb}
use lib.ListN.{length, get_or}
use Rattle.masks.specs.Order.{with_bit0, without_bit0, grade, grades_below, order}
use Rattle.masks.proofs.ListLaws.{split}
use Rattle.masks.proofs.OrderLaws.{length_grade, length_order, size_above}

-- ---- the masks of a list that are below b

unfoldable pub kept : ℕ → List ℕ → List ℕ
kept b [] = []
kept b (m ∷ ms) = cond (ltb m b) (m ∷ kept b ms) (kept b ms)

kept_append : (b : ℕ) (xs ys : List ℕ) → kept b (xs ++ ys) ≡ kept b xs ++ kept b ys
unfolding kept
kept_append b [] ys = refl
kept_append b (m ∷ xs) ys = go (ltb m b) (kept_append b xs ys)
  where
    go : (t : Bool) → kept b (xs ++ ys) ≡ kept b xs ++ kept b ys → cond t (m ∷ kept b (xs ++ ys)) (kept b (xs ++ ys)) ≡ cond t (m ∷ kept b xs) (kept b xs) ++ kept b ys
    go true e = ap (λ l. m ∷ l) e
    go false e = e

-- where a test of masks is that of their images
module _ (f : ℕ → ℕ) (b c : ℕ) (same : (m : ℕ) → ltb (f m) c ≡ ltb m b) where
  kept_map : (ms : List ℕ) → kept c (map f ms) ≡ map f (kept b ms)
  unfolding kept
  kept_map [] = refl
  kept_map (m ∷ ms) = rw (same m) (go (ltb m b) (kept_map ms))
    where
      go : (t : Bool) → kept c (map f ms) ≡ map f (kept b ms) → cond t (f m ∷ kept c (map f ms)) (kept c (map f ms)) ≡ map f (cond t (m ∷ kept b ms) (kept b ms))
      go true e = ap (λ l. f m ∷ l) e
      go false e = e

kept_none : (ms : List ℕ) → kept 1 (map with_bit0 ms) ≡ []
unfolding kept
kept_none [] = refl
kept_none (m ∷ ms) = rw (le-ltb (2 * m + 1) 1 (omega arith)) (kept_none ms)

-- ---- grades and the order

-- a mask is kept where the one that it is made of is
double_kept : (d r m : ℕ) → r < 2 → ltb (2 * m + r) (2 ^ suc d) ≡ ltb m (2 ^ d)
double_kept d r m h =
    ⊎_elim (λ (l : m < 2 ^ d). lt-ltb (2 * m + r) (2 ^ suc d) (omega (arith, pow-suc 2 d)) ∙ sym (lt-ltb m (2 ^ d) l))
    (λ (l : 2 ^ d ≤ m). le-ltb (2 * m + r) (2 ^ suc d) (omega (arith, pow-suc 2 d)) ∙ sym (le-ltb m (2 ^ d) l)) (split m (2 ^ d))

odd_kept : (d m : ℕ) → ltb (2 * m + 1) (2 ^ suc d) ≡ ltb m (2 ^ d)
odd_kept d m = double_kept d 1 m (omega arith)

even_kept : (d m : ℕ) → ltb (2 * m) (2 ^ suc d) ≡ ltb m (2 ^ d)
even_kept d m = ap (λ (n : ℕ). ltb n (2 ^ suc d)) (sym (add-zero (2 * m))) ∙ double_kept d 0 m (omega arith)

first_kept : (m : ℕ) → ltb (2 * m) 1 ≡ ltb m 1
first_kept zero = refl
first_kept (suc m) = le-ltb (2 * suc m) 1 (omega arith) ∙ sym (le-ltb (suc m) 1 (omega arith))

kept_grade : (n d g : ℕ) → d ≤ n → kept (2 ^ d) (grade n g) ≡ grade d g
unfolding kept grade
kept_grade zero zero zero h = refl
kept_grade zero zero (suc g) h = refl
kept_grade zero (suc d) g h = absurd (not-suc-le-zero h)
kept_grade (suc n) zero zero h =
    kept_map without_bit0 1 1 first_kept (grade n zero) ∙ ap (map without_bit0) (kept_grade n zero zero (omega arith))
kept_grade (suc n) zero (suc g) h =
    kept_append 1 (map with_bit0 (grade n g)) (map without_bit0 (grade n (suc g)))
    ∙ ap₂ (λ xs ys. xs ++ ys) (kept_none (grade n g)) (kept_map without_bit0 1 1 first_kept (grade n (suc g)) ∙ ap (map without_bit0) (kept_grade n zero (suc g) (omega arith)))
kept_grade (suc n) (suc d) zero h =
    kept_map without_bit0 (2 ^ d) (2 ^ suc d) (even_kept d) (grade n zero) ∙ ap (map without_bit0) (kept_grade n d zero (omega arith))
kept_grade (suc n) (suc d) (suc g) h =
    kept_append (2 ^ suc d) (map with_bit0 (grade n g)) (map without_bit0 (grade n (suc g)))
    ∙ ap₂ (λ xs ys. xs ++ ys) (kept_map with_bit0 (2 ^ d) (2 ^ suc d) (odd_kept d) (grade n g) ∙ ap (map with_bit0) (kept_grade n d g (omega arith))) (kept_map without_bit0 (2 ^ d) (2 ^ suc d) (even_kept d) (grade n (suc g)) ∙ ap (map without_bit0) (kept_grade n d (suc g) (omega arith)))

kept_below : (n d g : ℕ) → d ≤ n → kept (2 ^ d) (grades_below n g) ≡ grades_below d g
unfolding kept grades_below
kept_below n d zero h = refl
kept_below n d (suc g) h =
    kept_append (2 ^ d) (grades_below n g) (grade n g) ∙ ap₂ (λ xs ys. xs ++ ys) (kept_below n d g h) (kept_grade n d g h)

-- above the dimensions there are no grades
empty_grade : (d g : ℕ) → d < g → grade d g ≡ []
empty_grade d g h = none (grade d g) (length_grade d g ∙ size_above d g h)
  where
    none : (xs : List ℕ) → length xs ≡ 0 → xs ≡ []
    none [] e = refl
    none (x ∷ xs) e = absurd (omega arith)

all_below : (d g : ℕ) → d < g → grades_below d g ≡ order d
unfolding grades_below order
all_below d zero h = absurd (not-suc-le-zero h)
all_below d (suc g) h =
    ⊎_elim
    (λ (l : d < g). ap₂ (λ xs ys. xs ++ ys) (all_below d g l) (empty_grade d g l) ∙ append-nil _)
    (λ (l : g ≤ d). let e : g ≡ d = omega arith in rw e refl) (split d g)

-- the order of n dimensions without the masks that d have not is the order of d
pub kept_order : (n d : ℕ) → d ≤ n → kept (2 ^ d) (order n) ≡ order d
unfolding order
kept_order n d h = kept_below n d (suc n) h ∙ all_below d (suc n) (omega arith)

-- ---- how many are kept before a place

-- `before b k ms` counts the masks below b among the first k of a list.
unfoldable pub before : ℕ → ℕ → List ℕ → ℕ
before b zero ms = 0
before b (suc k) [] = 0
before b (suc k) (m ∷ ms) = cond (ltb m b) (suc (before b k ms)) (before b k ms)

module _ (b : ℕ) where
  before_all : (ms : List ℕ) → before b (length ms) ms ≡ length (kept b ms)
  unfolding before kept
  before_all [] = refl
  before_all (m ∷ ms) = go (ltb m b) (before_all ms)
    where
      go : (t : Bool) → before b (length ms) ms ≡ length (kept b ms) → cond t (suc (before b (length ms) ms)) (before b (length ms) ms) ≡ length (cond t (m ∷ kept b ms) (kept b ms))
      go true e = omega arith
      go false e = omega arith

  -- one more where the mask at the place is kept
  before_next : (k : ℕ) (ms : List ℕ) → k < length ms → before b (suc k) ms ≡ before b k ms + cond (ltb (get_or ms k 0) b) 1 0
  unfolding before
  before_next k [] h = absurd (not-suc-le-zero h)
  before_next zero (m ∷ ms) h = go (ltb m b)
    where
      go : (t : Bool) → cond t 1 0 ≡ 0 + cond t 1 0
      go true = refl
      go false = refl
  before_next (suc k) (m ∷ ms) h = go (ltb m b) (before_next k ms (le_of_suc-le-suc h))
    where
      go : (t : Bool) → before b (suc k) ms ≡ before b k ms + cond (ltb (get_or ms k 0) b) 1 0 → cond t (suc (before b (suc k) ms)) (before b (suc k) ms) ≡ cond t (suc (before b k ms)) (before b k ms) + cond (ltb (get_or ms k 0) b) 1 0
      go true e = omega arith
      go false e = omega arith

  before_le : (k : ℕ) (ms : List ℕ) → k ≤ length ms → before b k ms ≤ length (kept b ms)
  unfolding before kept
  before_le zero ms h = omega arith
  before_le (suc k) [] h = omega arith
  before_le (suc k) (m ∷ ms) h = go (ltb m b) (before_le k ms (le_of_suc-le-suc h))
    where
      go : (t : Bool) → before b k ms ≤ length (kept b ms) → cond t (suc (before b k ms)) (before b k ms) ≤ length (cond t (m ∷ kept b ms) (kept b ms))
      go true e = omega arith
      go false e = omega arith

  -- a mask that is kept stands where those before it that are kept end
  kept_at : (k : ℕ) (ms : List ℕ) → k < length ms → get_or ms k 0 < b → get_or (kept b ms) (before b k ms) 0 ≡ get_or ms k 0
  unfolding before kept
  kept_at k [] h l = absurd (not-suc-le-zero h)
  kept_at zero (m ∷ ms) h l = rw (lt-ltb m b l)
  kept_at (suc k) (m ∷ ms) h l = go (ltb m b) (kept_at k ms (le_of_suc-le-suc h) l)
    where
      go : (t : Bool) → get_or (kept b ms) (before b k ms) 0 ≡ get_or ms k 0 → get_or (cond t (m ∷ kept b ms) (kept b ms)) (cond t (suc (before b k ms)) (before b k ms)) 0 ≡ get_or ms k 0
      go true e = e
      go false e = e

-- `kept_before d n k` counts the masks of d dimensions among the first k of the order of n.
unfoldable pub kept_before : ℕ → ℕ → ℕ → ℕ
kept_before d n k = before (2 ^ d) k (order n)

pub kept_first : (d n : ℕ) → kept_before d n 0 ≡ 0
unfolding kept_before before
kept_first d n = refl

pub kept_last : (d n : ℕ) → d ≤ n → kept_before d n (2 ^ n) ≡ 2 ^ d
unfolding kept_before
kept_last d n h =
    ap (λ (k : ℕ). before (2 ^ d) k (order n)) (sym (length_order n))
    ∙ before_all (2 ^ d) (order n)
    ∙ ap length (kept_order n d h)
    ∙ length_order d

-- the mask at place k of the order of n dimensions is one of d: where it stands in their order
pub record Kept (d n k : ℕ) : Type 0 where
  pub low : get_or (order n) k 0 < 2 ^ d
  pub room : kept_before d n k < 2 ^ d
  pub there : get_or (order d) (kept_before d n k) 0 ≡ get_or (order n) k 0
  pub more : kept_before d n (suc k) ≡ kept_before d n k + 1

pub kept_here : (d n k : ℕ) → d ≤ n → k < 2 ^ n → get_or (order n) k 0 < 2 ^ d → Kept d n k
unfolding kept_before
kept_here d n k h l e =
    let i : k < length (order n) = omega (arith, length_order n) in
    let q = kept_order n d h in
    let m : before (2 ^ d) (suc k) (order n) ≡ before (2 ^ d) k (order n) + 1 =
    before_next (2 ^ d) k (order n) i ∙ rw (lt-ltb (get_or (order n) k 0) (2 ^ d) e) in
    record {
      low = e;
      room = omega (arith, before_le (2 ^ d) (suc k) (order n) i, ap length q, length_order d);
      there = ap (λ (ms : List ℕ). get_or ms (before (2 ^ d) k (order n)) 0) (sym q) ∙ kept_at (2 ^ d) k (order n) i e;
      more = m;
    }

pub record Dropped (d n k : ℕ) : Type 0 where
  pub high : 2 ^ d ≤ get_or (order n) k 0
  pub same : kept_before d n (suc k) ≡ kept_before d n k

pub dropped_here : (d n k : ℕ) → k < 2 ^ n → 2 ^ d ≤ get_or (order n) k 0 → Dropped d n k
unfolding kept_before
dropped_here d n k l e =
    record {
      high = e;
      same =
          before_next (2 ^ d) k (order n) (omega (arith, length_order n)) ∙ rw (le-ltb (get_or (order n) k 0) (2 ^ d) e) (add-zero _);
    }
