-- Laws of a scan over bytes: from the front, from the back, and of whole texts that are compared. Assumes nothing.
use mathlib.Core.Path.{◌≡◌, refl, sym, ap, ◌∙◌}
use mathlib.Core.Logic.{⊎_elim}
use mathlib.Core.Bool.{Bool, true, false, not, ◌&&◌, cond, and-false}
use mathlib.Core.List.{List, [], ◌∷◌, reverse, reverse-append, reverse-reverse}
use Prim.Native.Nat.{ℕ, suc, ◌+◌, ◌-◌, ◌≤◌, ◌<◌}
use native.Mathlib.Numerals.{add-one, one-add}
use native.Mathlib.Omega.{arith}
use lib.Dec.{eqb}
use lib.ListN.{length, get_or, take, drop, length-drop}
use lib.Seq.{drop-cons, drop-length, take_all, take-suc, take-length}
use native.Mathlib.Decide.{ℕ_discrete}
use borrow.Author.Tests.{eq-eqb, eqb-true, lt-ltb, le-ltb}
use Rattle.std.specs.Prelude.{None, Some}
use Rattle.std.specs.List.{prefix_len, position, list_all}
use Rattle.std.specs.Option.{unwrap_or}
use Rattle.masks.specs.Text.{take_while, drop_while, every, same}
use Rattle.masks.proofs.ListLaws.{split}

-- ---- lists

-- what is left from n on, as a part of the whole that ends where the whole does
pub rest_all {ℓ} : {A : Type ℓ} (n : ℕ) (t : List A) → take (length t - n) (drop n t) ≡ drop n t
rest_all n t = take_all (length t - n) (drop n t) (omega (arith, length-drop n t))

pub same_not : (xs ys : List ℕ) → (length xs ≡ length ys → ⊥) → same xs ys ≡ false
unfolding same
same_not [] [] h = absurd (h refl)
same_not [] (y ∷ ys) h = refl
same_not (x ∷ xs) [] h = refl
same_not (x ∷ xs) (y ∷ ys) h = rw (same_not xs ys (λ e. h (ap suc e))) (and-false (eqb x y))

-- the first two bytes of a list, and a list of three, are compared byte by byte
pub two_are : (t : List ℕ) (a b : ℕ) → 2 ≤ length t → get_or t 0 0 ≡ a → get_or t 1 0 ≡ b → same (take 2 t) (a ∷ b ∷ []) ≡ true
unfolding same
two_are [] a b h e f = absurd (omega arith)
two_are (x ∷ []) a b h e f = absurd (omega arith)
two_are (x ∷ y ∷ t) a b h e f = rw (eq-eqb x a e, eq-eqb y b f)

pub two_not : (t : List ℕ) (a b : ℕ) → (2 ≤ length t → get_or t 0 0 ≡ a → get_or t 1 0 ≡ b → ⊥) → same (take 2 t) (a ∷ b ∷ []) ≡ false
unfolding same
two_not [] a b h = refl
two_not (x ∷ []) a b h = and-false (eqb x a)
two_not (x ∷ y ∷ t) a b h = go (eqb x a) (eqb y b) (eqb-true x a) (eqb-true y b)
  where
    go : (p q : Bool) → (p ≡ true → x ≡ a) → (q ≡ true → y ≡ b) → (p && (q && true)) ≡ false
    go false q e f = refl
    go true false e f = refl
    go true true e f = absurd (h (omega arith) (e refl) (f refl))

pub three_are : (t : List ℕ) (a b c : ℕ) → length t ≡ 3 → get_or t 0 0 ≡ a → get_or t 1 0 ≡ b → get_or t 2 0 ≡ c → same t (a ∷ b ∷ c ∷ []) ≡ true
unfolding same
three_are [] a b c h e f g = absurd (omega arith)
three_are (x ∷ []) a b c h e f g = absurd (omega arith)
three_are (x ∷ y ∷ []) a b c h e f g = absurd (omega arith)
three_are (x ∷ y ∷ z ∷ []) a b c h e f g = rw (eq-eqb x a e, eq-eqb y b f, eq-eqb z c g)
three_are (x ∷ y ∷ z ∷ w ∷ t) a b c h e f g = absurd (omega arith)

pub three_not : (t : List ℕ) (a b c : ℕ) → (length t ≡ 3 → get_or t 0 0 ≡ a → get_or t 1 0 ≡ b → get_or t 2 0 ≡ c → ⊥) → same t (a ∷ b ∷ c ∷ []) ≡ false
unfolding same
three_not t a b c h = elim (ℕ_discrete (length t) 3) [ yes e ↦ go t e h | no e ↦ same_not t (a ∷ b ∷ c ∷ []) e ]
  where
    at : (x y z : ℕ) (p q r : Bool) → (p ≡ true → x ≡ a) → (q ≡ true → y ≡ b) → (r ≡ true → z ≡ c) → (x ≡ a → y ≡ b → z ≡ c → ⊥) → (p && (q && (r && true))) ≡ false
    at x y z false q r e f g h = refl
    at x y z true false r e f g h = refl
    at x y z true true false e f g h = refl
    at x y z true true true e f g h = absurd (h (e refl) (f refl) (g refl))

    go : (t : List ℕ) → length t ≡ 3 → (length t ≡ 3 → get_or t 0 0 ≡ a → get_or t 1 0 ≡ b → get_or t 2 0 ≡ c → ⊥) → same t (a ∷ b ∷ c ∷ []) ≡ false
    go [] e h = absurd (omega arith)
    go (x ∷ []) e h = absurd (omega arith)
    go (x ∷ y ∷ []) e h = absurd (omega arith)
    go (x ∷ y ∷ z ∷ []) e h = at x y z (eqb x a) (eqb y b) (eqb z c) (eqb-true x a) (eqb-true y b) (eqb-true z c) (h refl)
    go (x ∷ y ∷ z ∷ w ∷ t) e h = absurd (omega arith)

pub same_nil : (xs : List ℕ) → length xs ≡ 0 → same xs [] ≡ true
unfolding same
same_nil [] h = refl
same_nil (x ∷ xs) h = absurd (omega arith)

-- ---- a scan from the front

pub drop_end : (t : List ℕ) (i : ℕ) → i ≡ length t → drop i t ≡ []
drop_end t i e = rw e (drop-length t)

module _ (p : ℕ → Bool) (t : List ℕ) where
  -- at i, where the test holds and where it does not
  module _ (i : ℕ) (h : i < length t) where
    pub every_on : p (get_or t i 0) ≡ true → every p (drop i t) ≡ every p (drop (i + 1) t)
    unfolding every
    every_on e = rw (drop-cons t i 0 h, e, add-one i)

    pub every_not : p (get_or t i 0) ≡ false → every p (drop i t) ≡ false
    unfolding every
    every_not e = rw (drop-cons t i 0 h, e)

  pub every_end : (i : ℕ) → i ≡ length t → every p (drop i t) ≡ true
  unfolding every
  every_end i e = rw (drop_end t i e)

-- ---- the bytes at the front that pass a test

module _ (p : ℕ → Bool) where
  pub length_front : (t : List ℕ) → prefix_len p t ≤ length t
  length_front [] = omega arith
  length_front (x ∷ xs) = go (p x) (length_front xs)
    where
      go : (b : Bool) → prefix_len p xs ≤ length xs → cond b (1 + prefix_len p xs) 0 ≤ length (x ∷ xs)
      go true h = omega arith
      go false h = omega arith

  pub take_front : (t : List ℕ) → take (prefix_len p t) t ≡ take_while p t
  unfolding take_while
  take_front [] = refl
  take_front (x ∷ xs) = go (p x) (take_front xs)
    where
      go : (b : Bool) → take (prefix_len p xs) xs ≡ take_while p xs → take (cond b (1 + prefix_len p xs) 0) (x ∷ xs) ≡ cond b (x ∷ take_while p xs) []
      go true e = ap (λ n. take n (x ∷ xs)) (one-add (prefix_len p xs)) ∙ ap (λ (l : List ℕ). x ∷ l) e
      go false e = refl

  pub drop_front : (t : List ℕ) → drop (prefix_len p t) t ≡ drop_while p t
  unfolding drop_while
  drop_front [] = refl
  drop_front (x ∷ xs) = go (p x) (drop_front xs)
    where
      go : (b : Bool) → drop (prefix_len p xs) xs ≡ drop_while p xs → drop (cond b (1 + prefix_len p xs) 0) (x ∷ xs) ≡ cond b (drop_while p xs) (x ∷ xs)
      go true e = ap (λ n. drop n (x ∷ xs)) (one-add (prefix_len p xs)) ∙ e
      go false e = refl

-- where the first byte stands that a test passes, or the length
pub position_found : (p : ℕ → Bool) (t : List ℕ) → unwrap_or (position p t) (length t) ≡ prefix_len (λ x. not (p x)) t
position_found p t =
    let n : ℕ = prefix_len (λ x. not (p x)) t in
    let l : n ≤ length t = length_front (λ x. not (p x)) t in
    ⊎_elim (λ (a : n < length t). ap (λ b. unwrap_or (cond b (Some n) None) (length t)) (lt-ltb n (length t) a))
    (λ (a : length t ≤ n). ap (λ b. unwrap_or (cond b (Some n) None) (length t)) (le-ltb n (length t) a) ∙ (let e : length t ≡ n = omega arith in e))
    (split n (length t))

-- std's test of a whole list
pub every_all : (p : ℕ → Bool) (t : List ℕ) → list_all p t ≡ every p t
unfolding every
every_all p [] = refl
every_all p (x ∷ xs) = ap (λ b. p x && b) (every_all p xs)

-- no byte is left
length_zero : (t : List ℕ) → length t ≡ 0 → t ≡ []
length_zero [] h = refl
length_zero (x ∷ xs) h = absurd (omega arith)

-- ---- a byte at the front or the back that passes a test

module _ (p : ℕ → Bool) (t : List ℕ) where
  pub front_on : 1 ≤ length t → p (get_or t 0 0) ≡ true → drop_while p (take (length t - 1) (drop 1 t)) ≡ drop_while p t
  unfolding drop_while
  front_on h e =
      ap (drop_while p) (rest_all 1 t) ∙ sym (rw (drop-cons t 0 0 h, e) refl)

  pub front_end : length t < 1 → t ≡ drop_while p t
  unfolding drop_while
  front_end h = let e : t ≡ [] = length_zero t (omega arith) in rw e refl

  pub front_off : 1 ≤ length t → p (get_or t 0 0) ≡ false → t ≡ drop_while p t
  unfolding drop_while
  front_off h e = sym (rw (drop-cons t 0 0 h, e) refl)

  -- what stands before the last byte, backwards
  last_first : 1 ≤ length t → reverse t ≡ get_or t (length t - 1) 0 ∷ reverse (take (length t - 1) t)
  last_first h =
      let n : length t - 1 < length t = omega arith in
      let k : suc (length t - 1) ≡ length t = omega arith in
      ap reverse (sym (take-length t) ∙ ap (λ m. take m t) (sym k) ∙ take-suc t (length t - 1) 0 n)
      ∙ reverse-append (take (length t - 1) t) (get_or t (length t - 1) 0 ∷ [])

  pub back_on : 1 ≤ length t → p (get_or t (length t - 1) 0) ≡ true → drop_while p (reverse (take (length t - 1) t)) ≡ drop_while p (reverse t)
  unfolding drop_while
  back_on h e = sym (rw (last_first h, e) refl)

  pub back_off : 1 ≤ length t → p (get_or t (length t - 1) 0) ≡ false → t ≡ reverse (drop_while p (reverse t))
  unfolding drop_while
  back_off h e =
      let k : drop_while p (reverse t) ≡ reverse t = rw (last_first h, e) refl in
      sym (ap reverse k ∙ reverse-reverse t)

  pub back_end : length t < 1 → t ≡ reverse (drop_while p (reverse t))
  unfolding drop_while
  back_end h = let e : t ≡ [] = length_zero t (omega arith) in rw e refl
