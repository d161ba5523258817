-- Calls on one value that keep its shape: a copy of the value, changed where it lies. Assumes nothing.
use mathlib.Core.Path.{◌≡◌, refl, sym, ap, ap₂, subst, ◌∙◌}
use mathlib.Core.Bool.{Bool, true, false, cond}
use mathlib.Core.List.{List, ◌++◌, map, append-nil}
use Prim.Native.Nat.{ℕ, zero, suc, ◌+◌, ◌-◌, ◌^◌, ◌≤◌, ◌<◌}
use native.Mathlib.Omega.{arith}
use borrow.Author.Tests.{le-ltb, eq-eqb}
use lib.Ieee.{Float, nan, eq, mul, binary64}
use lib.ListN.{length, get_or, set, take, drop, replicate, length-map, length-append, length-take, length-set, length-replicate, take-append-drop, get_or-append, drop_of_length-le}
use lib.Seq.{length-take-le, set-append_left, take_all}
use Rattle.std.specs.Prelude.{Result, Ok, Err}
use Rattle.std.proofs.lemmas.List.{get_or_default}
use Rattle.std.proofs.lemmas.List.Edits.{map_over_more}
use Rattle.masks.specs.declared.shape.Shape.{Shape}
use Rattle.masks.specs.declared.outcome.Refusal.{Refusal}
use Rattle.masks.specs.Outcome.{Outcome, Gives, laid, refusal, too_many, number_of, unless, value, refused_value, nought, result_tests}
use Rattle.masks.specs.Shape.{set_dims}
use Rattle.masks.proofs.ListLaws.{take_laid}
use Rattle.masks.proofs.OutcomeLaws.{taken, later_same, refused_later, refuses, answer_one, unless_done, unless_err, unless_ok, unless_number, gives_refused, gives_ok, not_refused}
use Rattle.masks.proofs.ShapeLaws.{resized_same}
use Rattle.product.proofs.ListLaws.{laid_over}
use Rattle.arithmetic.specs.declared.outcome.Taken.{Taken}
use Rattle.arithmetic.specs.Kept.{kept_tests, kept, scalar_only, Halves, taken_of, GivesTaken}
use Rattle.arithmetic.specs.Scale.{unity, scaled}

-- What a call may rest on where it is not refused.
pub record Accepted (s : Shape) (a : List Float) (room : ℕ) : Type 0 where
  pub small : s.dims ≤ 9
  pub counted : length a ≡ 2 ^ s.dims
  pub roomy : 2 ^ s.dims ≤ room

-- Two results under one refusal are the same where it is none.
unless_same : (k n : ℕ) (o p : Outcome) → n ≡ k → (k ≡ 0 → o ≡ p) → unless refused_value n o ≡ unless refused_value k p
unfolding unless
unless_same zero n o p e h = rw e (h refl)
unless_same (suc k) n o p e h = rw e

module _ (s : Shape) (a : List Float) (room : ℕ) where
  -- The tests are those of a change to its own dimensions.
  pub kept_tests_lem : refusal (result_tests s.dims s.dims (length a) room (2 ^ s.dims)) ≡ refusal (kept_tests s a room)
  kept_tests_lem = later_same s.dims _ _ (λ l. refused_later (too_many s.dims) _ (le-ltb 9 s.dims l))

  pub kept_accepted : refusal (kept_tests s a room) ≡ 0 → Accepted s a room
  kept_accepted z =
      let t = taken s.dims s.dims (length a) room (2 ^ s.dims) (kept_tests_lem ∙ z) in
      record { small = t.small; counted = t.counted; roomy = t.roomy }

  pub accepted_kept : Accepted s a room → refusal (kept_tests s a room) ≡ 0
  unfolding refusal
  accepted_kept f = simp (le-ltb 9 s.dims f.small, eq-eqb (length a) (2 ^ s.dims) f.counted, le-ltb room (2 ^ s.dims) f.roomy)

  -- A value set to its own dimensions is a copy.
  pub copied : set_dims s s.dims a room ≡ kept (λ xs. xs) s a room
  unfolding set_dims kept
  copied =
      unless_same _ _ _ _ kept_tests_lem
      (λ z. let f = kept_accepted z in ap (value s) (resized_same s.dims a f.small f.counted))

-- The call is done where the value is accepted.
pub kept_value : (g : List Float → List Float) (s : Shape) (a : List Float) (room : ℕ) → Accepted s a room → kept g s a room ≡ value s (g a)
unfolding kept
kept_value g s a room f = unless_done refused_value (refusal (kept_tests s a room)) 0 _ (sym (accepted_kept s a room f)) refl

-- ---- a value set to its own dimensions, where the output held `before` and holds `mid`

module _ (s : Shape) (a : List Float) (r : Result Shape Refusal) (before mid : List Float) (g : Gives (set_dims s s.dims a (length before)) r before mid) where
  own : Gives (kept (λ xs. xs) s a (length before)) r before mid
  own = subst (λ (o : Outcome). Gives o r before mid) (copied s a (length before)) g

module _ (s : Shape) (a : List Float) (e : Refusal) (before mid : List Float) (g : Gives (set_dims s s.dims a (length before)) (Err e) before mid) where
  -- It is refused with the number of the tests.
  pub copy_number : refusal (kept_tests s a (length before)) ≡ number_of e
  unfolding kept
  copy_number = sym (unless_number (λ (o : Outcome). o.number) refused_value (refusal (kept_tests s a (length before))) (value s a) refl refl) ∙ (own s a (Err e) before mid g).answered

  copy_left : mid ≡ before
  unfolding kept
  copy_left =
      (own s a (Err e) before mid g).left
      ∙ ap (λ (o : Outcome). laid o.coefs before) (unless_err refused_value (refusal (kept_tests s a (length before))) e (value s a) copy_number)

  -- A copy that is refused writes nothing, whatever was to be done to it.
  pub copy_refused : (f : List Float → List Float) → Gives (kept f s a (length before)) (Err e) before mid
  unfolding kept
  copy_refused f =
      let k = refusal (kept_tests s a (length before)) in
      subst (λ (xs : List Float). Gives (unless refused_value k (value s (f a))) (Err e) before xs) (sym copy_left) (gives_refused k e (value s (f a)) before copy_number)

module _ (s : Shape) (a : List Float) (t : Shape) (before mid : List Float) (g : Gives (set_dims s s.dims a (length before)) (Ok t) before mid) where
  unrefused : refusal (kept_tests s a (length before)) ≡ 0
  unfolding kept
  unrefused = (not_refused _ (value s a) (own s a (Ok t) before mid g).answered.0).0

  done : Gives (value s a) (Ok t) before mid
  unfolding kept
  done = subst (λ (o : Outcome). Gives o (Ok t) before mid) (unless_ok refused_value _ (value s a) unrefused) (own s a (Ok t) before mid g)

  pub copy_accepted : Accepted s a (length before)
  copy_accepted = kept_accepted s a (length before) unrefused

  -- It has the shape of the value.
  pub copy_shape : t ≡ s
  copy_shape = done.answered.1

  -- A copy that is done is at the front of the output.
  pub copy_laid : mid ≡ laid a before
  copy_laid = done.left

  pub copy_room : length a ≤ length mid
  copy_room = rw copy_laid (omega (arith, length-append a (drop (length a) before)))

  -- The copy is changed where it lies.
  pub copy_changed : (f : List Float → List Float) (after : List Float) → length (f a) ≡ length a → after ≡ laid (f (take (length a) mid)) mid → Gives (kept f s a (length before)) (Ok t) before after
  unfolding kept
  copy_changed f after l e =
      let whole : take (length a) mid ≡ a = rw copy_laid (take_laid (length a) a before refl) in
      let over : laid (f a) mid ≡ laid (f a) before = rw copy_laid (laid_over (f a) a before l) in
      gives_ok _ (value s (f a)) t before after unrefused refl copy_shape
      (e ∙ ap (λ (xs : List Float). laid (f xs) mid) whole ∙ over)

-- ---- a call that keeps the shape, by the number that its tests give

module _ (g : List Float → List Float) (s : Shape) (a out : List Float) where
  pub kept_refused : (e : Refusal) → refusal (kept_tests s a (length out)) ≡ number_of e → Gives (kept g s a (length out)) (Err e) out out
  unfolding kept
  kept_refused e h = gives_refused (refusal (kept_tests s a (length out))) e (value s (g a)) out h

  pub kept_done : (after : List Float) → refusal (kept_tests s a (length out)) ≡ 0 → after ≡ laid (g a) out → Gives (kept g s a (length out)) (Ok s) out after
  unfolding kept
  kept_done after z l = gives_ok (refusal (kept_tests s a (length out))) (value s (g a)) s out after z refl refl l

-- ---- copies

-- A value set to its own dimensions, where it is accepted, is a copy at the front of the output.
pub copy_whole : (s : Shape) (a : List Float) (r : Result Shape Refusal) (before mid : List Float) → Gives (set_dims s s.dims a (length before)) r before mid → Accepted s a (length before) → mid ≡ laid a before
copy_whole s a (Ok t) before mid g f = copy_laid s a t before mid g
copy_whole s a (Err e) before mid g f = absurd (refuses e (sym (copy_number s a e before mid g) ∙ accepted_kept s a (length before) f))

-- What lies at the front is changed where it lies.
pub relaid : (f : List Float → List Float) (xs out mid after : List Float) (n : ℕ) → length xs ≡ n → length (f xs) ≡ n → mid ≡ laid xs out → after ≡ laid (f (take n mid)) mid → after ≡ laid (f xs) out
relaid f xs out mid after n l g e q =
    q
    ∙ ap (λ (ys : List Float). laid (f (take n ys)) ys) e
    ∙ ap (λ (ys : List Float). laid (f ys) (laid xs out)) (take_laid n xs out l)
    ∙ laid_over (f xs) xs out (g ∙ sym l)

pub first_laid : (xs out : List Float) → 0 < length xs → get_or (laid xs out) 0 nan ≡ get_or xs 0 nan
first_laid xs out l = get_or-append xs (drop (length xs) out) nan 0 l

-- ---- numbers changed where they lie

-- One of the first n set.
pub set_laid : (n : ℕ) (out : List Float) (i : ℕ) (x : Float) → i < n → n ≤ length out → set out i x ≡ laid (set (take n out) i x) out
set_laid n out i x l h =
    let e : length (take n out) ≡ n = length-take-le n out h in
    ap (λ (xs : List Float). set xs i x) (sym (take-append-drop n out))
    ∙ set-append_left (take n out) (drop n out) i x (omega arith)
    ∙ ap (λ (m : ℕ). set (take n out) i x ++ drop m out) (sym (length-set (take n out) i x ∙ e))

-- Each number changed as f does, from the front: what is at i is as it was, and changed becomes the next one.
pub changed_next : (f : Float → Float) (xs ys : List Float) (i : ℕ) → i < length xs → length ys ≡ length xs → ys ≡ map f (take i xs) ++ drop i xs → set ys i (f (get_or ys i nan)) ≡ map f (take (i + 1) xs) ++ drop (i + 1) xs
changed_next f xs ys i h l e =
    let within : i < length ys = omega (arith, l) in
    map_over_more f xs ys i (get_or ys i nan) h e (get_or_default ys i nan (get_or ys i nan) within)

pub changed_all : (f : Float → Float) (xs ys : List Float) (i : ℕ) → length xs ≤ i → ys ≡ map f (take i xs) ++ drop i xs → ys ≡ map f xs
changed_all f xs ys i l e = e ∙ ap₂ (λ (us vs : List Float). map f us ++ vs) (take_all i xs l) (drop_of_length-le xs l) ∙ append-nil (map f xs)

-- What is changed is the front of the output.
pub changed_front : (f : List Float → List Float) (n : ℕ) (out ys : List Float) → n ≤ length out → ((xs : List Float) → length (f xs) ≡ length xs) → ys ≡ f (take n out) → ys ++ drop n out ≡ laid (f (take n out)) out
changed_front f n out ys h l e = ap₂ (λ (us : List Float) (m : ℕ). us ++ drop m out) e (sym (l (take n out) ∙ length-take-le n out h))

-- ---- lengths

pub scaled_length : (f : Float) (a : List Float) → length (scaled f a) ≡ length a
unfolding scaled
scaled_length f a = go (eq f unity)
  where
    go : (b : Bool) → length (cond b a (map (λ x. mul binary64 x f) a)) ≡ length a
    go true = refl
    go false = length-map a (λ x. mul binary64 x f)

pub scalar_only_length : (a : List Float) → length (scalar_only a) ≡ length a
unfolding scalar_only
scalar_only_length a =
    omega (arith, length-append (take 1 a) (replicate (length a - 1) nought), length-take 1 a, length-replicate (length a - 1) nought)

-- ---- nothing is left open by the contract of `take_scalar`

pub gives_taken_one : {o : Halves} {r r' : Result Taken Refusal} {before after after' : List Float} → GivesTaken o r before after → GivesTaken o r' before after' → (r ≡ r') × (after ≡ after')
gives_taken_one {o = o} g h = (answer_one o.outcome.number (taken_of o) _ _ g.answered h.answered, g.left ∙ sym h.left)
