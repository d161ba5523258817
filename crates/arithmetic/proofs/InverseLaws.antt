-- The inverse: lengths, and when it is refused 5. Assumes nothing.
use mathlib.Core.Path.{◌≡◌, refl, sym, ap, ◌∙◌}
use mathlib.Core.Bool.{Bool, true, false, ◌&&◌, cond}
use mathlib.Core.List.{List, [], ◌∷◌, ◌++◌, map}
use Prim.Native.Nat.{ℕ, zero, suc, ◌-◌, ◌^◌, ◌<◌}
use native.Mathlib.Omega.{arith}
use lib.Dec.{T, ltb, ltb→lt}
use lib.Ieee.{Float, nan, neg}
use lib.ListN.{length, get_or, length-set, length-map, length-replicate}
use lib.Pow.{pow_pos}
use Rattle.std.specs.Prelude.{Ok, Err}
use Rattle.masks.specs.declared.shape.Shape.{Shape}
use Rattle.masks.specs.declared.outcome.Refusal.{Refusal}
use Rattle.masks.specs.declared.outcome.Refusal.TheVariants as Refusals
use Rattle.masks.specs.Outcome.{Test, Outcome, Gives, refusal, number_of, unless, value, refused_value, laid, nought}
use Rattle.masks.proofs.ListLaws.{both}
use Rattle.masks.proofs.OutcomeLaws.{past, refused_already, refused_later, refuses, unless_refused, gives_refused, gives_ok}
use Rattle.arithmetic.specs.declared.scalar.ScalarTest.{ScalarTest}
use Rattle.arithmetic.specs.declared.scalar.ScalarTest.TheVariants.{Scalar, Planar, Neither}
use Rattle.arithmetic.specs.Scalar.{test_of, if_scalar, was_planar}
use Rattle.arithmetic.specs.Kept.{kept_tests}
use Rattle.arithmetic.specs.Scale.{reciprocal}
use Rattle.arithmetic.specs.Inverse.{square_of, less_scalar, by_square, nanified, general_inverse, inverse_by, inverse_of, inverse}
use Rattle.arithmetic.proofs.KeptLaws.{Accepted, kept_accepted, accepted_kept, scaled_length}
use Rattle.arithmetic.proofs.ScalarLaws.{IsPlanar, planar_is, is_planar_lem}

-- ---- lengths

nanified_length : (d : ℕ) → length (nanified d) ≡ 2 ^ d
unfolding nanified
nanified_length d = omega (arith, length-replicate (2 ^ d - 1) nought, pow_pos d)

pub less_scalar_length : (a : List Float) → length (less_scalar a) ≡ length a
unfolding less_scalar
less_scalar_length a = length-set a 0 _

pub by_square_length : (s : Float) (x : List Float) (q : Float) → length (by_square s x q) ≡ length x
unfolding by_square
by_square_length s x q = scaled_length _ _ ∙ length-set (map neg x) 0 _ ∙ length-map x neg

module _ (s : Shape) (a : List Float) (l : length a ≡ 2 ^ s.dims) where
  pub general_length : length (general_inverse s a) ≡ 2 ^ s.dims
  unfolding general_inverse if_scalar
  general_length = go (test_of s (square_of s (less_scalar a)))
    where
      go : (t : ScalarTest) → length (if_scalar t (by_square (get_or a 0 nan) (less_scalar a)) (nanified s.dims)) ≡ 2 ^ s.dims
      go (Scalar q) = by_square_length (get_or a 0 nan) (less_scalar a) q ∙ less_scalar_length a ∙ l
      go (Planar c) = nanified_length s.dims
      go Neither = nanified_length s.dims

  pub inverse_length : was_planar (test_of s a) ≡ false → length (inverse_of s a) ≡ 2 ^ s.dims
  unfolding inverse_by was_planar
  inverse_length e = go (test_of s a) e
    where
      go : (t : ScalarTest) → was_planar t ≡ false → length (inverse_by t s a) ≡ 2 ^ s.dims
      go (Scalar f) e = length-set a 0 (reciprocal f) ∙ l
      go (Planar c) e = cc
      go Neither e = general_length

-- ---- tests that end in that of refusal 5

-- The tests of a list have numbers from 1 to 4.
abbrev lower : List Test → Bool
lower [] = true
lower (t ∷ ts) = (ltb 0 t.number && ltb t.number 5) && lower ts

-- What that says of the first test, and of the rest.
lower_parts : (t : Test) (ts : List Test) → T (lower (t ∷ ts)) → (0 < t.number) × (t.number < 5) × T (lower ts)
lower_parts t ts w =
    let p = both (ltb 0 t.number && ltb t.number 5) (lower ts) w in
    let q = both (ltb 0 t.number) (ltb t.number 5) p.0 in
    (ltb→lt 0 t.number q.0, ltb→lt t.number 5 q.1, p.1)

pub never_five : (ts : List Test) → T (lower ts) → refusal ts ≡ 5 → ⊥
unfolding refusal
never_five [] w e = omega arith
never_five (t ∷ ts) w e = go t.fails (never_five ts (lower_parts t ts w).2) e
  where
    go : (c : Bool) → (refusal ts ≡ 5 → ⊥) → cond c t.number (refusal ts) ≡ 5 → ⊥
    go true h q = omega (arith, (lower_parts t ts w).1)
    go false h q = h q

-- The last test alone, where it does not fail.
none : (b : Bool) → b ≡ false → refusal (record { fails = b; number = 5 } ∷ []) ≡ 0
unfolding refusal
none b e = rw e

-- Where no test of a list fails, those after it count.
all_passed : (ts us : List Test) → T (lower ts) → refusal ts ≡ 0 → refusal (ts ++ us) ≡ refusal us
all_passed [] us w z = refl
all_passed (t ∷ ts) us w z =
    let p = past t ts (λ q. omega (arith, (lower_parts t ts w).0)) z in
    refused_later t (ts ++ us) p.0 ∙ all_passed ts us (lower_parts t ts w).2 p.1

module _ (ts : List Test) (w : T (lower ts)) where
  -- Where b is true, the last test fails, with 5.
  abbrev ending : Bool → ℕ
  ending b = refusal (ts ++ record { fails = b; number = 5 } ∷ [])

  -- The number is 5 just where no test of the list fails and the last does.
  pub five_last : (b : Bool) → ending b ≡ 5 → (refusal ts ≡ 0) × (b ≡ true)
  unfolding refusal
  five_last b e = go (refusal ts) b refl e
    where
      go : (n : ℕ) (b : Bool) → refusal ts ≡ n → ending b ≡ 5 → (refusal ts ≡ 0) × (b ≡ true)
      go zero true q e = (q, refl)
      go zero false q e = absurd (omega (arith, all_passed ts (record { fails = false; number = 5 } ∷ []) w q))
      go (suc n) b q e = absurd (never_five ts w (sym (refused_already ts _ (λ z. omega arith)) ∙ e))

  pub last_five : (b : Bool) → refusal ts ≡ 0 → b ≡ true → ending b ≡ 5
  unfolding refusal
  last_five b z e = all_passed ts _ w z ∙ rw e

  -- Where the last test fails, the call is refused.
  pub ends_refused : ending true ≡ 0 → ⊥
  ends_refused e = go (refusal ts) refl
    where
      go : (n : ℕ) → refusal ts ≡ n → ⊥
      go zero q = omega (arith, last_five true q refl)
      go (suc n) q = omega (arith, refused_already ts (record { fails = true; number = 5 } ∷ []) (λ z. omega arith))

module _ (k : ℕ) (o : Outcome) where
  pub unless_five : (o.number ≡ 5 → ⊥) → (unless refused_value k o).number ≡ 5 → k ≡ 5
  unfolding unless
  unless_five h e = go k e
    where
      go : (n : ℕ) → (unless refused_value n o).number ≡ 5 → n ≡ 5
      go zero q = absurd (h q)
      go (suc n) q = q

  pub five_unless : k ≡ 5 → (unless refused_value k o).number ≡ 5
  five_unless e = ap (λ (p : Outcome). p.number) (unless_refused refused_value k 5 o (sym e) (λ z. omega arith))

-- ---- refusal 5 of the inverse, exactly

module _ (s : Shape) (a : List Float) (room : ℕ) where
  pub inverse_five : (inverse s a room).number ≡ 5 → Accepted s a room × IsPlanar s a
  unfolding inverse
  inverse_five e =
      let p = five_last (kept_tests s a room) tt (was_planar (test_of s a)) (unless_five _ (value s (inverse_of s a)) (λ q. omega arith) e) in
      let f = kept_accepted s a room p.0 in
      (f, planar_is s a f.counted p.1)

  pub five_inverse : Accepted s a room → IsPlanar s a → (inverse s a room).number ≡ 5
  unfolding inverse
  five_inverse f p =
      five_unless _ _ (last_five (kept_tests s a room) tt (was_planar (test_of s a)) (accepted_kept s a room f) (is_planar_lem s a f.counted p))

-- What a call gives: refused as a call that keeps the shape is; refused 5; or the inverse.
module _ (s : Shape) (a before : List Float) where
  pub gives_not_kept : (e : Refusal) → refusal (kept_tests s a (length before)) ≡ number_of e → Gives (inverse s a (length before)) (Err e) before before
  unfolding inverse
  gives_not_kept e h = gives_refused _ e _ before (refused_already (kept_tests s a (length before)) _ (λ z. refuses e (sym h ∙ z)) ∙ h)

  pub gives_no_inverse : refusal (kept_tests s a (length before)) ≡ 0 → was_planar (test_of s a) ≡ true → Gives (inverse s a (length before)) (Err Refusals.Planar) before before
  unfolding inverse
  gives_no_inverse z p = gives_refused _ Refusals.Planar _ before (last_five (kept_tests s a (length before)) tt _ z p)

  pub gives_inverse : (after : List Float) → refusal (kept_tests s a (length before)) ≡ 0 → was_planar (test_of s a) ≡ false → after ≡ laid (inverse_of s a) before
      → Gives (inverse s a (length before)) (Ok s) before after
  unfolding inverse
  gives_inverse after z p l =
      gives_ok _ (value s (inverse_of s a)) s before after (all_passed (kept_tests s a (length before)) _ tt z ∙ none (was_planar (test_of s a)) p) refl refl l
