-- Division by a value: the dimensions of a quotient, what it is by cases of the right value, and when it is refused 5. Assumes nothing.
use mathlib.Core.Path.{◌≡◌, refl, sym, ap, ◌∙◌}
use mathlib.Core.Bool.{Bool, true, false, not, ◌&&◌, cond}
use mathlib.Core.List.{List, [], ◌∷◌, ◌++◌}
use Prim.Native.Nat.{ℕ, zero, suc, ◌^◌, ◌≤◌}
use native.Mathlib.Nat.{max-eq_left}
use native.Mathlib.Omega.{arith}
use borrow.Author.Tests.{le-ltb, eq-eqb}
use lib.Dec.{eqb}
use lib.Ieee.{Float, nan}
use lib.ListN.{length, get_or}
use Rattle.std.specs.Prelude.{Err}
use Rattle.masks.specs.declared.flavor.Flavor.TheVariants.{Vanilla, Projective}
use Rattle.masks.specs.declared.shape.Shape.{Shape}
use Rattle.masks.specs.declared.outcome.Refusal.{Refusal}
use Rattle.masks.specs.Outcome.{Outcome, Gives, refusal, too_many, wrong_count, no_room, number_of, unless, value, refused_value, shape_of, pair_tests}
use Rattle.masks.specs.Shape.{promotes}
use Rattle.masks.proofs.OutcomeLaws.{later_same, refused_already, refuses, unless_done, gives_refused, passed}
use Rattle.arithmetic.specs.declared.scalar.Complex.{Complex}
use Rattle.arithmetic.specs.declared.scalar.ScalarTest.{ScalarTest}
use Rattle.arithmetic.specs.declared.scalar.ScalarTest.TheVariants.{Scalar, Planar, Neither}
use Rattle.arithmetic.specs.Scalar.{is_scalar, is_planar, test_of, if_scalar, was_planar, no_inverse}
use Rattle.arithmetic.specs.Kept.{kept}
use Rattle.arithmetic.specs.Scale.{scaled, reciprocal, div_f64}
use Rattle.arithmetic.specs.Operators.{is_other, result_dims, operator_tests, multiplication}
use Rattle.arithmetic.specs.Inverse.{general_inverse, inverse_by, inverse_of}
use Rattle.arithmetic.specs.Quotient.{divisor_by, quotient_dims, quotient}
use Rattle.arithmetic.proofs.KeptLaws.{Accepted, accepted_kept}
use Rattle.arithmetic.proofs.ScalarLaws.{test_scalar, IsPlanar, planar_is, is_planar_lem}
use Rattle.arithmetic.proofs.OperatorsLaws.{dims_by_scalar, multiply_number}
use Rattle.arithmetic.proofs.InverseLaws.{general_length, never_five, five_last, last_five, unless_five, five_unless}

-- ---- the dimensions of a quotient

-- A value is scalar where the test answers so.
scalar_if : (s : Shape) (a : List Float) → is_scalar a ≡ if_scalar (test_of s a) (λ x. true) false
unfolding test_of if_scalar
scalar_if s a = go (is_scalar a) (is_planar s a)
  where
    go : (b c : Bool) → b ≡ if_scalar (cond b (Scalar (get_or a 0 nan)) (cond c (Planar (record { re = get_or a 0 nan; im = get_or a 3 nan })) Neither)) (λ x. true) false
    go true c = refl
    go false true = refl
    go false false = refl

module _ (s t : Shape) (b : List Float) where
  -- By a scalar they are the left's.
  pub quotient_dims_by_scalar : is_scalar b ≡ true → quotient_dims s t b ≡ s.dims
  unfolding quotient_dims is_other
  quotient_dims_by_scalar e = rw e (go (eqb (length b) (2 ^ t.dims)))
    where
      go : (c : Bool) → cond (c && false) (result_dims s t (divisor_by (test_of t b) t b)) s.dims ≡ s.dims
      go true = refl
      go false = refl

  -- By a value that has the numbers of its dimensions.
  quotient_dims_lem : length b ≡ 2 ^ t.dims → quotient_dims s t b ≡ if_scalar (test_of t b) (λ f. s.dims) (result_dims s t (divisor_by (test_of t b) t b))
  unfolding quotient_dims is_other if_scalar
  quotient_dims_lem l = rw (eq-eqb (length b) (2 ^ t.dims) l, scalar_if t b) (go (test_of t b))
    where
      go : (u : ScalarTest) → cond (not (if_scalar u (λ x. true) false)) (result_dims s t (divisor_by u t b)) s.dims ≡ if_scalar u (λ f. s.dims) (result_dims s t (divisor_by u t b))
      go (Scalar f) = refl
      go (Planar c) = refl
      go Neither = refl

-- ---- a quotient by cases of the test of the right value

-- The tests of a quotient by a scalar are those of the left value.
scalar_tests : (d e count countRight room : ℕ) → e ≤ 9 → countRight ≡ 2 ^ e
    → refusal (pair_tests d e d count countRight room) ≡ refusal (too_many d ∷ wrong_count count d ∷ no_room room (2 ^ d) ∷ [])
unfolding refusal
scalar_tests d e count countRight room h c =
    later_same d (too_many e ∷ too_many d ∷ wrong_count count d ∷ wrong_count countRight e ∷ no_room room (2 ^ d) ∷ []) (wrong_count count d ∷ no_room room (2 ^ d) ∷ [])
    (λ l. rw (le-ltb 9 e h, le-ltb 9 d l, eq-eqb countRight (2 ^ e) c))

-- The number of a division by a planar value: that of an operator, and 5 where that is not refused.
abbrev pub planar_number : Shape → Shape → List Float → List Float → ℕ → ℕ
planar_number s t a b room = refusal (operator_tests s t a b room ++ record { fails = true; number = 5 } ∷ [])

module _ (s t : Shape) (a b : List Float) (room : ℕ) where
  pub planar_refused : (e : Refusal) → refusal (operator_tests s t a b room) ≡ number_of e → number_of e ≡ planar_number s t a b room
  planar_refused e h = sym h ∙ sym (refused_already (operator_tests s t a b room) _ (λ z. refuses e (sym h ∙ z)))

  pub planar_five : refusal (operator_tests s t a b room) ≡ 0 → 5 ≡ planar_number s t a b room
  planar_five z = sym (last_five (operator_tests s t a b room) tt true z refl)

-- One refusal under another of the same number.
unless_twice : (k n : ℕ) (o : Outcome) → n ≡ k → unless refused_value n (unless refused_value k o) ≡ unless refused_value k o
unfolding unless
unless_twice zero n o e = rw e
unless_twice (suc k) n o e = rw e

module _ (s t : Shape) (a b : List Float) (room : ℕ) (l : length b ≡ 2 ^ t.dims) where
  -- The number of a quotient's refusal, or 0, where the test answers u.
  abbrev number_by : ScalarTest → ℕ
  number_by u = refusal (pair_tests s.dims t.dims (if_scalar u (λ f. s.dims) (result_dims s t (divisor_by u t b))) (length a) (length b) room ++ no_inverse u ∷ [])

  quotient_by : (u : ScalarTest) → test_of t b ≡ u → quotient s t a b room ≡ unless refused_value (number_by u) (if_scalar u (λ f. value s (scaled (reciprocal f) a)) (multiplication s t a (inverse_by u t b) room))
  unfolding quotient
  quotient_by u e = rw (quotient_dims_lem s t b l, e)

  pub quotient_by_scalar : (f : Float) → t.dims ≤ 9 → test_of t b ≡ Scalar f → quotient s t a b room ≡ div_f64 s f a room
  unfolding kept if_scalar was_planar refusal
  quotient_by_scalar f h e =
      quotient_by (Scalar f) e
      ∙ ap (λ (k : ℕ). unless refused_value k (value s (scaled (reciprocal f) a))) (scalar_tests s.dims t.dims (length a) (length b) room h l)

  -- By a planar value it is refused: 5, where no lower number applies.
  pub gives_planar : (c : Complex) (e : Refusal) (out : List Float) → test_of t b ≡ Planar c → number_of e ≡ planar_number s t a b room → Gives (quotient s t a b room) (Err e) out out
  unfolding if_scalar was_planar divisor_by
  gives_planar c e out q k = rw (quotient_by (Planar c) q) (gives_refused _ e _ out (sym k))

  -- What refuses the quotient is what refuses the product with the inverse.
  multiplied_again : unless refused_value (number_by Neither) (multiplication s t a (general_inverse t b) room) ≡ multiplication s t a (general_inverse t b) room
  unfolding if_scalar was_planar divisor_by refusal multiplication
  multiplied_again =
      let n = result_dims s t (general_inverse t b) in
      unless_twice (refusal (operator_tests s t a (general_inverse t b) room)) (number_by Neither) _
      (ap (λ (k : ℕ). refusal (pair_tests s.dims t.dims n (length a) k room)) (l ∙ sym (general_length t b l)))

  pub quotient_by_other : test_of t b ≡ Neither → quotient s t a b room ≡ multiplication s t a (inverse_of t b) room
  unfolding if_scalar inverse_by
  quotient_by_other e =
      quotient_by Neither e ∙ multiplied_again ∙ ap (λ (u : ScalarTest). multiplication s t a (inverse_by u t b) room) (sym e)

-- ---- refusal 5 of a quotient, exactly

module _ (s t : Shape) (a b : List Float) (room : ℕ) where
  -- What is divided is not refused 5 later.
  not_five_product : (xs : List Float) → (multiplication s t a xs room).number ≡ 5 → ⊥
  not_five_product xs e = never_five (operator_tests s t a xs room) tt (sym (multiply_number s t a xs room) ∙ e)

  not_five : (u : ScalarTest) → (if_scalar u (λ f. value s (scaled (reciprocal f) a)) (multiplication s t a (inverse_by u t b) room)).number ≡ 5 → ⊥
  unfolding if_scalar
  not_five (Scalar f) e = omega arith
  not_five (Planar c) e = not_five_product _ e
  not_five Neither e = not_five_product _ e

  right_counted : (n : ℕ) → refusal (pair_tests s.dims t.dims n (length a) (length b) room) ≡ 0 → length b ≡ 2 ^ t.dims
  right_counted n z = (passed s.dims t.dims n (length a) (length b) room z).counted_right

  pub quotient_five : (quotient s t a b room).number ≡ 5 → (refusal (pair_tests s.dims t.dims (quotient_dims s t b) (length a) (length b) room) ≡ 0) × IsPlanar t b
  unfolding quotient
  quotient_five e =
      let p = five_last (pair_tests s.dims t.dims (quotient_dims s t b) (length a) (length b) room) tt (was_planar (test_of t b)) (unless_five _ _ (not_five (test_of t b)) e) in
      (p.0, planar_is t b (right_counted (quotient_dims s t b) p.0) p.1)

  pub five_quotient : refusal (pair_tests s.dims t.dims (quotient_dims s t b) (length a) (length b) room) ≡ 0 → IsPlanar t b → (quotient s t a b room).number ≡ 5
  unfolding quotient
  five_quotient z p =
      five_unless _ _ (last_five (pair_tests s.dims t.dims (quotient_dims s t b) (length a) (length b) room) tt (was_planar (test_of t b)) z (is_planar_lem t b (right_counted (quotient_dims s t b) z) p))

-- ---- division by a scalar conforms nothing

module _ (s t : Shape) (a b : List Float) (room : ℕ) (f : Accepted s a room) (h : t.dims ≤ 9) (l : length b ≡ 2 ^ t.dims) (e : is_scalar b ≡ true) where
  pub quotient_by_scalar_done : quotient s t a b room ≡ value s (scaled (reciprocal (get_or b 0 nan)) a)
  unfolding kept
  quotient_by_scalar_done =
      quotient_by_scalar s t a b room l (get_or b 0 nan) h (test_scalar t b e)
      ∙ unless_done refused_value _ 0 _ (sym (accepted_kept s a room f)) refl

-- A Vanilla value of 9 dimensions over a Projective scalar is done, where `*` by it is refused 1.
module _ (d : ℕ) (a b : List Float) (room : ℕ) (h : d ≤ 9) (e : is_scalar b ≡ true) where
  pub nine_by_projective : Accepted (shape_of 9 Vanilla) a room → length b ≡ 2 ^ d → (quotient (shape_of 9 Vanilla) (shape_of d Projective) a b room).number ≡ 0
  nine_by_projective f l =
      ap (λ (o : Outcome). o.number) (quotient_by_scalar_done (shape_of 9 Vanilla) (shape_of d Projective) a b room f h l e)

  pub nine_times_projective : (multiplication (shape_of 9 Vanilla) (shape_of d Projective) a b room).number ≡ 1
  unfolding refusal promotes
  nine_times_projective =
      let l : d ≤ 10 = omega arith in
      multiply_number (shape_of 9 Vanilla) (shape_of d Projective) a b room
      ∙ rw (dims_by_scalar (shape_of 9 Vanilla) (shape_of d Projective) a b room e, max-eq_left l, le-ltb 9 d h)
