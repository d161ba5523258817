-- Powers: which inputs are refused, exactly, the shape of the others, and how far the digits go. Assumes nothing.
use mathlib.Core.Path.{◌≡◌, refl, sym, ap, ◌∙◌}
use mathlib.Core.Bool.{Bool, true, false, true≢false, not, ◌&&◌, cond}
use mathlib.Core.List.{List, [], ◌∷◌, ◌++◌}
use mathlib.Core.Logic.{◌⊎◌, inl, inr}
use Prim.Native.Nat.{ℕ, zero, suc, ◌+◌, ◌^◌, ◌/◌, ◌%◌, ◌≤◌, ◌<◌, max}
use native.Mathlib.Nat.{pow-suc}
use native.Mathlib.Omega.{arith}
use borrow.Author.Tests.{eq-eqb, ne_eqb, eqb-true, eqb-false, le-leb, le-ltb, lt-ltb, ltb-true, ltb-false, not-false}
use lib.Dec.{eqb}
use lib.Ieee.{Float}
use lib.IntN.{ℤ, pos, negsuc, nat_abs}
use lib.ListN.{length, take, drop}
use lib.Seq.{length-take-le}
use lib.Signed.{lt_z, le_z}
use mir.Syntax.{w32}
use mir.Val.{SFits, to_z, of_z}
use mir.ValLaws.{to_z-of_z}
use Rattle.masks.specs.declared.flavor.Flavor.{Flavor}
use Rattle.masks.specs.declared.flavor.Flavor.TheVariants.{Vanilla, Projective, Cl}
use Rattle.masks.specs.declared.shape.Shape.{Shape}
use Rattle.masks.specs.Flavor.{added_dims}
use Rattle.masks.specs.Outcome.{Test, Outcome, refusal, too_many, wrong_count, no_room, unless, value, refused_value, laid}
use Rattle.masks.specs.Shape.{with_dims}
use Rattle.masks.proofs.ListLaws.{take_laid, both_true}
use Rattle.masks.proofs.OrderLaws.{blades_le}
use Rattle.masks.proofs.OutcomeLaws.{refused_first, refused_later, not_refused}
use Rattle.arithmetic.specs.Scalar.{test_of, was_planar}
use Rattle.arithmetic.specs.Operators.{is_other, result_dims, operator_tests, multiplication}
use Rattle.arithmetic.specs.Dual.{ample}
use Rattle.arithmetic.specs.Inverse.{square_of}
use Rattle.arithmetic.specs.Power.{is_negative, size_of, is_direct, power_dims, raised, power_of, negative_planar, least_power, power_tests, power}
use Rattle.arithmetic.proofs.OperatorsLaws.{promotes_same, multiply_length, multiply_room}
use Rattle.arithmetic.proofs.ScalarLaws.{IsPlanar, planar_is, is_planar_lem}

-- ---- the exponent

-- The test of what is read back from the bits of an i32.
pub below_zero_lem : (z : ℤ) → SFits w32 z → lt_z (to_z w32 (of_z w32 z)) (pos 0) ≡ is_negative z
below_zero_lem z f = rw (to_z-of_z w32 z f) (go z)
  where
    go : (y : ℤ) → lt_z y (pos 0) ≡ is_negative y
    go (pos n) = le-ltb n 0 (omega arith)
    go (negsuc n) = refl

-- The size of what is read back.
pub size_read : (z : ℤ) → SFits w32 z → (n : ℕ) → n ≡ nat_abs (to_z w32 (of_z w32 z)) → n ≡ size_of z
size_read z f n e = e ∙ ap nat_abs (to_z-of_z w32 z f) ∙ go z
  where
    go : (y : ℤ) → nat_abs y ≡ size_of y
    go (pos n) = refl
    go (negsuc n) = refl

pub from_zero : (z : ℤ) → SFits w32 z → (t : Bool) → le_z (pos 0) (to_z w32 (of_z w32 z)) ≡ t → is_negative z ≡ not t
from_zero z f t e = go z (rw (to_z-of_z w32 z f) at e)
  where
    go : (y : ℤ) → le_z (pos 0) y ≡ t → is_negative y ≡ not t
    go (pos n) q = ap not (sym (le-leb 0 n (omega arith)) ∙ q)
    go (negsuc n) q = ap not q

pub added_le : (f : Flavor) → added_dims f ≤ 1
unfolding added_dims
added_le Vanilla = omega arith
added_le Projective = omega arith
added_le (Cl p n z) = omega arith

-- The first power has the count of the value.
pub first_fits : (s : Shape) (p : ℕ) (x out : List Float) → p ≡ 1 → length x ≡ 2 ^ s.dims → 2 ^ power_dims s p ≤ length out → length x ≤ length out
unfolding power_dims is_direct
first_fits s p x out e l h = rw l (rw (eq-eqb p 1 e) at h)

pub first_taken : (s : Shape) (p : ℕ) (x out : List Float) → p ≡ 1 → length x ≡ 2 ^ s.dims → 2 ^ power_dims s p ≤ length out → length (take (length x) out) ≡ length x
first_taken s p x out e l h = length-take-le (length x) out (first_fits s p x out e l h)

-- ---- the digits

-- Digits past the last one of n change nothing: the loop may stop where n has become 0.
pub raised_none : (s : Shape) (k : ℕ) (r x : List Float) → raised s k 0 r x ≡ r
unfolding raised
raised_none s zero r x = refl
raised_none s (suc k) r x = raised_none s k r (square_of s x)

half : (n k : ℕ) → n < 2 ^ suc k → n / 2 < 2 ^ k
half n k h = omega (arith, pow-suc 2 k)

none : (n : ℕ) → n < 2 ^ 0 → n ≡ 0
none n h = omega arith

pub raised_more : (s : Shape) (k j n : ℕ) (r x : List Float) → n < 2 ^ k → n < 2 ^ j → raised s k n r x ≡ raised s j n r x
unfolding raised
raised_more s zero j n r x h i = rw (none n h) (sym (raised_none s j r x))
raised_more s (suc k) zero n r x h i = rw (none n i) (raised_none s (suc k) r x)
raised_more s (suc k) (suc j) n r x h i = raised_more s k j (n / 2) _ (square_of s x) (half n k h) (half n j i)

-- One digit more is taken.
pub raised_next : (s : Shape) (k n : ℕ) (r x : List Float) → 0 < n → n < 2 ^ k
    → (j : ℕ) × (n / 2 < 2 ^ j) × (raised s k n r x ≡ raised s j (n / 2) (cond (eqb (n % 2) 1) (multiplication (with_dims s (s.dims + added_dims s.flavor)) s r x ample).coefs r) (square_of s x))
unfolding raised
raised_next s zero n r x h l = absurd (omega arith)
raised_next s (suc k) n r x h l = (k, half n k l, refl)

-- ---- values at the front of an output

-- A value that a buffer holds at its front is copied on from there.
pub copied_on : (n : ℕ) (xs buf held copy out : List Float) → length xs ≡ n → held ≡ laid xs buf → copy ≡ take n held → copy ++ drop n out ≡ laid xs out
copied_on n xs buf held copy out l e q =
    ap (λ (ys : List Float). ys ++ drop n out) (q ∙ ap (take n) e ∙ take_laid n xs buf l) ∙ ap (λ (k : ℕ). xs ++ drop k out) (sym l)

-- ---- `*` by a value of no more dimensions

module _ (g s : Shape) (r x : List Float) (f : g.flavor ≡ s.flavor) (m : s.dims ≤ g.dims) (h : g.dims ≤ 9) (l : length r ≡ 2 ^ g.dims) (k : length x ≡ 2 ^ s.dims) where
  grown_dims : result_dims g s x ≡ g.dims
  unfolding result_dims
  grown_dims = rw (f, promotes_same s.flavor) (go (is_other s x))
    where
      go : (t : Bool) → max (g.dims + 0) (s.dims + cond t 0 0) ≡ g.dims
      go true = omega arith
      go false = omega arith

  grown_number : (room : ℕ) → 2 ^ g.dims ≤ room → refusal (operator_tests g s r x room) ≡ 0
  unfolding refusal
  grown_number room q =
      rw (grown_dims, le-ltb 9 g.dims h, le-ltb 9 s.dims (omega arith), eq-eqb (length r) (2 ^ g.dims) l, eq-eqb (length x) (2 ^ s.dims) k, le-ltb room (2 ^ g.dims) q)

  grown_ample : refusal (operator_tests g s r x 512) ≡ 0
  grown_ample = grown_number 512 (blades_le g.dims h)

  pub grown_length : length (multiplication g s r x 512).coefs ≡ 2 ^ g.dims
  grown_length = multiply_length g s r x 512 grown_ample ∙ ap (λ (n : ℕ). 2 ^ n) grown_dims

  -- In any output with room the result is that of an output of 512 numbers.
  pub grown_room : (room : ℕ) → 2 ^ g.dims ≤ room → multiplication g s r x room ≡ multiplication g s r x 512
  grown_room room q = multiply_room g s r x room 512 (grown_number room q) grown_ample

-- ---- lists of tests

-- Of a list that gives k, the first test fails with k, or the rest gives k.
begins : (k : ℕ) (t : Test) (ts : List Test) → refusal (t ∷ ts) ≡ k → ((t.fails ≡ true) × (t.number ≡ k)) ⊎ ((t.fails ≡ false) × (refusal ts ≡ k))
begins k t ts e = go t.fails refl
  where
    go : (b : Bool) → t.fails ≡ b → ((t.fails ≡ true) × (t.number ≡ k)) ⊎ ((t.fails ≡ false) × (refusal ts ≡ k))
    go true p = inl (p, sym (refused_first t ts p) ∙ e)
    go false p = inr (p, sym (refused_later t ts p) ∙ e)

-- A test with another number has not failed.
passes_by : (k : ℕ) (t : Test) (ts : List Test) → (t.number ≡ k → ⊥) → refusal (t ∷ ts) ≡ k → (t.fails ≡ false) × (refusal ts ≡ k)
passes_by k t ts h e = elim (begins k t ts e) [ inl q ↦ absurd (h q.1) | inr q ↦ q ]

-- A test with this number has failed where the rest gives another.
fails_here : (k : ℕ) (t : Test) (ts : List Test) → (refusal ts ≡ k → ⊥) → refusal (t ∷ ts) ≡ k → t.fails ≡ true
fails_here k t ts h e = elim (begins k t ts e) [ inl q ↦ q.0 | inr q ↦ absurd (h q.1) ]

pub and_both : {a b : Bool} → a ≡ true → b ≡ true → (a && b) ≡ true
and_both e f = rw (e, f)

pub not_both : (a b : Bool) → (a ≡ true → b ≡ true → ⊥) → (a && b) ≡ false
not_both true true h = absurd (h refl refl)
not_both true false h = refl
not_both false b h = refl

-- No tests give 0.
given_none : (k : ℕ) → (0 ≡ k → ⊥) → refusal [] ≡ k → ⊥
unfolding refusal
given_none k h e = h e

number_is : (k : ℕ) (o : Outcome) → o.number ≡ 0 → (unless refused_value k o).number ≡ k
unfolding unless
number_is zero o e = e
number_is (suc k) o e = refl

-- ---- refusals, exactly

-- The dimensions of a power are those of its value, or one more under Projective.
raised_above : (t : Bool) (d : ℕ) (f : Flavor) → d ≤ 9 → 9 < cond t d (d + added_dims f) → (d ≡ 9) × (f ≡ Projective) × (t ≡ false)
unfolding added_dims
raised_above true d f h l = absurd (omega arith)
raised_above false d Vanilla h l = absurd (omega arith)
raised_above false d Projective h l = (omega arith, refl, refl)
raised_above false d (Cl p n z) h l = absurd (omega arith)

above_raised : (t : Bool) (d : ℕ) (f : Flavor) → d ≡ 9 → f ≡ Projective → t ≡ false → 9 < cond t d (d + added_dims f)
unfolding added_dims
above_raised t d f e g h = rw (e, g, h) (omega arith)

module _ (s : Shape) (p : ℤ) (a : List Float) (room : ℕ) where
  -- 1: the dimensions are above 9, or they are 9 under Projective and the power is not 1, 2, -1 or -2.
  abbrev pub TooMany : Type 0
  TooMany = (9 < s.dims) ⊎ ((s.dims ≡ 9) × (s.flavor ≡ Projective) × (is_direct (size_of p) ≡ false))

  abbrev n : ℕ
  n = power_dims s (size_of p)

  -- The tests after those of a change to n dimensions.
  abbrev planar : Test
  planar = negative_planar s p a

  abbrev least : Test
  least = least_power p

  pub power_number : (power s p a room).number ≡ refusal (power_tests s p a room)
  unfolding power
  power_number = number_is (refusal (power_tests s p a room)) _ refl

  -- The last two tests give 5 or 6.
  given_last : (k : ℕ) → (0 ≡ k → ⊥) → (5 ≡ k → ⊥) → (6 ≡ k → ⊥) → refusal (planar ∷ least ∷ []) ≡ k → ⊥
  given_last k z f g e = given_none k z (passes_by k least [] g (passes_by k planar _ f e).1).1

  pub power_one : (power s p a room).number ≡ 1 → TooMany
  unfolding power_dims
  power_one e =
      elim (begins 1 (too_many s.dims) _ (sym power_number ∙ e)) [
        | inl q ↦ inl (ltb-true 9 s.dims q.0)
        | inr q ↦ inr (raised_above (is_direct (size_of p)) s.dims s.flavor (ltb-false 9 s.dims q.0) (ltb-true 9 n (fails_here 1 (too_many n) _ later q.1)))
      ]
    where
      later : refusal (wrong_count (length a) s.dims ∷ no_room room (2 ^ n) ∷ planar ∷ least ∷ []) ≡ 1 → ⊥
      later z =
          given_last 1 (λ q. omega arith) (λ q. omega arith) (λ q. omega arith)
          (passes_by 1 (no_room room (2 ^ n)) _ (λ q. omega arith) (passes_by 1 (wrong_count (length a) s.dims) _ (λ q. omega arith) z).1).1

  pub one_power : TooMany → (power s p a room).number ≡ 1
  unfolding power_dims
  one_power (inl h) = power_number ∙ refused_first (too_many s.dims) _ (lt-ltb 9 s.dims h)
  one_power (inr h) =
      power_number ∙ refused_later (too_many s.dims) _ (le-ltb 9 s.dims (omega (arith, h.0)))
      ∙ refused_first (too_many n) _ (lt-ltb 9 n (above_raised (is_direct (size_of p)) s.dims s.flavor h.0 h.1 h.2))

  -- What holds where neither 1, 2 nor 3 is given.
  pub record PowerAccepted : Type 0 where
    pub small : s.dims ≤ 9
    pub result : power_dims s (size_of p) ≤ 9
    pub counted : length a ≡ 2 ^ s.dims
    pub roomy : 2 ^ power_dims s (size_of p) ≤ room

  fitting : (k : ℕ) → (1 ≡ k → ⊥) → (2 ≡ k → ⊥) → (3 ≡ k → ⊥) → refusal (power_tests s p a room) ≡ k → PowerAccepted × (refusal (planar ∷ least ∷ []) ≡ k)
  fitting k x y z e =
      let q = passes_by k (too_many s.dims) _ x e in
      let r = passes_by k (too_many n) _ x q.1 in
      let t = passes_by k (wrong_count (length a) s.dims) _ y r.1 in
      let u = passes_by k (no_room room (2 ^ n)) _ z t.1 in (
        record {
          small = ltb-false _ _ q.0;
          result = ltb-false _ _ r.0;
          counted = eqb-true _ _ (not-false _ t.0);
          roomy = ltb-false _ _ u.0;
        },
        u.1,
      )

  fitted : PowerAccepted → refusal (power_tests s p a room) ≡ refusal (planar ∷ least ∷ [])
  unfolding refusal
  fitted f =
      rw (le-ltb 9 s.dims f.small, le-ltb 9 n f.result, eq-eqb (length a) (2 ^ s.dims) f.counted, le-ltb room (2 ^ n) f.roomy)

  -- Where a value is accepted, the last two tests decide.
  pub refused_five : PowerAccepted → (is_negative p && was_planar (test_of s a)) ≡ true → refusal (power_tests s p a room) ≡ 5
  refused_five f e = fitted f ∙ refused_first planar _ e

  pub refused_six : PowerAccepted → (is_negative p && was_planar (test_of s a)) ≡ false → size_of p ≡ 2 ^ 31 → refusal (power_tests s p a room) ≡ 6
  refused_six f e l = fitted f ∙ refused_later planar _ e ∙ refused_first least [] (eq-eqb (size_of p) (2 ^ 31) l)

  pub refused_none : PowerAccepted → (is_negative p && was_planar (test_of s a)) ≡ false → (size_of p ≡ 2 ^ 31 → ⊥) → refusal (power_tests s p a room) ≡ 0
  unfolding refusal
  refused_none f e l = fitted f ∙ refused_later planar (least ∷ []) e ∙ refused_later least [] (ne_eqb (size_of p) (2 ^ 31) l)

  pub none_refused : refusal (power_tests s p a room) ≡ 0 → PowerAccepted × ((is_negative p && was_planar (test_of s a)) ≡ false) × (size_of p ≡ 2 ^ 31 → ⊥)
  none_refused e =
      let f = fitting 0 (λ q. omega arith) (λ q. omega arith) (λ q. omega arith) e in
      let q = passes_by 0 planar _ (λ q. omega arith) f.1 in
      (f.0, q.0, eqb-false (size_of p) (2 ^ 31) (passes_by 0 least [] (λ q. omega arith) q.1).0)

  -- 5: a negative power of a planar value.
  pub power_five : (power s p a room).number ≡ 5 → PowerAccepted × (is_negative p ≡ true) × IsPlanar s a
  power_five e =
      let f = fitting 5 (λ q. omega arith) (λ q. omega arith) (λ q. omega arith) (sym power_number ∙ e) in
      let none = given_none 5 (λ q. omega arith) in
      let b = both_true (is_negative p) _ (fails_here 5 planar _ (λ q. none (passes_by 5 least [] (λ r. omega arith) q).1) f.1) in
      (f.0, b.0, planar_is s a f.0.counted b.1)

  pub five_power : PowerAccepted → is_negative p ≡ true → IsPlanar s a → (power s p a room).number ≡ 5
  five_power f g i = power_number ∙ refused_five f (and_both g (is_planar_lem s a f.counted i))

  -- 6: the power is the least i32, and the value is not planar.
  pub power_six : (power s p a room).number ≡ 6 → PowerAccepted × (size_of p ≡ 2 ^ 31) × ((is_negative p ≡ true) → IsPlanar s a → ⊥)
  power_six e =
      let f = fitting 6 (λ q. omega arith) (λ q. omega arith) (λ q. omega arith) (sym power_number ∙ e) in
      let q = passes_by 6 planar _ (λ q. omega arith) f.1 in
      (f.0, eqb-true _ _ (fails_here 6 least [] (given_none 6 (λ r. omega arith)) q.1), λ g i. true≢false (sym (and_both g (is_planar_lem s a f.0.counted i)) ∙ q.0))

  pub six_power : PowerAccepted → size_of p ≡ 2 ^ 31 → ((is_negative p ≡ true) → IsPlanar s a → ⊥) → (power s p a room).number ≡ 6
  six_power f e g = power_number ∙ refused_six f (not_both (is_negative p) _ (λ q w. g q (planar_is s a f.counted w))) e

  -- A power that is done has the flavor of the value, and one dimension more under Projective unless the power is 1, 2, -1 or -2.
  pub power_done : (power s p a room).number ≡ 0 → PowerAccepted × (power s p a room ≡ value (with_dims s (power_dims s (size_of p))) (power_of s p a))
  unfolding power
  power_done e = ((none_refused (sym power_number ∙ e)).0, (not_refused (refusal (power_tests s p a room)) _ e).1)
