-- What the scalar test answers. Assumes nothing.
use mathlib.Core.Path.{◌≡◌, refl, sym, ap, ◌∙◌}
use mathlib.Core.Bool.{Bool, true, false, ◌&&◌, cond, false≢true}
use mathlib.Core.List.{List, [], ◌∷◌}
use Prim.Native.Nat.{ℕ, zero, suc, ◌+◌, ◌^◌, ◌≤◌, ◌<◌}
use native.Mathlib.Nat.{le_of_suc-le-suc, not-suc-le-zero}
use native.Mathlib.Numerals.{add-one}
use native.Mathlib.Omega.{arith}
use borrow.Author.Tests.{eqb-true, eq-eqb}
use lib.Dec.{eqb}
use lib.Ieee.{Float, nan}
use lib.ListN.{length, get_or, drop, drop_of_length-le}
use lib.Seq.{drop-cons}
use Rattle.masks.specs.declared.flavor.Flavor.{Flavor}
use Rattle.masks.specs.declared.flavor.Flavor.TheVariants.{Vanilla, Projective, Cl}
use Rattle.masks.specs.declared.shape.Shape.{Shape}
use Rattle.arithmetic.specs.declared.scalar.Complex.{Complex}
use Rattle.arithmetic.specs.declared.scalar.ScalarTest.{ScalarTest}
use Rattle.arithmetic.specs.declared.scalar.ScalarTest.TheVariants.{Scalar, Planar, Neither}
use Rattle.arithmetic.specs.Scalar.{is_zero, all_zero, is_scalar, is_vanilla, is_planar, test_of, if_scalar, was_planar}

-- ---- tests

pub and_both : (a b : Bool) → (a && b) ≡ true → (a ≡ true) × (b ≡ true)
and_both true b e = (refl, e)
and_both false b e = (e, cc)

-- A test that cannot hold does not.
not_so : (b : Bool) → (b ≡ true → ⊥) → b ≡ false
not_so true h = absurd (h refl)
not_so false h = refl

-- ---- places

-- What the numbers from i on say, by the one at i.
pub zeros_next : (a : List Float) (i : ℕ) (b : Bool) → i < length a → is_zero (get_or a i nan) ≡ b → all_zero (drop i a) ≡ (b && all_zero (drop (i + 1) a))
unfolding all_zero
zeros_next a i b l e = rw (drop-cons a i nan l, add-one i, e)

and_four : (w x y z t : Bool) → (w && (x && (y && (z && t)))) ≡ ((((w && x) && y) && z) && t)
and_four false x y z t = refl
and_four true false y z t = refl
and_four true true false z t = refl
and_four true true true z t = refl

zeros_step : (a : List Float) (i j : ℕ) (b : Bool) → j ≡ i + 1 → i < length a → is_zero (get_or a i nan) ≡ b → all_zero (drop i a) ≡ (b && all_zero (drop j a))
zeros_step a i j b e l q = zeros_next a i b l q ∙ ap (λ (n : ℕ). b && all_zero (drop n a)) (sym e)

-- The same, by the four numbers from i on.
pub four_next : (a : List Float) (i : ℕ) (w x y z : Bool) → i + 4 ≤ length a → is_zero (get_or a i nan) ≡ w → is_zero (get_or a (i + 1) nan) ≡ x → is_zero (get_or a (i + 2) nan) ≡ y → is_zero (get_or a (i + 3) nan) ≡ z
    → all_zero (drop i a) ≡ ((((w && x) && y) && z) && all_zero (drop (i + 4) a))
four_next a i w x y z l p q r s =
    zeros_step a i (i + 1) w refl (omega arith) p
    ∙ ap (λ (t : Bool). w && t) (zeros_step a (i + 1) (i + 2) x (omega arith) (omega arith) q)
    ∙ ap (λ (t : Bool). w && (x && t)) (zeros_step a (i + 2) (i + 3) y (omega arith) (omega arith) r)
    ∙ ap (λ (t : Bool). w && (x && (y && t))) (zeros_step a (i + 3) (i + 4) z (omega arith) (omega arith) s)
    ∙ and_four w x y z (all_zero (drop (i + 4) a))

pub zeros_none : (a : List Float) (i : ℕ) → length a ≤ i → all_zero (drop i a) ≡ true
unfolding all_zero
zeros_none a i l = rw (drop_of_length-le a l)

pub scalar_none : (a : List Float) → length a ≡ 0 → is_scalar a ≡ false
unfolding is_scalar
scalar_none [] e = refl
scalar_none (x ∷ a) e = absurd (omega arith)

-- Of some numbers those after the first count.
pub scalar_rest : (a : List Float) → (length a ≡ 0 → ⊥) → is_scalar a ≡ all_zero (drop 1 a)
unfolding is_scalar
scalar_rest [] h = absurd (h refl)
scalar_rest (x ∷ a) h = refl

-- Of four numbers or more.
pub scalar_three : (a : List Float) (x y z : Bool) → 4 ≤ length a → is_zero (get_or a 1 nan) ≡ x → is_zero (get_or a 2 nan) ≡ y → is_zero (get_or a 3 nan) ≡ z → is_scalar a ≡ (x && (y && (z && all_zero (drop 4 a))))
scalar_three a x y z l p q r =
    scalar_rest a (λ e. omega arith)
    ∙ zeros_step a 1 2 x refl (omega arith) p
    ∙ ap (λ (t : Bool). x && t) (zeros_step a 2 3 y refl (omega arith) q)
    ∙ ap (λ (t : Bool). x && (y && t)) (zeros_step a 3 4 z refl (omega arith) r)

zeros_at : (xs : List Float) → all_zero xs ≡ true → (i : ℕ) → i < length xs → is_zero (get_or xs i nan) ≡ true
unfolding all_zero
zeros_at [] e i h = absurd (not-suc-le-zero h)
zeros_at (x ∷ xs) e zero h = (and_both (is_zero x) (all_zero xs) e).0
zeros_at (x ∷ xs) e (suc i) h = zeros_at xs (and_both (is_zero x) (all_zero xs) e).1 i (le_of_suc-le-suc h)

zeros_from : (xs : List Float) → ((i : ℕ) → i < length xs → is_zero (get_or xs i nan) ≡ true) → all_zero xs ≡ true
unfolding all_zero
zeros_from [] h = refl
zeros_from (x ∷ xs) h = rw (h 0 (omega arith)) (zeros_from xs (λ i l. h (suc i) (omega arith)))

-- A value is scalar just where every place after 0 equals zero.
pub scalar_at : (a : List Float) → is_scalar a ≡ true → (i : ℕ) → 0 < i → i < length a → is_zero (get_or a i nan) ≡ true
unfolding is_scalar
scalar_at [] e i l h = absurd (not-suc-le-zero h)
scalar_at (x ∷ xs) e zero l h = absurd (not-suc-le-zero l)
scalar_at (x ∷ xs) e (suc i) l h = zeros_at xs e i (le_of_suc-le-suc h)

pub scalar_from : (a : List Float) → 0 < length a → ((i : ℕ) → 0 < i → i < length a → is_zero (get_or a i nan) ≡ true) → is_scalar a ≡ true
unfolding is_scalar
scalar_from [] l h = absurd (not-suc-le-zero l)
scalar_from (x ∷ xs) l h = zeros_from xs (λ i k. h (suc i) (omega arith) (omega arith))

-- Four numbers are scalar where the last three equal zero.
four_zero : (a : List Float) → length a ≡ 4 → is_zero (get_or a 1 nan) ≡ true → is_zero (get_or a 2 nan) ≡ true → is_zero (get_or a 3 nan) ≡ true → is_scalar a ≡ true
four_zero a l x y z = scalar_from a (omega arith) go
  where
    go : (i : ℕ) → 0 < i → i < length a → is_zero (get_or a i nan) ≡ true
    go zero k h = absurd (not-suc-le-zero k)
    go (suc zero) k h = x
    go (suc (suc zero)) k h = y
    go (suc (suc (suc zero))) k h = z
    go (suc (suc (suc (suc i)))) k h = absurd (omega arith)

-- ---- the test

-- What is tested, by the two questions in their order.
abbrev answer : Bool → Bool → Float → Complex → ScalarTest
answer b q x c = cond b (Scalar x) (cond q (Planar c) Neither)

answer_scalar : (b q : Bool) (x y : Float) (c : Complex) → answer b q y c ≡ Scalar x → (b ≡ true) × (x ≡ y)
unfolding if_scalar
answer_scalar true q x y c e = (refl, ap (λ (t : ScalarTest). if_scalar t (λ z. z) nan) (sym e))
answer_scalar false true x y c e = (cc, cc)
answer_scalar false false x y c e = (cc, cc)

answer_other {ℓ} : {A : Type ℓ} (q : Bool) (x : Float) (c : Complex) (f : Float → A) (y : A) → if_scalar (answer false q x c) f y ≡ y
unfolding if_scalar
answer_other true x c f y = refl
answer_other false x c f y = refl

answer_planar : (b q : Bool) (x : Float) (c : Complex) → was_planar (answer b q x c) ≡ true → (b ≡ false) × (q ≡ true)
unfolding was_planar
answer_planar true q x c e = (sym e, cc)
answer_planar false true x c e = (refl, refl)
answer_planar false false x c e = (refl, e)

of_vanilla : (f : Flavor) → is_vanilla f ≡ true → f ≡ Vanilla
of_vanilla Vanilla e = refl
of_vanilla Projective e = cc
of_vanilla (Cl p n z) e = cc

module _ (s : Shape) (a : List Float) where
  pub test_scalar : is_scalar a ≡ true → test_of s a ≡ Scalar (get_or a 0 nan)
  unfolding test_of
  test_scalar e = rw e

  pub scalar_tested : (x : Float) → test_of s a ≡ Scalar x → (is_scalar a ≡ true) × (x ≡ get_or a 0 nan)
  unfolding test_of
  scalar_tested x e = answer_scalar (is_scalar a) (is_planar s a) x (get_or a 0 nan) _ e

  -- What is done by cases of the test: of a scalar, and of any other value.
  pub if_scalar_lem {ℓ} : {A : Type ℓ} (f : Float → A) (y : A) → is_scalar a ≡ true → if_scalar (test_of s a) f y ≡ f (get_or a 0 nan)
  unfolding if_scalar
  if_scalar_lem f y e = ap (λ (t : ScalarTest). if_scalar t f y) (test_scalar e)

  pub if_other {ℓ} : {A : Type ℓ} (f : Float → A) (y : A) → is_scalar a ≡ false → if_scalar (test_of s a) f y ≡ y
  unfolding test_of
  if_other f y e = rw e (answer_other (is_planar s a) (get_or a 0 nan) _ f y)

  -- A planar value has two dimensions.
  pub planar_two : is_planar s a ≡ true → s.dims ≡ 2
  unfolding is_planar
  planar_two e = eqb-true s.dims 2 (and_both _ _ (and_both _ _ (and_both _ (is_zero (get_or a 2 nan)) e).0).0).0

  -- Planar, in document 01's words: Vanilla, d = 2, places 1 and 2 equal to zero, place 3 not.
  pub record IsPlanar : Type 0 where
    pub vanilla : s.flavor ≡ Vanilla
    pub two : s.dims ≡ 2
    pub one_zero : is_zero (get_or a 1 nan) ≡ true
    pub two_zero : is_zero (get_or a 2 nan) ≡ true
    pub three_not : is_zero (get_or a 3 nan) ≡ false

  counted : s.dims ≡ 2 → length a ≡ 2 ^ s.dims → length a ≡ 4
  counted d l = l ∙ ap (λ (n : ℕ). 2 ^ n) d

  pub planar_is : length a ≡ 2 ^ s.dims → was_planar (test_of s a) ≡ true → IsPlanar
  unfolding test_of is_planar
  planar_is l e =
      let p = answer_planar (is_scalar a) (is_planar s a) (get_or a 0 nan) _ e in
      let q = and_both _ (is_zero (get_or a 2 nan)) p.1 in
      let r = and_both _ (is_zero (get_or a 1 nan)) q.0 in
      let t = and_both (eqb s.dims 2) (is_vanilla s.flavor) r.0 in
      let d = planar_two p.1 in
      let four : length a ≡ 4 = counted d l in
      record {
        vanilla = of_vanilla s.flavor t.1;
        two = d;
        one_zero = r.1;
        two_zero = q.1;
        three_not = not_so _ (λ z. false≢true (sym p.0 ∙ four_zero a four r.1 q.1 z));
      }

  -- Without the count it would not hold: 1, 0, 0 has no place 3, and is scalar.
  pub is_planar_lem : length a ≡ 2 ^ s.dims → IsPlanar → was_planar (test_of s a) ≡ true
  unfolding test_of is_planar was_planar
  is_planar_lem l p =
      let four : length a ≡ 4 = counted p.two l in
      let other : is_scalar a ≡ false = not_so _ (λ e. false≢true (sym p.three_not ∙ scalar_at a e 3 (omega arith) (omega arith))) in
      rw (other, eq-eqb s.dims 2 p.two, p.vanilla, p.one_zero, p.two_zero)
