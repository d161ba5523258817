-- Which number a product is refused with, and that its contract leaves nothing open. Assumes nothing.
use mathlib.Core.Path.{◌≡◌, refl, sym, ap, ◌∙◌}
use mathlib.Core.Bool.{Bool, true, false}
use mathlib.Core.List.{List, [], ◌∷◌}
use Prim.Native.Nat.{ℕ, zero, suc, ◌^◌, ◌≤◌, ◌<◌}
use lib.Ieee.{Float}
use lib.ListN.{length}
use borrow.Author.Tests.{eq-eqb, le-ltb, lt-ltb, ltb-false}
use Rattle.std.specs.Prelude.{Result, Err}
use Rattle.masks.specs.declared.flavor.Flavor.TheVariants.{Vanilla}
use Rattle.masks.specs.declared.outcome.Refusal.{Refusal}
use Rattle.masks.specs.declared.shape.Shape.{Shape}
use Rattle.masks.specs.Outcome.{Test, Pair, refusal, too_many, wrong_count, no_room, number_of, unless, shape_of, refused_pair, pair_tests}
use Rattle.masks.specs.Shape.{promotes, conformed, conformed_shape, conform, both_tests, meeting_dims}
use Rattle.masks.proofs.ShapeLaws.{paired, second_room}
use Rattle.masks.proofs.OutcomeLaws.{answer_one, unless_refused, unless_done, refused_first, refused_later, Passed, passed}
use Rattle.product.specs.declared.outcome.Product.{Product}
use Rattle.product.specs.declared.mode.Mode.{Mode}
use Rattle.product.specs.Products.{Counted, GivesProduct, product_of, refused_product, multiplied_of, product_tests, multiplied}

-- ---- the contract

-- A refusal is answered and leaves the output.
pub gives_refusal : (o : Counted) (e : Refusal) (out : List Float) → o ≡ refused_product (number_of e) → GivesProduct o (Err e) out out
gives_refusal o e out h = rw h (record { answered = refl; left = refl })

-- Nothing is left open: a product and what the output held determine the answer and what it holds after.
pub gives_product_one : {o : Counted} {r r' : Result Product Refusal} {before after after' : List Float} → GivesProduct o r before after → GivesProduct o r' before after' → (r ≡ r') × (after ≡ after')
gives_product_one {o = o} g h = (answer_one o.outcome.number (product_of o) _ _ g.answered h.answered, g.left ∙ sym h.left)

-- ---- the tests of two values

-- Two values with room for the result are not refused.
pub pair_accepted : (d e n count countRight room : ℕ) → Passed d e n count countRight room → refusal (pair_tests d e n count countRight room) ≡ 0
unfolding refusal
pair_accepted d e n count countRight room p =
    rw (le-ltb 9 d p.small, le-ltb 9 e p.small_right, le-ltb 9 n p.result, eq-eqb count (2 ^ d) p.counted, eq-eqb countRight (2 ^ e) p.counted_right, le-ltb room (2 ^ n) p.roomy)

-- Where two values are not refused with one output, a second one with room for the result changes nothing.
pub second_accepted : (d e n count countRight room roomRight : ℕ) → refusal (pair_tests d e n count countRight room) ≡ 0 → 2 ^ n ≤ roomRight → refusal (both_tests d e n count countRight room roomRight) ≡ 0
unfolding refusal
second_accepted d e n count countRight room roomRight z h = second_room d e n count countRight room roomRight z ∙ rw (le-ltb roomRight (2 ^ n) h)

-- ---- conforming

module _ (s t : Shape) (a b : List Float) where
  -- The dimensions that each value is promoted by.
  abbrev pub up : ℕ
  up = promotes s.flavor t.flavor

  abbrev pub up_right : ℕ
  up_right = promotes t.flavor s.flavor

  -- The tests that conforming makes.
  abbrev pub conform_tests : ℕ → ℕ → List Test
  conform_tests room roomRight = both_tests s.dims t.dims (meeting_dims s t) (length a) (length b) room roomRight

  -- Both values, conformed.
  abbrev pub pair : Pair
  pair =
      record {
        number = 0;
        left_shape = conformed_shape up s (meeting_dims s t);
        right_shape = conformed_shape up_right t (meeting_dims s t);
        left_coefs = conformed up s.dims (meeting_dims s t) a;
        right_coefs = conformed up_right t.dims (meeting_dims s t) b;
      }

  number_is : (k : ℕ) → (unless refused_pair k pair).number ≡ k
  unfolding unless
  number_is zero = refl
  number_is (suc k) = refl

  pub conform_number : (room roomRight : ℕ) → (conform s t a b room roomRight).number ≡ refusal (conform_tests room roomRight)
  unfolding conform
  conform_number room roomRight = number_is (refusal (conform_tests room roomRight))

  -- What conforming gives where it is not refused.
  pub conform_done : (room roomRight : ℕ) → refusal (conform_tests room roomRight) ≡ 0 → conform s t a b room roomRight ≡ pair
  unfolding conform
  conform_done room roomRight z = unless_done refused_pair (refusal (conform_tests room roomRight)) 0 pair (sym z) refl

  -- Where a product is not refused, conforming to its room is not.
  pub conform_product : (room : ℕ) → refusal (product_tests s t a b room) ≡ 0 → conform s t a b room room ≡ pair
  conform_product room z =
      let p = passed s.dims t.dims (meeting_dims s t) (length a) (length b) room z in
      conform_done room room (second_accepted s.dims t.dims (meeting_dims s t) (length a) (length b) room room z p.roomy)

-- ---- room for any value, and less

-- Room for the result of two values that meet in n dimensions, if these are at most 9.
abbrev pub Wide : ℕ → ℕ → Type 0
Wide n w = n ≤ 9 → 2 ^ n ≤ w

room_for_any : (n w : ℕ) → Wide n w → n ≤ 9 → refusal (no_room w (2 ^ n) ∷ no_room w (2 ^ n) ∷ []) ≡ 0
unfolding refusal
room_for_any n w wide h = rw (le-ltb w (2 ^ n) (wide h))

-- Two lists of tests that begin alike give one number, if they do after a first test that does not fail.
begin_alike : (k : ℕ) (t : Test) (ts us : List Test) → (t.fails ≡ false → refusal ts ≡ k → refusal us ≡ k) → refusal (t ∷ ts) ≡ k → refusal (t ∷ us) ≡ k
begin_alike k t ts us h e = go t.fails refl
  where
    go : (x : Bool) → t.fails ≡ x → refusal (t ∷ us) ≡ k
    go true p = refused_first t us p ∙ sym (refused_first t ts p) ∙ e
    go false p = refused_later t us p ∙ h p (sym (refused_later t ts p) ∙ e)

module _ (s t : Shape) (a b : List Float) (w : ℕ) (wide : Wide (meeting_dims s t) w) where
  abbrev n : ℕ
  n = meeting_dims s t

  -- A refusal for want of anything but room is the same whatever the room.
  pub refused_anyway : (room k : ℕ) → (k ≡ 0 → ⊥) → refusal (conform_tests s t a b w w) ≡ k → refusal (product_tests s t a b room) ≡ k
  refused_anyway room k h =
      begin_alike k (too_many s.dims) _ _
      (λ _. begin_alike k (too_many t.dims) _ _
      (λ _. begin_alike k (too_many n) _ _
      (λ small. begin_alike k (wrong_count (length a) s.dims) _ _
      (λ _. begin_alike k (wrong_count (length b) t.dims) _ _
      (λ _ z. absurd (h (sym z ∙ room_for_any n w wide (ltb-false 9 n small))))))))

  -- What is not refused where there is room for any value is refused 3 just where there is too little.
  pub refused_for_room : (room : ℕ) → refusal (conform_tests s t a b w w) ≡ 0 → room < 2 ^ n → refusal (product_tests s t a b room) ≡ 3
  unfolding refusal
  refused_for_room room z h =
      let p = paired s.dims t.dims n (length a) (length b) w w z in
      rw (le-ltb 9 s.dims p.small, le-ltb 9 t.dims p.small_right, le-ltb 9 n p.result, eq-eqb (length a) (2 ^ s.dims) p.counted, eq-eqb (length b) (2 ^ t.dims) p.counted_right, lt-ltb room (2 ^ n) h)

  pub roomy_enough : (room : ℕ) → refusal (conform_tests s t a b w w) ≡ 0 → 2 ^ n ≤ room → refusal (product_tests s t a b room) ≡ 0
  unfolding refusal
  roomy_enough room z h =
      let p = paired s.dims t.dims n (length a) (length b) w w z in
      rw (le-ltb 9 s.dims p.small, le-ltb 9 t.dims p.small_right, le-ltb 9 n p.result, eq-eqb (length a) (2 ^ s.dims) p.counted, eq-eqb (length b) (2 ^ t.dims) p.counted_right, le-ltb room (2 ^ n) h)

-- ---- a product of either kind

-- What makes a product of two values of one shape's dimensions.
abbrev pub Of : Type 0
Of = Shape → List Float → List Float → Counted

-- Both values are conformed, and a product is made of them.
unfoldable pub made : Of → Shape → Shape → List Float → List Float → ℕ → Counted
made of s t a b room = let c = conform s t a b room room in unless refused_product (refusal (product_tests s t a b room)) (of c.left_shape c.left_coefs c.right_coefs)

pub made_refused : (of : Of) (s t : Shape) (a b : List Float) (room n : ℕ) → n ≡ refusal (product_tests s t a b room) → (n ≡ 0 → ⊥) → made of s t a b room ≡ refused_product n
unfolding made
made_refused of s t a b room n e h = unless_refused refused_product (refusal (product_tests s t a b room)) n _ e h

-- ---- the number that a product is refused with

module _ (mode : Mode) (s t : Shape) (a b : List Float) (room : ℕ) where
  number_of_product : (k : ℕ) (o : Counted) → o.outcome.number ≡ 0 → (unless refused_product k o).outcome.number ≡ k
  unfolding unless
  number_of_product zero o e = e
  number_of_product (suc k) o e = refl

  -- It is that of the first test of `product_tests` that fails.
  pub refused_by : (multiplied mode s t a b room).outcome.number ≡ refusal (product_tests s t a b room)
  unfolding multiplied
  refused_by = number_of_product (refusal (product_tests s t a b room)) _ refl

  pub multiplied_refused : (n : ℕ) → n ≡ refusal (product_tests s t a b room) → (n ≡ 0 → ⊥) → multiplied mode s t a b room ≡ refused_product n
  unfolding multiplied made
  multiplied_refused n e h = made_refused (multiplied_of mode) s t a b room n e h

  -- A refused product has no pairs, no coefficients and the shape 0 Vanilla.
  pub refused_product_lem : ((multiplied mode s t a b room).outcome.number ≡ 0 → ⊥)
      → ((multiplied mode s t a b room).pairs ≡ 0) × ((multiplied mode s t a b room).outcome.coefs ≡ []) × ((multiplied mode s t a b room).outcome.shape ≡ shape_of 0 Vanilla)
  refused_product_lem h =
      let e = multiplied_refused (refusal (product_tests s t a b room)) refl (λ z. h (refused_by ∙ z)) in
      (ap (λ (o : Counted). o.pairs) e, ap (λ (o : Counted). o.outcome.coefs) e, ap (λ (o : Counted). o.outcome.shape) e)
