-- `*`, `+` and `-`: what they give where they are not refused. Assumes nothing.
use mathlib.Core.Path.{◌≡◌, refl, sym, ap, ap₂, ◌∙◌, subst}
use mathlib.Core.Bool.{Bool, true, false, not, ◌&&◌, cond}
use mathlib.Core.List.{List, [], ◌∷◌}
use Prim.Native.Nat.{ℕ, zero, suc, ◌+◌, ◌^◌, ◌≤◌, ◌<◌, max}
use native.Mathlib.Nat.{add-zero, le_refl, max-eq_left, suc_inj, le_of_suc-le-suc, not-suc-le-zero}
use native.Mathlib.Omega.{arith}
use lib.Dec.{eqb}
use lib.Ieee.{Float, nan, binary64}
use lib.ListN.{length, get_or, take, drop, length-append}
use borrow.Author.Tests.{eq-eqb, eqb-true, not-true, not-false}
use Rattle.std.specs.Prelude.{Ok, Err}
use Rattle.masks.specs.declared.flavor.Flavor.{Flavor}
use Rattle.masks.specs.declared.flavor.Flavor.TheVariants.{Vanilla, Projective, Cl}
use Rattle.masks.specs.declared.shape.Shape.{Shape}
use Rattle.masks.specs.declared.outcome.Refusal.{Refusal}
use Rattle.masks.specs.Outcome.{Outcome, Gives, refusal, unless, value, refused_value, laid, too_many, wrong_count, no_room, result_tests, pair_tests}
use Rattle.masks.specs.Shape.{promotes, conformed, conformed_shape, conform_to, conform, both_tests, meeting_dims}
use Rattle.masks.proofs.ListLaws.{take_laid}
use Rattle.masks.proofs.OutcomeLaws.{taken, refuses, unless_done, unless_refused, Passed, passed, passes, not_refused, later_same}
use Rattle.masks.proofs.OrderLaws.{blades_le}
use Rattle.masks.proofs.ShapeLaws.{resized_length, resized_same, conformed_none}
use Rattle.product.specs.declared.mode.Mode.TheVariants.{All}
use Rattle.product.specs.Pairwise.{product}
use Rattle.product.specs.Products.{Counted, refused_product, product_tests, multiplied, general_product}
use Rattle.product.proofs.ListLaws.{laid_over}
use Rattle.product.proofs.PairwiseLaws.{product_length}
use Rattle.product.proofs.ProductsRefusals.{pair_accepted, second_accepted, conform_done, refused_by}
use Rattle.product.proofs.ProductsLaws.{multiplied_done}
use Rattle.arithmetic.specs.declared.scalar.ScalarTest.{ScalarTest}
use Rattle.arithmetic.specs.declared.scalar.ScalarTest.TheVariants.{Scalar, Planar, Neither}
use Rattle.arithmetic.specs.Scalar.{is_scalar, test_of, if_scalar}
use Rattle.arithmetic.specs.Scale.{scaled}
use Rattle.arithmetic.specs.Operators.{is_other, joined_dims, result_dims, operator_tests, with_coefs, multiplication, Sum, summed, summed_at0, summed_each, summed_pair, addition}
use Rattle.arithmetic.proofs.KeptLaws.{Accepted, scaled_length}
use Rattle.arithmetic.proofs.ScalarLaws.{and_both, if_scalar_lem, if_other}

-- The tests, where it counts only for dimensions that are not refused whether the right is scalar.
pub other_numbered : (s t : Shape) (other : Bool) (a b : List Float) (room : ℕ) → (t.dims ≤ 9 → other ≡ is_other t b) → refusal (pair_tests s.dims t.dims (joined_dims s t other) (length a) (length b) room) ≡ refusal (operator_tests s t a b room)
unfolding result_dims
other_numbered s t other a b room h =
    later_same s.dims _ _
    (λ l. later_same t.dims _ _
    (λ r. ap (λ (x : Bool). refusal (too_many (joined_dims s t x) ∷ wrong_count (length a) s.dims ∷ wrong_count (length b) t.dims ∷ no_room room (2 ^ joined_dims s t x) ∷ [])) (h r)))

-- A refused product is a refused value.
refused_once : (k : ℕ) (x : Counted) → x.outcome.number ≡ 0 → unless refused_value (unless refused_product k x).outcome.number (unless refused_product k x).outcome ≡ (unless refused_product k x).outcome
unfolding unless
refused_once zero x e = rw e
refused_once (suc k) x e = refl

-- What holds of both results of a test holds of the one that is taken.
either {ℓ} : {A : Type ℓ} (t : ScalarTest) (f : Float → A) (y : A) (P : A → Type 0) → ((x : Float) → P (f x)) → P y → P (if_scalar t f y)
unfolding if_scalar
either (Scalar x) f y P h g = h x
either (Planar c) f y P h g = g
either Neither f y P h g = g

-- A test that does not answer scalar takes the other result.
pub if_not_scalar : {A : Type 0} (t : ScalarTest) (f : Float → A) (y : A) → ((x : Float) → t ≡ Scalar x → ⊥) → if_scalar t f y ≡ y
unfolding if_scalar
if_not_scalar (Scalar x) f y h = absurd (h x refl)
if_not_scalar (Planar c) f y h = refl
if_not_scalar Neither f y h = refl

module _ (s t : Shape) (a b : List Float) (room : ℕ) where
  -- What a call may rest on where an operator is not refused.
  pub operator_passed : refusal (operator_tests s t a b room) ≡ 0 → Passed s.dims t.dims (result_dims s t b) (length a) (length b) room
  operator_passed z = passed s.dims t.dims (result_dims s t b) (length a) (length b) room z

  -- ---- the result's dimensions: they can depend on the numbers

  -- Where the right is scalar it is not promoted.
  pub dims_by_scalar : is_scalar b ≡ true → result_dims s t b ≡ max (s.dims + promotes s.flavor t.flavor) t.dims
  unfolding result_dims is_other
  dims_by_scalar e = rw e (go (eqb (length b) (2 ^ t.dims)))
    where
      go : (x : Bool) → max (s.dims + promotes s.flavor t.flavor) (t.dims + cond (x && false) (promotes t.flavor s.flavor) 0) ≡ max (s.dims + promotes s.flavor t.flavor) t.dims
      go true = rw (add-zero t.dims)
      go false = rw (add-zero t.dims)

  pub dims_by_other : length b ≡ 2 ^ t.dims → is_scalar b ≡ false → result_dims s t b ≡ max (s.dims + promotes s.flavor t.flavor) (t.dims + promotes t.flavor s.flavor)
  unfolding result_dims is_other
  dims_by_other l e = rw (e, eq-eqb _ _ l)

  -- The tests against a value that is not scalar are those of the dimensions that the two meet in.
  refused_by_other : length b ≡ 2 ^ t.dims → is_scalar b ≡ false → refusal (operator_tests s t a b room) ≡ refusal (product_tests s t a b room)
  refused_by_other l e = ap (λ (n : ℕ). refusal (pair_tests s.dims t.dims n (length a) (length b) room)) (dims_by_other l e)

  -- Where an operator is not refused, conforming to outputs with room for the result is not.
  other_passes : (roomRight : ℕ) → refusal (operator_tests s t a b room) ≡ 0 → is_scalar b ≡ false → 2 ^ meeting_dims s t ≤ roomRight → refusal (both_tests s.dims t.dims (meeting_dims s t) (length a) (length b) room roomRight) ≡ 0
  other_passes roomRight z e h =
      second_accepted s.dims t.dims (meeting_dims s t) (length a) (length b) room roomRight (sym (refused_by_other (operator_passed z).counted_right e) ∙ z) h

  -- Where an operator is not refused, it does what the scalar test says.
  pub by_test : (T : ScalarTest) (f : Float → Outcome) (o : Outcome) → refusal (operator_tests s t a b room) ≡ 0 → test_of t b ≡ T → unless refused_value (refusal (operator_tests s t a b room)) (if_scalar (test_of t b) f o) ≡ if_scalar T f o
  by_test T f o z e = unless_done refused_value (refusal (operator_tests s t a b room)) 0 _ (sym z) refl ∙ ap (λ (x : ScalarTest). if_scalar x f o) e

  -- ---- `*`

  -- `*` by a value that is not scalar is the general product, refusals included.
  pub multiply_other : length b ≡ 2 ^ t.dims → is_scalar b ≡ false → multiplication s t a b room ≡ (general_product s t a b room).outcome
  unfolding multiplication multiplied
  multiply_other l e = ap₂ (unless refused_value) (refused_by_other l e ∙ sym (refused_by All s t a b room)) (if_other t b _ _ e) ∙ refused_once _ _ refl

  -- The dimensions that each value is promoted by.
  abbrev up : ℕ
  up = promotes s.flavor t.flavor

  abbrev up_right : ℕ
  up_right = promotes t.flavor s.flavor

  -- What `*` gives at n dimensions: the left side times the number of a scalar, or the product with any other value.
  abbrev scaled_at : ℕ → Float → List Float
  scaled_at n f = scaled f (conformed up s.dims n a)

  abbrev product_at : ℕ → List Float
  product_at n = product All (conformed_shape up s n).flavor (conformed_shape up s n).dims binary64 (conformed up s.dims n a) (conformed up_right t.dims n b)

  -- By a scalar the left side is conformed at the result's dimensions.
  conform_to_done : (n : ℕ) → n ≡ max (s.dims + up) t.dims → Passed s.dims t.dims n (length a) (length b) room → conform_to s t a room ≡ value (conformed_shape up s n) (conformed up s.dims n a)
  unfolding conform_to
  conform_to_done n e p =
      rw (← e)
      (unless_done refused_value (refusal (result_tests s.dims n (length a) room (2 ^ n))) 0 _
      (sym (passes s.dims n (length a) room (2 ^ n) (record { small = p.small; result = p.result; counted = p.counted; roomy = p.roomy }))) refl)

  -- What `*` gives where it is not refused.
  multiply_done : refusal (operator_tests s t a b room) ≡ 0
      → multiplication s t a b room ≡ value (conformed_shape up s (result_dims s t b)) (if_scalar (test_of t b) (scaled_at (result_dims s t b)) (product_at (result_dims s t b)))
  unfolding multiplication
  multiply_done z = by_test (test_of t b) _ _ z refl ∙ go (is_scalar b) refl
    where
      n : ℕ
      n = result_dims s t b

      p : Passed s.dims t.dims n (length a) (length b) room
      p = operator_passed z

      go : (x : Bool) → is_scalar b ≡ x → if_scalar (test_of t b) (λ f. with_coefs (scaled f) (conform_to s t a room)) (general_product s t a b room).outcome ≡ value (conformed_shape up s n) (if_scalar (test_of t b) (scaled_at n) (product_at n))
      go true e =
          if_scalar_lem t b _ _ e ∙ ap (with_coefs (scaled (get_or b 0 nan))) (conform_to_done n (dims_by_scalar e) p) ∙ ap (value (conformed_shape up s n)) (sym (if_scalar_lem t b _ _ e))
      go false e =
          let d = dims_by_other p.counted_right e in
          if_other t b _ _ e
          ∙ ap (λ (o : Counted). o.outcome) (multiplied_done s t a b All room (sym (refused_by_other p.counted_right e) ∙ z))
          ∙ ap (λ (m : ℕ). value (conformed_shape up s m) (product_at m)) (sym d)
          ∙ ap (value (conformed_shape up s n)) (sym (if_other t b _ _ e))

  pub multiply_shape : refusal (operator_tests s t a b room) ≡ 0 → (multiplication s t a b room).shape ≡ conformed_shape (promotes s.flavor t.flavor) s (result_dims s t b)
  multiply_shape z = ap (λ (o : Outcome). o.shape) (multiply_done z)

  pub multiply_number : (multiplication s t a b room).number ≡ refusal (operator_tests s t a b room)
  unfolding multiplication
  multiply_number = go (refusal (operator_tests s t a b room)) refl
    where
      go : (k : ℕ) → refusal (operator_tests s t a b room) ≡ k → (multiplication s t a b room).number ≡ refusal (operator_tests s t a b room)
      go zero e = ap (λ (o : Outcome). o.number) (multiply_done e) ∙ sym e
      go (suc k) e = ap (λ (o : Outcome). o.number) (unless_refused refused_value (refusal (operator_tests s t a b room)) (refusal (operator_tests s t a b room)) _ refl (λ z. omega arith))

  pub multiply_length : refusal (operator_tests s t a b room) ≡ 0 → length (multiplication s t a b room).coefs ≡ 2 ^ result_dims s t b
  unfolding conformed conformed_shape
  multiply_length z =
      ap (λ (o : Outcome). length o.coefs) (multiply_done z)
      ∙ either (test_of t b) _ _ (λ (xs : List Float). length xs ≡ 2 ^ result_dims s t b)
      (λ f. scaled_length f (conformed up s.dims (result_dims s t b) a) ∙ resized_length (s.dims + up) (result_dims s t b) _)
      (product_length All _ (result_dims s t b) binary64 _ _)

  -- ---- `+` and `-`

  -- Where an operator is not refused, the right side can be conformed to an output of 512 numbers as to one of `room`.
  pub conform_other : refusal (operator_tests s t a b room) ≡ 0 → is_scalar b ≡ false → conform s t a b room room ≡ conform s t a b room 512
  conform_other z e =
      let p = operator_passed z in
      let q = subst (λ (n : ℕ). (n ≤ 9) × (2 ^ n ≤ room)) (dims_by_other p.counted_right e) (p.result, p.roomy) in
      conform_done s t a b room room (other_passes room z e q.1) ∙ sym (conform_done s t a b room 512 (other_passes 512 z e (blades_le (meeting_dims s t) q.0)))

  -- Where `+` is not refused, it adds a scalar at place 0, and another value everywhere: the right side's buffer has room for any value.
  module _ (op : Sum) (z : refusal (operator_tests s t a b room) ≡ 0) where
    pub add_by_scalar : is_scalar b ≡ true → addition op s t a b room ≡ with_coefs (summed_at0 op (get_or b 0 nan)) (conform_to s t a room)
    unfolding addition
    add_by_scalar e = unless_done refused_value (refusal (operator_tests s t a b room)) 0 _ (sym z) refl ∙ if_scalar_lem t b _ _ e

    pub add_by_other : is_scalar b ≡ false → addition op s t a b room ≡ summed_pair op (conform s t a b room 512)
    unfolding addition
    add_by_other e = unless_done refused_value (refusal (operator_tests s t a b room)) 0 _ (sym z) refl ∙ if_other t b _ _ e ∙ ap (summed_pair op) (conform_other z e)

  -- Of a value that is not refused `is_other` says whether it is not scalar.
  module _ (other : Bool) (h : t.dims ≤ 9 → other ≡ is_other t b) (z : refusal (operator_tests s t a b room) ≡ 0) where
    other_is : other ≡ not (is_scalar b)
    unfolding is_other
    other_is = let p = operator_passed z in h p.small_right ∙ rw (eq-eqb (length b) (2 ^ t.dims) p.counted_right)

    pub was_other : other ≡ true → is_scalar b ≡ false
    was_other e = not-true (is_scalar b) (sym other_is ∙ e)

    pub was_scalar : other ≡ false → is_scalar b ≡ true
    was_scalar e = not-false (is_scalar b) (sym other_is ∙ e)

-- `*` is the same whatever the room, where there is enough.
pub multiply_room : (s t : Shape) (a b : List Float) (room other : ℕ) → refusal (operator_tests s t a b room) ≡ 0 → refusal (operator_tests s t a b other) ≡ 0
    → multiplication s t a b room ≡ multiplication s t a b other
multiply_room s t a b room other z y = multiply_done s t a b room z ∙ sym (multiply_done s t a b other y)

-- Sums have the places of their numbers.
pub each_length : (op : Sum) (a b : List Float) → length a ≡ length b → length (summed_each op a b) ≡ length a
unfolding summed_each
each_length op [] b e = refl
each_length op (x ∷ a) [] e = absurd (omega arith)
each_length op (x ∷ a) (y ∷ b) e = ap suc (each_length op a b (suc_inj e))

pub each_at : (op : Sum) (a b : List Float) (k : ℕ) → k < length a → k < length b → get_or (summed_each op a b) k nan ≡ summed op (get_or a k nan) (get_or b k nan)
unfolding summed_each
each_at op [] b k h g = absurd (not-suc-le-zero h)
each_at op (x ∷ a) [] k h g = absurd (not-suc-le-zero g)
each_at op (x ∷ a) (y ∷ b) zero h g = refl
each_at op (x ∷ a) (y ∷ b) (suc k) h g = each_at op a b k (le_of_suc-le-suc h) (le_of_suc-le-suc g)

-- ---- the left side, conformed and then changed

-- A change that leaves nothing from nothing leaves a refusal.
refused_kept : (f : List Float → List Float) (k : ℕ) (o : Outcome) → o.number ≡ 0 → f [] ≡ [] → ((unless refused_value k o).number ≡ 0 → ⊥) → (unless refused_value k o).coefs ≡ f (unless refused_value k o).coefs
unfolding unless
refused_kept f zero o z e h = absurd (h z)
refused_kept f (suc k) o z e h = sym e

module _ (s t : Shape) (a : List Float) (u : Shape) (before mid : List Float) (g : Gives (conform_to s t a (length before)) (Ok u) before mid) where
  abbrev conformed_coefs : List Float
  conformed_coefs = (conform_to s t a (length before)).coefs

  -- What a change may rest on where conforming is not refused.
  pub record Conformed : Type 0 where
    pub small : u.dims ≤ 9
    pub counted : length conformed_coefs ≡ 2 ^ u.dims
    pub roomy : 2 ^ u.dims ≤ length mid

  pub conformed_facts : Conformed
  unfolding conform_to conformed_shape conformed
  conformed_facts =
      let n = max (s.dims + promotes s.flavor t.flavor) t.dims in
      let q = not_refused _ _ g.answered.0 in
      let e : u.dims ≡ n = ap (λ (v : Shape). v.dims) g.answered.1 ∙ ap (λ (o : Outcome). o.shape.dims) q.1 in
      let l = ap (λ (o : Outcome). length o.coefs) q.1 ∙ resized_length (s.dims + promotes s.flavor t.flavor) n _ ∙ ap (λ (m : ℕ). 2 ^ m) (sym e) in
      record {
        small = rw e (taken s.dims n (length a) (length before) (2 ^ n) q.0).result;
        counted = l;
        roomy = omega (arith, ap length g.left, length-append conformed_coefs (drop (length conformed_coefs) before), l);
      }

  -- What was conformed is changed where it lies.
  pub changed : (f : List Float → List Float) (n : ℕ) (after : List Float) → n ≡ 2 ^ u.dims → ((xs : List Float) → length (f xs) ≡ length xs)
      → after ≡ laid (f (take n mid)) mid → Gives (with_coefs f (conform_to s t a (length before))) (Ok u) before after
  changed f n after e k l =
      let x : take n mid ≡ conformed_coefs = ap (take n) g.left ∙ take_laid n conformed_coefs before (conformed_facts.counted ∙ sym e) in
      record {
        answered = g.answered;
        left =
            l ∙ ap (λ (ys : List Float). laid (f ys) mid) x ∙ ap (laid (f conformed_coefs)) g.left
            ∙ laid_over (f conformed_coefs) conformed_coefs before (k conformed_coefs);
      }

-- Conforming that is refused writes nothing, whatever was to be done.
pub changed_none : (s t : Shape) (a : List Float) (e : Refusal) (before mid : List Float) → Gives (conform_to s t a (length before)) (Err e) before mid
    → (f : List Float → List Float) → f [] ≡ [] → Gives (with_coefs f (conform_to s t a (length before))) (Err e) before mid
unfolding conform_to
changed_none s t a e before mid g f n =
    record {
      answered = g.answered;
      left = g.left ∙ ap (λ (xs : List Float). laid xs before) (refused_kept f _ _ refl n (λ z. refuses e (sym g.answered ∙ z)));
    }

-- ---- values of one shape

-- A value is not promoted to the flavor it has.
pub promotes_same : (f : Flavor) → promotes f f ≡ 0
unfolding promotes
promotes_same Vanilla = refl
promotes_same Projective = refl
promotes_same (Cl p n z) = refl

dims_same : (s : Shape) (b : List Float) → result_dims s s b ≡ s.dims
unfolding result_dims
dims_same s b = rw (promotes_same s.flavor) (go (is_other s b))
  where
    go : (x : Bool) → max (s.dims + 0) (s.dims + cond x 0 0) ≡ s.dims
    go true = rw (add-zero s.dims, max-eq_left (le_refl s.dims))
    go false = rw (add-zero s.dims, max-eq_left (le_refl s.dims))

-- A value at its own dimensions is as it stands.
conformed_kept : (d : ℕ) (a : List Float) → d ≤ 9 → length a ≡ 2 ^ d → conformed 0 d d a ≡ a
conformed_kept d a h l = sym (conformed_none 0 d d a refl) ∙ resized_same d a h l

-- Values that agree, of one number of dimensions and no flavor promoted, are added as they stand.
module _ (op : Sum) (s t : Shape) (a b : List Float) (room : ℕ) (agree : (eqb s.dims t.dims && eqb (promotes s.flavor t.flavor + promotes t.flavor s.flavor) 0) ≡ true)
    (z : refusal (pair_tests s.dims t.dims (meeting_dims s t) (length a) (length b) room) ≡ 0) where
  agreed : Passed s.dims t.dims (meeting_dims s t) (length a) (length b) room
  agreed = passed s.dims t.dims (meeting_dims s t) (length a) (length b) room z

  pub agreed_dims : s.dims ≡ t.dims
  agreed_dims = eqb-true s.dims t.dims (and_both _ _ agree).0

  pub agreed_counts : length a ≡ length b
  agreed_counts = agreed.counted ∙ ap (λ (n : ℕ). 2 ^ n) agreed_dims ∙ sym agreed.counted_right

  unpromoted : (promotes s.flavor t.flavor ≡ 0) × (promotes t.flavor s.flavor ≡ 0)
  unpromoted = let e = eqb-true (promotes s.flavor t.flavor + promotes t.flavor s.flavor) 0 (and_both (eqb s.dims t.dims) _ agree).1 in (omega arith, omega arith)

  agreed_meet : meeting_dims s t ≡ s.dims
  agreed_meet = rw (unpromoted.0, unpromoted.1, ← agreed_dims, add-zero s.dims, max-eq_left (le_refl s.dims))

  pub agreed_room : length a ≤ room
  agreed_room = let e : 2 ^ meeting_dims s t ≡ 2 ^ s.dims = ap (λ (n : ℕ). 2 ^ n) agreed_meet in omega (arith, agreed.roomy, agreed.counted)

  abbrev sum_at : ℕ → ℕ → ℕ → Outcome
  sum_at u v n = value (conformed_shape u s n) (summed_each op (conformed u s.dims n a) (conformed v t.dims n b))

  pub agreed_sum : summed_pair op (conform s t a b room 512) ≡ value s (summed_each op a b)
  unfolding conformed_shape
  agreed_sum =
      ap (summed_pair op) (conform_done s t a b room 512 (second_accepted s.dims t.dims (meeting_dims s t) (length a) (length b) room 512 z (blades_le (meeting_dims s t) agreed.result)))
      ∙ ap₂ (λ (u v : ℕ). sum_at u v (meeting_dims s t)) unpromoted.0 unpromoted.1
      ∙ ap (sum_at 0 0) agreed_meet
      ∙ ap₂ (λ (x y : List Float). value s (summed_each op x y))
      (conformed_kept s.dims a agreed.small agreed.counted)
      (ap (λ (n : ℕ). conformed 0 t.dims n b) agreed_dims ∙ conformed_kept t.dims b agreed.small_right agreed.counted_right)

-- Values of one shape are multiplied as they stand, whatever the room.
pub multiply_same : (s : Shape) (a b : List Float) (room : ℕ) → Accepted s a room → length b ≡ 2 ^ s.dims
    → multiplication s s a b room ≡ value s (if_scalar (test_of s b) (λ f. scaled f a) (product All s.flavor s.dims binary64 a b))
unfolding conformed_shape
multiply_same s a b room f l =
    multiply_done s s a b room
    (ap (λ (n : ℕ). refusal (pair_tests s.dims s.dims n (length a) (length b) room)) (dims_same s b)
    ∙ pair_accepted s.dims s.dims s.dims (length a) (length b) room
    (record { small = f.small; small_right = f.small; result = f.small; counted = f.counted; counted_right = l; roomy = f.roomy }))
    ∙ ap₂ (λ (u n : ℕ). value (conformed_shape u s n) (if_scalar (test_of s b) (λ x. scaled x (conformed u s.dims n a)) (product All (conformed_shape u s n).flavor n binary64 (conformed u s.dims n a) (conformed u s.dims n b)))) (promotes_same s.flavor) (dims_same s b)
    ∙ ap₂ (λ (x y : List Float). value s (if_scalar (test_of s b) (λ z. scaled z x) (product All s.flavor s.dims binary64 x y)))
    (conformed_kept s.dims a f.small f.counted) (conformed_kept s.dims b f.small l)
