-- What `multiplied` gives where it is not refused: the product of the conformed values; where nothing has to be conformed, that of the values as they stand. Assumes nothing.
use mathlib.Core.Path.{◌≡◌, refl, sym, ap, ap₂, ◌∙◌, subst}
use mathlib.Core.Bool.{Bool, true, ◌&&◌}
use mathlib.Core.List.{List}
use Prim.Native.Nat.{ℕ, zero, suc, ◌+◌, ◌^◌, ◌≤◌, ◌<◌}
use native.Mathlib.Nat.{add-zero, le_refl, max-eq_left}
use native.Mathlib.Omega.{arith}
use lib.Dec.{T, eqb, eqb→eq}
use lib.Ieee.Bits.{is_true}
use lib.Ieee.{Float}
use lib.ListN.{length, take}
use borrow.Author.Tests.{eqb-true}
use Rattle.std.specs.Prelude.{Result, Ok, Err}
use Rattle.masks.specs.declared.flavor.Flavor.{Flavor}
use Rattle.masks.specs.declared.flavor.Flavor.TheVariants.{Vanilla, Projective, Cl}
use Rattle.masks.specs.declared.shape.Shape.{Shape}
use Rattle.masks.specs.declared.outcome.Refusal.{Refusal}
use Rattle.masks.specs.declared.outcome.Refusal.TheVariants.{NoRoom}
use Rattle.masks.specs.Outcome.{Pair, GivesBoth, laid, refusal, number_of, unless, pair_tests}
use Rattle.masks.specs.Shape.{promotes, resized, conformed, conformed_shape, conform, meeting_dims}
use Rattle.masks.proofs.ListLaws.{take_laid, both}
use Rattle.masks.proofs.OutcomeLaws.{refuses, unless_done, Passed, passed}
use Rattle.masks.proofs.ShapeLaws.{resized_same, resized_length, paired, conformed_none}
use Rattle.product.proofs.ProductsRefusals.{Wide, Of, made, gives_refusal, pair_accepted, up, up_right, conform_tests, pair, conform_number, conform_done, conform_product, refused_anyway, refused_for_room, roomy_enough, made_refused}
use Rattle.product.specs.declared.outcome.Product.{Product}
use Rattle.product.specs.declared.mode.Mode.{Mode}
use Rattle.product.specs.Pairwise.{pairs_of}
use Rattle.product.specs.Products.{Counted, GivesProduct, refused_product, multiplied_of, product_tests, multiplied}
use Rattle.product.specs.Accuracy.{Fitting}

-- ---- conforming first

module _ (s t : Shape) (a b : List Float) where
  pub made_done : (of : Of) (room : ℕ) → refusal (product_tests s t a b room) ≡ 0 → made of s t a b room ≡ of (pair s t a b).left_shape (pair s t a b).left_coefs (pair s t a b).right_coefs
  unfolding made
  made_done of room z =
      unless_done refused_product (refusal (product_tests s t a b room)) 0 _ (sym z) refl
      ∙ ap (λ (p : Pair). of p.left_shape p.left_coefs p.right_coefs) (conform_product s t a b room z)

  pub multiplied_done : (mode : Mode) (room : ℕ) → refusal (product_tests s t a b room) ≡ 0 → multiplied mode s t a b room ≡ multiplied_of mode (pair s t a b).left_shape (pair s t a b).left_coefs (pair s t a b).right_coefs
  unfolding multiplied made
  multiplied_done mode room z = made_done (multiplied_of mode) room z

-- ---- the count that is returned

of_shape : (mode : Mode) (k : ℕ) (s : Shape) (a b : List Float) → (unless refused_product k (multiplied_of mode s a b)).outcome.number ≡ 0
    → (unless refused_product k (multiplied_of mode s a b)).pairs
    ≡ pairs_of mode (unless refused_product k (multiplied_of mode s a b)).outcome.shape.flavor (unless refused_product k (multiplied_of mode s a b)).outcome.shape.dims
unfolding unless
of_shape mode zero s a b z = refl
of_shape mode (suc k) s a b z = absurd (omega arith)

-- A product that is done returns the number of pairs of its own shape, for which PairsLaws has the closed forms.
pub returned_pairs : (mode : Mode) (s t : Shape) (a b : List Float) (room : ℕ) → (multiplied mode s t a b room).outcome.number ≡ 0
    → (multiplied mode s t a b room).pairs ≡ pairs_of mode (multiplied mode s t a b room).outcome.shape.flavor (multiplied mode s t a b room).outcome.shape.dims
unfolding multiplied
returned_pairs mode s t a b room z = let c = conform s t a b room room in of_shape mode (refusal (product_tests s t a b room)) c.left_shape c.left_coefs c.right_coefs z

-- ---- values that agree

-- No flavor is promoted.
abbrev shares_flavor : Flavor → Flavor → Bool
shares_flavor f g = eqb (promotes f g + promotes g f) 0

shape_kept : (s : Shape) → conformed_shape 0 s s.dims ≡ s
unfolding conformed_shape
shape_kept s = refl

module _ (s t : Shape) (a b : List Float) (same : s.dims ≡ t.dims) (shared : shares_flavor s.flavor t.flavor ≡ true) where
  none : (up s t a b ≡ 0) × (up_right s t a b ≡ 0)
  none = let e : up s t a b + up_right s t a b ≡ 0 = eqb-true _ _ shared in (omega arith, omega arith)

  meets : meeting_dims s t ≡ s.dims
  meets = rw (none.0, none.1, ← same, add-zero s.dims, max-eq_left (le_refl s.dims))

  pub agreeing_tests : (room : ℕ) → refusal (product_tests s t a b room) ≡ refusal (pair_tests s.dims t.dims s.dims (length a) (length b) room)
  agreeing_tests room = ap (λ (n : ℕ). refusal (pair_tests s.dims t.dims n (length a) (length b) room)) meets

  -- Conforming changes nothing.
  conform_none : (room : ℕ) → Passed s.dims t.dims (meeting_dims s t) (length a) (length b) room → ((pair s t a b).left_shape ≡ s) × ((pair s t a b).left_coefs ≡ a) × ((pair s t a b).right_coefs ≡ b)
  conform_none room p = (ap₂ (λ (u m : ℕ). conformed_shape u s m) none.0 meets ∙ shape_kept s, sym (conformed_none (up s t a b) s.dims (meeting_dims s t) a none.0) ∙ ap (λ (m : ℕ). resized s.dims m a) meets ∙ resized_same s.dims a p.small p.counted, sym (conformed_none (up_right s t a b) t.dims (meeting_dims s t) b none.1) ∙ ap (λ (m : ℕ). resized t.dims m b) (meets ∙ same) ∙ resized_same t.dims b p.small_right p.counted_right)

  -- Values that agree are multiplied as they stand.
  made_agreeing : (of : Of) (room : ℕ) → refusal (pair_tests s.dims t.dims s.dims (length a) (length b) room) ≡ 0 → made of s t a b room ≡ of s a b
  made_agreeing of room z =
      let y = agreeing_tests room ∙ z in
      let c = conform_none room (passed s.dims t.dims (meeting_dims s t) (length a) (length b) room y) in
      made_done s t a b of room y
      ∙ ap (λ (u : Shape). of u (pair s t a b).left_coefs (pair s t a b).right_coefs) c.0
      ∙ ap₂ (of s) c.1 c.2

  pub multiplied_agreeing : (mode : Mode) (room : ℕ) → refusal (pair_tests s.dims t.dims s.dims (length a) (length b) room) ≡ 0 → multiplied mode s t a b room ≡ multiplied_of mode s a b
  unfolding multiplied made
  multiplied_agreeing mode room z = made_agreeing (multiplied_of mode) room z

-- A value is not promoted to the flavor it has.
promotes_same : (f : Flavor) → promotes f f ≡ 0
unfolding promotes
promotes_same Vanilla = refl
promotes_same Projective = refl
promotes_same (Cl p n z) = refl

pub multiplied_same : (mode : Mode) (s : Shape) (a b : List Float) (room : ℕ) → Fitting s room → length a ≡ 2 ^ s.dims → length b ≡ 2 ^ s.dims → multiplied mode s s a b room ≡ multiplied_of mode s a b
multiplied_same mode s a b room t la lb =
    multiplied_agreeing s s a b refl (rw (promotes_same s.flavor)) mode room
    (pair_accepted s.dims s.dims s.dims (length a) (length b) room
    (record { small = t.small; small_right = t.small; result = t.small; counted = la; counted_right = lb; roomy = t.roomy }))

-- Two values agree: they have one number of dimensions, and no flavor is promoted.
pub record Agreeing (s t : Shape) : Type 0 where
  pub same : s.dims ≡ t.dims
  pub shared : shares_flavor s.flavor t.flavor ≡ true

pub agreeing : (s t : Shape) → (eqb s.dims t.dims && shares_flavor s.flavor t.flavor) ≡ true → Agreeing s t
agreeing s t e = let b = both (eqb s.dims t.dims) (shares_flavor s.flavor t.flavor) (subst T (sym e) tt) in record { same = eqb→eq s.dims t.dims b.0; shared = is_true _ b.1 }

module _ (of : Of) (s t : Shape) (a b : List Float) (room : ℕ) (g : Agreeing s t) where
  pub gives_agreeing_refused : (e : Refusal) (out : List Float) → refusal (pair_tests s.dims t.dims s.dims (length a) (length b) room) ≡ number_of e → GivesProduct (made of s t a b room) (Err e) out out
  gives_agreeing_refused e out h =
      gives_refusal _ e out (made_refused of s t a b room (number_of e) (sym h ∙ sym (agreeing_tests s t a b g.same g.shared room)) (refuses e))

  pub gives_agreeing : (r : Result Product Refusal) (before after : List Float) → refusal (pair_tests s.dims t.dims s.dims (length a) (length b) room) ≡ 0
      → GivesProduct (of s a b) r before after → GivesProduct (made of s t a b room) r before after
  gives_agreeing r before after z q = rw (made_agreeing s t a b g.same g.shared of room z) q

-- ---- values that are conformed first, to arrays of w numbers

module _ (s t : Shape) (a b bx ax by ay : List Float) (w : ℕ) (wide : Wide (meeting_dims s t) w) where
  -- What conforming refuses, the product refuses.
  pub gives_unconformed : (e : Refusal) → GivesBoth (conform s t a b w w) (Err e) bx ax by ay → (of : Of) (room : ℕ) (out : List Float) → GivesProduct (made of s t a b room) (Err e) out out
  gives_unconformed e g of room out =
      let numbered : refusal (conform_tests s t a b w w) ≡ number_of e = sym (conform_number s t a b w w) ∙ g.answered in
      gives_refusal _ e out (made_refused of s t a b room (number_of e) (sym (refused_anyway s t a b w wide room (number_of e) (refuses e) numbered)) (refuses e))

  module _ (r : Shape × Shape) (g : GivesBoth (conform s t a b w w) (Ok r) bx ax by ay) where
    done : refusal (conform_tests s t a b w w) ≡ 0
    done = sym (conform_number s t a b w w) ∙ g.answered.0

    is_pair : conform s t a b w w ≡ pair s t a b
    is_pair = conform_done s t a b w w done

    is_left : r.0 ≡ (pair s t a b).left_shape
    is_left = ap (λ (q : Shape × Shape). q.0) g.answered.1 ∙ ap (λ (p : Pair). p.left_shape) is_pair

    is_meeting : r.0.dims ≡ meeting_dims s t
    unfolding conformed_shape
    is_meeting = ap (λ (u : Shape). u.dims) is_left

    pub conformed_small : r.0.dims ≤ 9
    conformed_small = omega (arith, is_meeting, (paired s.dims t.dims (meeting_dims s t) (length a) (length b) w w done).result)

    -- The conformed values fit the arrays.
    pub conformed_fits : 2 ^ r.0.dims ≤ w
    conformed_fits = let h : meeting_dims s t ≤ 9 = omega (arith, is_meeting, conformed_small) in subst (λ (m : ℕ). 2 ^ m ≤ w) (sym is_meeting) (wide h)

    module _ (n : ℕ) (e : n ≡ 2 ^ r.0.dims) where
      part_of : (up d : ℕ) (xs before after : List Float) → after ≡ laid (conformed up d (meeting_dims s t) xs) before → take n after ≡ conformed up d (meeting_dims s t) xs
      unfolding conformed
      part_of up d xs before after q =
          ap (take n) q
          ∙ take_laid n (conformed up d (meeting_dims s t) xs) before (resized_length _ (meeting_dims s t) _ ∙ ap (λ (m : ℕ). 2 ^ m) (sym is_meeting) ∙ sym e)

      pub left_part : take n ax ≡ (pair s t a b).left_coefs
      left_part = part_of (up s t a b) s.dims a bx ax (g.left ∙ ap (λ (p : Pair). laid p.left_coefs bx) is_pair)

      pub right_part : take n ay ≡ (pair s t a b).right_coefs
      right_part = part_of (up_right s t a b) t.dims b by ay (g.right ∙ ap (λ (p : Pair). laid p.right_coefs by) is_pair)

      -- Too little room is refusal 3.
      pub gives_no_room : (of : Of) (room : ℕ) (out : List Float) → room < n → GivesProduct (made of s t a b room) (Err NoRoom) out out
      gives_no_room of room out h =
          let l : room < 2 ^ meeting_dims s t = subst (λ (m : ℕ). room < m) (e ∙ ap (λ (m : ℕ). 2 ^ m) is_meeting) h in
          gives_refusal _ NoRoom out (made_refused of s t a b room 3 (sym (refused_for_room s t a b w wide room done l)) (λ q. omega arith))

      pub gives_conformed : (of : Of) (room : ℕ) (p : Result Product Refusal) (before after : List Float) → n ≤ room
          → GivesProduct (of r.0 (take n ax) (take n ay)) p before after → GivesProduct (made of s t a b room) p before after
      gives_conformed of room p before after h q =
          let l : 2 ^ meeting_dims s t ≤ room = subst (λ (m : ℕ). m ≤ room) (e ∙ ap (λ (m : ℕ). 2 ^ m) is_meeting) h in
          subst (λ (o : Counted). GivesProduct o p before after)
          (ap (λ (u : Shape). of u (take n ax) (take n ay)) is_left ∙ ap₂ (of (pair s t a b).left_shape) left_part right_part ∙ sym (made_done s t a b of room (roomy_enough s t a b w wide room done l)))
          q
