-- A product that is done is that of the conformed values, which have one number of dimensions, under the left one's flavor; they meet the premises of demand 3 that the given values meet. Assumes nothing.
use mathlib.Core.Path.{◌≡◌, sym, ap, ◌∙◌}
use mathlib.Core.Bool.{Bool, true, false, cond}
use mathlib.Core.List.{List}
use mathlib.Core.Logic.{⊎_elim}
use Prim.Native.Nat.{ℕ, zero, suc, ◌+◌, ◌/◌, ◌%◌, ◌^◌, ◌≤◌, ◌<◌}
use native.Mathlib.Nat.{add-zero}
use native.Mathlib.Omega.{arith}
use lib.Dec.{T, eqb}
use lib.Ieee.{Float, nan, inf, fin, binary64, neg, fits}
use lib.Ieee.Fits.{neg-fits}
use lib.IntN.{pos}
use lib.ListN.{get_or, length}
use Rattle.rounding.specs.Sized.{Sized}
use Rattle.rounding.specs.Value.{Whole}
use Rattle.rounding.proofs.ValueLaws.{zero_whole}
use Rattle.masks.specs.declared.shape.Shape.{Shape}
use Rattle.masks.specs.Order.{order}
use Rattle.masks.specs.Outcome.{Pair, refusal, nought}
use Rattle.masks.specs.Shape.{coef, negated_if, negates, moved, resized, promoted_coef, promotes, promoted, promoted_flavor, conformed, conformed_shape, conform, meeting_dims}
use Rattle.masks.proofs.OutcomeLaws.{passed}
use Rattle.masks.proofs.ListLaws.{split, get_d_map}
use Rattle.masks.proofs.OrderLaws.{length_order, place_lt}
use Rattle.masks.proofs.ShapeLaws.{coef_inside, coef_outside, resized_length, promotes_le}
use Rattle.product.specs.declared.mode.Mode.{Mode}
use Rattle.product.specs.Products.{multiplied_of, product_tests, multiplied}
use Rattle.product.specs.Accuracy.{Holds, Fitting, InBounds, Multiples}
use Rattle.product.proofs.ProductsRefusals.{up, up_right, pair, conform_product, refused_by}
use Rattle.product.proofs.ProductsLaws.{multiplied_done, multiplied_same}
use Rattle.product.proofs.ReverseLaws.{whole_negated}

-- ---- what conforming keeps: it moves coefficients, negates some and fills with +0

-- Each coefficient of a value of d dimensions.
abbrev Each : (Float → Type 0) → ℕ → List Float → Type 0
Each Has d a = (i : ℕ) → i < 2 ^ d → Has (get_or a i nan)

-- +0 has it, and what has it has it negated.
abbrev Kept : (Float → Type 0) → Type 0
Kept Has = Has nought × ((x : Float) → Has x → Has (neg x))

module _ (Has : Float → Type 0) (kept : Kept Has) where
  coef_has : (d : ℕ) (a : List Float) → Each Has d a → (m : ℕ) → Has (coef d a m)
  coef_has d a h m =
      ⊎_elim (λ (l : m < 2 ^ d). rw (coef_inside d m a l) (h _ (place_lt d m l))) (λ (l : 2 ^ d ≤ m). rw (coef_outside d m a l) kept.0) (split m (2 ^ d))

  promoted_coef_has : (b : Bool) (x : Float) → Has x → Has (cond b x nought)
  promoted_coef_has true x h = h
  promoted_coef_has false x h = kept.0

  negated_has : (b : Bool) (x : Float) → Has x → Has (negated_if b x)
  negated_has true x h = kept.1 x h
  negated_has false x h = h

  promoted_has : (up d : ℕ) (a : List Float) → up ≤ 1 → Each Has d a → Each Has (d + up) (promoted up d a)
  unfolding promoted
  promoted_has zero d a l h i k = h i (rw (add-zero d) at k)
  promoted_has (suc zero) d a l h i k =
      let m = get_or (order (d + 1)) i 0 in
      rw (get_d_map (promoted_coef d a) (order (d + 1)) i 0 nan (omega (arith, length_order (d + 1)))) (promoted_coef_has (eqb (m % 2) 0) _ (coef_has d a h (m / 2)))
  promoted_has (suc (suc _)) d a l h i k = absurd (omega arith)

  conformed_has : (up d n : ℕ) (a : List Float) → up ≤ 1 → Each Has d a → Each Has n (conformed up d n a)
  unfolding conformed resized
  conformed_has up d n a l h i k =
      let m = get_or (order n) i 0 in
      rw (get_d_map (moved (d + up) n (promoted up d a)) (order n) i 0 nan (omega (arith, length_order n)))
      (negated_has (negates (d + up) n m) _ (coef_has (d + up) (promoted up d a) (promoted_has up d a l h) m))

sized_negated : (x : Float) → Sized 400 x → Sized 400 (neg x)
unfolding neg
sized_negated nan h = h
sized_negated (inf s) h = h
sized_negated (fin s zero e) h = h
sized_negated (fin s (suc m) e) h = h

fits_kept : Kept (λ x. T (fits binary64 x))
unfolding fits
fits_kept = (tt, neg-fits binary64)

sized_kept : Kept (Sized 400)
sized_kept = (tt, sized_negated)

whole_kept : (p : ℕ) → Kept (Whole p)
whole_kept p = (zero_whole p false (pos 0), whole_negated true p)

-- ---- a product that is done

module _ (mode : Mode) (s t : Shape) (a b : List Float) (room : ℕ) (z : (multiplied mode s t a b room).outcome.number ≡ 0) where
  -- Both values, conformed.
  abbrev both : Pair
  both = conform s t a b room room

  done : refusal (product_tests s t a b room) ≡ 0
  done = sym (refused_by mode s t a b room) ∙ z

  is_pair : both ≡ pair s t a b
  is_pair = conform_product s t a b room done

  pub conformed_fitting : Fitting both.left_shape room
  unfolding conformed_shape
  conformed_fitting =
      let p = passed s.dims t.dims (meeting_dims s t) (length a) (length b) room done in
      rw is_pair (record { small = p.result; roomy = p.roomy })

  pub conformed_many : (length both.left_coefs ≡ 2 ^ both.left_shape.dims) × (length both.right_coefs ≡ 2 ^ both.left_shape.dims)
  unfolding conformed_shape conformed
  conformed_many = rw is_pair (resized_length _ (meeting_dims s t) _, resized_length _ (meeting_dims s t) _)

  -- The flavor that is multiplied under is the left one's; a Vanilla left that meets Projective is promoted.
  pub conformed_flavor : both.left_shape.flavor ≡ promoted_flavor (promotes s.flavor t.flavor) s.flavor
  unfolding conformed_shape
  conformed_flavor = ap (λ (p : Pair). p.left_shape.flavor) is_pair

  -- The product of two values is that of the conformed values, as two values of the conformed left one's shape.
  pub as_conformed : multiplied mode s t a b room ≡ multiplied mode both.left_shape both.left_shape both.left_coefs both.right_coefs room
  as_conformed =
      multiplied_done s t a b mode room done
      ∙ sym (ap (λ (p : Pair). multiplied_of mode p.left_shape p.left_coefs p.right_coefs) is_pair)
      ∙ sym (multiplied_same mode both.left_shape both.left_coefs both.right_coefs room conformed_fitting conformed_many.0 conformed_many.1)

  -- What each coefficient of a value has, each coefficient of the conformed value has.
  keeps : (P Q : Float → Type 0) → Kept P → Kept Q → Each P s.dims a → Each Q t.dims b → Each P both.left_shape.dims both.left_coefs × Each Q both.left_shape.dims both.right_coefs
  unfolding conformed_shape
  keeps P Q p q x y =
      rw is_pair
      (conformed_has P p (up s t a b) s.dims (meeting_dims s t) a (promotes_le _ _) x, conformed_has Q q (up_right s t a b) t.dims (meeting_dims s t) b (promotes_le _ _) y)

  pub conformed_holds : Holds s.dims a → Holds t.dims b → Holds both.left_shape.dims both.left_coefs × Holds both.left_shape.dims both.right_coefs
  conformed_holds u v =
      let k = keeps _ _ fits_kept fits_kept u.held v.held in
      (record { many = conformed_many.0; held = k.0 }, record { many = conformed_many.1; held = k.1 })

  pub conformed_bounds : InBounds s.dims a → InBounds t.dims b → InBounds both.left_shape.dims both.left_coefs × InBounds both.left_shape.dims both.right_coefs
  conformed_bounds = keeps (Sized 400) (Sized 400) sized_kept sized_kept

  pub conformed_multiples : (p q : ℕ) → Multiples p s.dims a → Multiples q t.dims b → Multiples p both.left_shape.dims both.left_coefs × Multiples q both.left_shape.dims both.right_coefs
  conformed_multiples p q = keeps (Whole p) (Whole q) (whole_kept p) (whole_kept q)
