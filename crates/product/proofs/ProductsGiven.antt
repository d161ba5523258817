-- A product by given masks: what it is made of, and that it is the product where the masks are the order's. Assumes nothing.
use mathlib.Core.Path.{◌≡◌, refl, sym, ap, ◌∙◌, subst}
use mathlib.Core.List.{List, []}
use Prim.Native.Nat.{ℕ, zero, suc, ◌^◌, ◌≤◌, ◌<◌}
use native.Mathlib.Omega.{arith}
use lib.Ieee.{Float, binary64}
use lib.ListN.{length}
use lib.Pow.{pow_pos}
use Rattle.std.specs.Prelude.{Result}
use Rattle.masks.specs.declared.outcome.Refusal.{Refusal}
use Rattle.masks.specs.declared.shape.Shape.{Shape}
use Rattle.masks.specs.Order.{order}
use Rattle.masks.specs.Outcome.{laid, refusal, value}
use Rattle.masks.specs.Shape.{conformed_shape, meeting_dims}
use Rattle.product.specs.declared.mode.Mode.{Mode}
use Rattle.product.specs.declared.outcome.Product.{Product}
use Rattle.product.specs.Pairwise.{mask_at, pairs_of}
use Rattle.product.specs.Given.{given_mask, multiplied_by_of, multiplied_by}
use Rattle.product.specs.Products.{Counted, GivesProduct, multiplied_of, product_tests, multiplied}
use Rattle.product.proofs.GivenLaws.{by_masks, given_few, given_order}
use Rattle.product.proofs.ProductsRefusals.{Of, made, made_refused, pair}
use Rattle.product.proofs.ProductsLaws.{made_done}

-- ---- what both products are made of

module _ (mode : Mode) (s t : Shape) (a b : List Float) (room : ℕ) where
  pub multiplied_by_made : (given : List ℕ) → multiplied_by given mode s t a b room ≡ made (multiplied_by_of given mode) s t a b room
  unfolding multiplied_by made
  multiplied_by_made given = refl

  multiplied_made : multiplied mode s t a b room ≡ made (multiplied_of mode) s t a b room
  unfolding multiplied made
  multiplied_made = refl

-- Products that are the same of the conformed values are the same.
made_same : (of by : Of) (s t : Shape) (a b : List Float) (room : ℕ)
    → of (pair s t a b).left_shape (pair s t a b).left_coefs (pair s t a b).right_coefs ≡ by (pair s t a b).left_shape (pair s t a b).left_coefs (pair s t a b).right_coefs
    → made of s t a b room ≡ made by s t a b room
made_same of by s t a b room e = go (refusal (product_tests s t a b room)) refl
  where
    go : (k : ℕ) → refusal (product_tests s t a b room) ≡ k → made of s t a b room ≡ made by s t a b room
    go zero z = made_done s t a b of room z ∙ e ∙ sym (made_done s t a b by room z)
    go (suc k) z = made_refused of s t a b room (suc k) (sym z) (λ q. omega arith) ∙ sym (made_refused by s t a b room (suc k) (sym z) (λ q. omega arith))

-- ---- the masks of the order

of_ordered : (given : List ℕ) (mode : Mode) (s : Shape) (a b : List Float) → ((i : ℕ) → i < 2 ^ s.dims → given_mask given s.dims i ≡ mask_at s.dims i) → multiplied_by_of given mode s a b ≡ multiplied_of mode s a b
of_ordered given mode s a b h =
    ap (λ (l : List Float). record { outcome = value s l; pairs = pairs_of mode s.flavor s.dims }) (by_masks (given_mask given s.dims) s.dims h mode s.flavor binary64 a b)

module _ (mode : Mode) (s t : Shape) (a b : List Float) (room : ℕ) where
  pub multiplied_ordered : (given : List ℕ) → ((i : ℕ) → i < 2 ^ meeting_dims s t → given_mask given (meeting_dims s t) i ≡ mask_at (meeting_dims s t) i) → multiplied_by given mode s t a b room ≡ multiplied mode s t a b room
  unfolding conformed_shape
  multiplied_ordered given h =
      multiplied_by_made mode s t a b room given
      ∙ made_same (multiplied_by_of given mode) (multiplied_of mode) s t a b room (of_ordered given mode (pair s t a b).left_shape _ _ h)
      ∙ sym (multiplied_made mode s t a b room)

  -- An empty list of masks is too few: the order's are used.
  pub multiplied_none : multiplied_by [] mode s t a b room ≡ multiplied mode s t a b room
  multiplied_none = multiplied_ordered [] (λ i h. sym (given_few [] (meeting_dims s t) i (pow_pos (meeting_dims s t))))

  -- The masks are what `put_order` writes.
  pub multiplied_laid : (before : List ℕ) → 2 ^ meeting_dims s t ≤ length before → multiplied_by (laid (order (meeting_dims s t)) before) mode s t a b room ≡ multiplied mode s t a b room
  multiplied_laid before l = multiplied_ordered (laid (order (meeting_dims s t)) before) (λ i h. given_order (meeting_dims s t) before i l h)

-- ---- what a call gives

module _ (mode : Mode) (s t : Shape) (a b : List Float) (room : ℕ) (r : Result Product Refusal) (before after : List Float) where
  pub gives_made : (given : List ℕ) → GivesProduct (made (multiplied_by_of given mode) s t a b room) r before after → GivesProduct (multiplied_by given mode s t a b room) r before after
  gives_made given g = subst (λ (o : Counted). GivesProduct o r before after) (sym (multiplied_by_made mode s t a b room given)) g

  pub gives_none : GivesProduct (multiplied_by [] mode s t a b room) r before after → GivesProduct (multiplied mode s t a b room) r before after
  gives_none g = subst (λ (o : Counted). GivesProduct o r before after) (multiplied_none mode s t a b room) g
