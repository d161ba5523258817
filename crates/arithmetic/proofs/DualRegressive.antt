-- What the proofs of duals and the regressive product share: the pseudo unit, what the duals write, and the tests of the regressive product. Assumes nothing.
use mathlib.Core.Path.{◌≡◌, refl, sym, ap, ap₂, ◌∙◌, subst}
use mathlib.Core.List.{List, [], ◌∷◌}
use Prim.Native.Nat.{ℕ, ◌^◌, ◌≤◌}
use native.Mathlib.Nat.{add-zero, le_refl}
use native.Mathlib.Omega.{arith}
use lib.Ieee.{Float, binary64}
use lib.ListN.{length, take}
use Rattle.std.specs.Prelude.{Result, Ok, Err}
use Rattle.masks.specs.declared.flavor.Flavor.TheVariants.{Vanilla}
use Rattle.masks.specs.declared.shape.Shape.{Shape}
use Rattle.masks.specs.declared.outcome.Refusal.{Refusal}
use Rattle.masks.specs.Outcome.{Outcome, Gives, refusal, number_of, value, shape_of, laid}
use Rattle.masks.specs.Flavor.{added_dims}
use Rattle.masks.specs.Shape.{conformed_shape, meeting_dims}
use Rattle.masks.specs.Build.{pseudoscalar}
use Rattle.masks.proofs.ListLaws.{take_laid}
use Rattle.masks.proofs.OrderLaws.{blades_le}
use Rattle.masks.proofs.OutcomeLaws.{refuses, gives_refused, gives_ok, Passed}
use Rattle.masks.proofs.BuildLaws.{size_last, grade_fits, length_grade_set, one_built}
use Rattle.product.specs.declared.mode.Mode.TheVariants.{All, Outer}
use Rattle.product.specs.declared.outcome.Product.{Product}
use Rattle.product.specs.Given.{multiplied_by}
use Rattle.product.specs.Products.{Counted, GivesProduct, multiplied_of, product_tests, outer_product}
use Rattle.product.proofs.ProductsRefusals.{pair_accepted, pair}
use Rattle.product.proofs.PairwiseLaws.{product_length}
use Rattle.product.proofs.ProductsLaws.{multiplied_same, multiplied_done}
use Rattle.product.proofs.ProductsGiven.{multiplied_ordered}
use Rattle.arithmetic.specs.Scale.{unity}
use Rattle.arithmetic.specs.Operators.{with_coefs, multiplication}
use Rattle.arithmetic.specs.Dual.{ample, pseudo_unit, dual_of, antidual_of, regressive_product}
use Rattle.arithmetic.specs.inner.Given.{InOrder}
use Rattle.arithmetic.proofs.OperatorsLaws.{multiply_same}
use Rattle.arithmetic.proofs.OrderPassed.{passed_vanilla}

-- ---- the pseudo unit

pub unit_length : (d : ℕ) → length (pseudo_unit d) ≡ 2 ^ d
unit_length d = length_grade_set d d (unity ∷ []) (grade_fits d d 1 (le_refl d) (size_last d))

unit_built : (d room : ℕ) → d ≤ 9 → 2 ^ d ≤ room → pseudoscalar d unity Vanilla room ≡ value (shape_of d Vanilla) (pseudo_unit d)
unfolding pseudoscalar added_dims
unit_built d room h m = rw (add-zero d) (one_built d d (unity ∷ []) Vanilla room h m)

-- ---- what `dual` and `antidual` write, whatever the room: the pseudo unit is built at the front of an array that is long enough

module _ (d : ℕ) (a : List Float) (h : d ≤ 9) (e : length a ≡ 2 ^ d) (v : Shape) (w : v ≡ shape_of d Vanilla) (u : Result Shape Refusal) (array held : List Float) (long : length a ≤ length array)
    (built : Gives (pseudoscalar d unity Vanilla (length array)) u array held) where
  unit_part : take (length a) held ≡ pseudo_unit d
  unit_part =
      ap (take (length a)) (built.left ∙ ap (λ (o : Outcome). laid o.coefs array) (unit_built d (length array) h (omega arith)))
      ∙ take_laid (length a) (pseudo_unit d) array (unit_length d ∙ sym e)

  module _ (before after : List Float) (m : 2 ^ d ≤ length before) where
    pub dual_laid : (given : List ℕ) → InOrder given d → (r : Result Product Refusal) → GivesProduct (multiplied_by given All v v a (take (length a) held) (length before)) r before after → after ≡ laid (dual_of d a) before
    unfolding dual_of
    dual_laid given ordered r g =
        (rw (w, unit_part) at g).left
        ∙ ap (λ (o : Counted). laid o.outcome.coefs before)
        (multiplied_ordered All (shape_of d Vanilla) (shape_of d Vanilla) a (pseudo_unit d) (length before) given (passed_vanilla given d (shape_of d Vanilla) refl ordered)
        ∙ multiplied_same All (shape_of d Vanilla) a (pseudo_unit d) (length before) (record { small = h; roomy = m }) e (unit_length d))

    pub antidual_laid : (r : Result Shape Refusal) → Gives (multiplication v v (take (length a) held) a (length before)) r before after → after ≡ laid (antidual_of d a) before
    unfolding antidual_of
    antidual_laid r g =
        (rw (w, unit_part) at g).left
        ∙ ap (λ (o : Outcome). laid o.coefs before)
        (multiply_same (shape_of d Vanilla) (pseudo_unit d) a (length before) (record { small = h; counted = unit_length d; roomy = m }) e
        ∙ sym (multiply_same (shape_of d Vanilla) (pseudo_unit d) a ample (record { small = h; counted = unit_length d; roomy = blades_le d h }) e))

pub dual_length : (d : ℕ) (a : List Float) → length (dual_of d a) ≡ 2 ^ d
unfolding dual_of
dual_length d a = product_length All Vanilla d binary64 a (pseudo_unit d)

-- A dual that stands at the front of an array.
dual_part : (n d : ℕ) (a before after : List Float) → n ≡ 2 ^ d → after ≡ laid (dual_of d a) before → take n after ≡ dual_of d a
dual_part n d a before after e q = ap (take n) q ∙ take_laid n (dual_of d a) before (dual_length d a ∙ sym e)

-- ---- the regressive product

module _ (s t : Shape) (a b : List Float) (room : ℕ) where
  -- What the regressive product may rest on where it is not refused.
  abbrev pub Meets : Type 0
  Meets = Passed s.dims t.dims (meeting_dims s t) (length a) (length b) room

  pub meeting_refused : (e : Refusal) (out : List Float) → refusal (product_tests s t a b room) ≡ number_of e → Gives (regressive_product s t a b room) (Err e) out out
  unfolding regressive_product
  meeting_refused e out h = gives_refused (refusal (product_tests s t a b room)) e _ out h

  pub meeting_done : Meets → refusal (product_tests s t a b room) ≡ 0
  meeting_done = pair_accepted s.dims t.dims (meeting_dims s t) (length a) (length b) room

-- The outer product of the duals of two values that meet, in room for any value.
module _ (s t : Shape) (a b : List Float) (room : ℕ) (m : Meets s t a b room) where
  abbrev x : List Float
  x = dual_of s.dims a

  abbrev y : List Float
  y = dual_of t.dims b

  abbrev outer : Outcome
  outer = (outer_product s t x y ample).outcome

  -- It is not refused.
  outer_tests : (wide : ℕ) → 2 ^ meeting_dims s t ≤ wide → refusal (product_tests s t x y wide) ≡ 0
  outer_tests wide h =
      pair_accepted s.dims t.dims (meeting_dims s t) (length x) (length y) wide
      (record {
        small = m.small;
        small_right = m.small_right;
        result = m.result;
        counted = dual_length s.dims a;
        counted_right = dual_length t.dims b;
        roomy = h;
      })

  outer_in : (wide : ℕ) → 2 ^ meeting_dims s t ≤ wide → outer_product s t x y wide ≡ multiplied_of Outer (pair s t x y).left_shape (pair s t x y).left_coefs (pair s t x y).right_coefs
  outer_in wide h = multiplied_done s t x y Outer wide (outer_tests wide h)

  outer_ample : outer_product s t x y ample ≡ multiplied_of Outer (pair s t x y).left_shape (pair s t x y).left_coefs (pair s t x y).right_coefs
  outer_ample = outer_in ample (blades_le (meeting_dims s t) m.result)

  outer_is : outer ≡ (multiplied_of Outer (pair s t x y).left_shape (pair s t x y).left_coefs (pair s t x y).right_coefs).outcome
  outer_is = ap (λ (o : Counted). o.outcome) outer_ample

  outer_dims : outer.shape.dims ≡ meeting_dims s t
  unfolding conformed_shape
  outer_dims = ap (λ (o : Outcome). o.shape.dims) outer_is

  outer_length : length outer.coefs ≡ 2 ^ outer.shape.dims
  outer_length =
      let u = (pair s t x y).left_shape in
      ap (λ (o : Outcome). length o.coefs) outer_is ∙ product_length Outer u.flavor u.dims binary64 _ _ ∙ ap (λ (o : Outcome). 2 ^ o.shape.dims) (sym outer_is)

  -- The code has the duals at the fronts of two arrays, and their product, by masks that are in order, at the front of a third.
  module _ (given : List ℕ) (ordered : InOrder given (meeting_dims s t)) (bx ax by ay bz az : List Float) (long : 2 ^ meeting_dims s t ≤ length bz) (ex : ax ≡ laid x bx) (ey : ay ≡ laid y by) where
    abbrev Held : Result Product Refusal → Type 0
    Held r = GivesProduct (multiplied_by given Outer s t (take (length a) ax) (take (length b) ay) (length bz)) r bz az

    gives_outer : (r : Result Product Refusal) → Held r → GivesProduct (outer_product s t x y ample) r bz az
    gives_outer r g =
        subst (λ (o : Counted). GivesProduct o r bz az)
        (multiplied_ordered Outer s t x y (length bz) given ordered ∙ outer_in (length bz) long ∙ sym outer_ample)
        (rw (dual_part (length a) s.dims a bx ax m.counted ex, dual_part (length b) t.dims b by ay m.counted_right ey) at g)

    pub never_refused : (e : Refusal) → Held (Err e) → ⊥
    never_refused e g = refuses e (sym (gives_outer (Err e) g).answered ∙ ap (λ (o : Outcome). o.number) outer_is)

    module _ (p : Product) (g : Held (Ok p)) where
      shape_is : p.shape ≡ outer.shape
      shape_is = ap (λ (q : Product). q.shape) (gives_outer (Ok p) g).answered.1

      pub meeting_shape : p.shape.dims ≡ meeting_dims s t
      meeting_shape = ap (λ (u : Shape). u.dims) shape_is ∙ outer_dims

      outer_part : (n : ℕ) → n ≡ 2 ^ p.shape.dims → take n az ≡ outer.coefs
      outer_part n e =
          ap (take n) (gives_outer (Ok p) g).left ∙ take_laid n outer.coefs bz (outer_length ∙ ap (λ (u : Shape). 2 ^ u.dims) (sym shape_is) ∙ sym e)

      pub gives_regressive : (n : ℕ) (before after : List Float) → n ≡ 2 ^ p.shape.dims → after ≡ laid (antidual_of p.shape.dims (take n az)) before
          → Gives (regressive_product s t a b room) (Ok p.shape) before after
      unfolding regressive_product
      gives_regressive n before after e l =
          gives_ok (refusal (product_tests s t a b room)) (with_coefs (antidual_of outer.shape.dims) outer) p.shape before after (meeting_done s t a b room m)
          (ap (λ (o : Outcome). o.number) outer_is) shape_is
          (l ∙ ap₂ (λ (u : Shape) (c : List Float). laid (antidual_of u.dims c) before) shape_is (outer_part n e))
