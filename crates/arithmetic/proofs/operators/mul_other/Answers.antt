use mathlib.Core.Path.{ap, subst}
use mathlib.Core.List.{List}
use Prim.Native.Nat.{ℕ}
use lib.Ieee.{Float}
use lib.ListN.{length}
use Rattle.std.specs.Prelude.{Result, Ok, Err}
use Rattle.std.proofs.lemmas.Result.{err_from_is_err_and}
use Rattle.masks.specs.declared.outcome.Refusal.{Refusal}
use Rattle.masks.specs.declared.shape.Shape.{Shape}
use Rattle.masks.specs.Outcome.{Gives}
use Rattle.masks.specs.Shape.{meeting_dims}
use Rattle.product.specs.declared.mode.Mode.TheVariants.{All}
use Rattle.product.specs.declared.outcome.Product.{Product}
use Rattle.product.specs.Given.{multiplied_by}
use Rattle.product.specs.Products.{Counted, GivesProduct, general_product}
use Rattle.product.proofs.ProductsGiven.{multiplied_ordered}
use Rattle.arithmetic.specs.inner.Given.{InOrder}
use Rattle.arithmetic.proofs.operators.mul_other.Goals as goal

-- The masks that are given are the order's.
module _ (given : List ℕ) (s t : Shape) (a b before after : List Float) (h : InOrder given (meeting_dims s t)) where
  abbrev general : Counted
  general = general_product s t a b (length before)

  ordered : (r : Result Product Refusal) → GivesProduct (multiplied_by given All s t a b (length before)) r before after → GivesProduct general r before after
  ordered r g = subst (λ (o : Counted). GivesProduct o r before after) (multiplied_ordered All s t a b (length before) given h) g

  gives_shape : (p : Product) → GivesProduct (multiplied_by given All s t a b (length before)) (Ok p) before after → Gives general.outcome (Ok p.shape) before after
  gives_shape p g =
      let o = ordered (Ok p) g in
      record { answered = (o.answered.0, ap (λ (q : Product). q.shape) o.answered.1); left = o.left }

  gives_refusal : (e : Refusal) → GivesProduct (multiplied_by given All s t a b (length before)) (Err e) before after → Gives general.outcome (Err e) before after
  gives_refusal e g = let o = ordered (Err e) g in record { answered = o.answered; left = o.left }

pub returns-in_err-p : goal.returns-in_err-p
returns-in_err-p c =
    let a = c.args in
    let p = err_from_is_err_and c.from_residual.result c.from_residual.ensures.1 in
    rw (p.1, p.2) (gives_refusal a.given.now a.left a.right a.a.now a.b.now a.out.now _ c.requires _ c.in_err-p.ensures)

pub returns : goal.returns
returns c =
    let a = c.args in
    gives_shape a.given.now a.left a.right a.a.now a.b.now a.out.now _ c.requires _ c.in_ok-p.ensures
