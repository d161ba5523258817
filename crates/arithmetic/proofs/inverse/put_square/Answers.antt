use mathlib.Core.Path.{◌≡◌, ap, ◌∙◌}
use mathlib.Core.List.{List}
use Prim.Native.Nat.{ℕ, ◌^◌}
use lib.Ieee.{Float}
use lib.ListN.{length}
use Rattle.std.specs.Prelude.{Result}
use Rattle.masks.specs.declared.outcome.Refusal.{Refusal}
use Rattle.masks.specs.declared.shape.Shape.{Shape}
use Rattle.masks.specs.Outcome.{laid}
use Rattle.product.specs.declared.mode.Mode.TheVariants.{All}
use Rattle.product.specs.declared.outcome.Product.{Product}
use Rattle.product.specs.Accuracy.{Fitting}
use Rattle.product.specs.Given.{multiplied_by}
use Rattle.product.specs.Products.{Counted, GivesProduct}
use Rattle.product.proofs.ProductsGiven.{multiplied_ordered}
use Rattle.product.proofs.ProductsLaws.{multiplied_same}
use Rattle.arithmetic.specs.inner.Given.{InOrder}
use Rattle.arithmetic.specs.Inverse.{square_of}
use Rattle.arithmetic.proofs.OrderPassed.{passed_same}
use Rattle.arithmetic.proofs.inverse.put_square.Goals as goal

by_itself : (given : List ℕ) (s : Shape) (x out after : List Float) (r : Result Product Refusal) → InOrder given s.dims → Fitting s (length out) → length x ≡ 2 ^ s.dims
    → GivesProduct (multiplied_by given All s s x x (length out)) r out after → after ≡ laid (square_of s x) out
by_itself given s x out after r h f l g =
    g.left
    ∙ ap (λ (o : Counted). laid o.outcome.coefs out) (multiplied_ordered All s s x x (length out) given (passed_same s given h) ∙ multiplied_same All s x x (length out) f l l)

pub returns : goal.returns
returns c = by_itself c.args.given.now c.args.value.shape c.args.value.numbers.now c.args.out.now _ _ c.requires.in_order (record { small = c.args.value.small; roomy = c.requires.room }) c.args.value.counted c.multiply.ensures
