use mathlib.Core.Path.{◌≡◌, ap, ◌∙◌}
use mathlib.Core.List.{List}
use native.Mathlib.Omega.{arith}
use lib.Ieee.{Float, binary64}
use lib.Pow.{pow_mono}
use Rattle.masks.specs.Outcome.{laid}
use Rattle.product.specs.Pairwise.{mask_at}
use Rattle.product.specs.Given.{given_mask, product_by}
use Rattle.product.proofs.GivenLaws.{by_enough, by_few}
use Rattle.product.proofs.products.fill.Goals.{Else-a-given}
use Rattle.product.proofs.products.fill.Goals as goal

-- Where too few masks are given, what is made by the order's is the product.
few : (c : Else-a-given) (after : List Float) →
    let a = c.args in
    let d = a.shape.dims in
    after ≡ laid (product_by (mask_at d) d a.mode a.shape.flavor binary64 a.a.now a.b.now) a.out.now
    → after ≡ laid (product_by (given_mask a.given.now d) d a.mode a.shape.flavor binary64 a.a.now a.b.now) a.out.now
few c after q =
    let a = c.args in
    q ∙ ap (λ (l : List Float). laid l a.out.now) (by_few a.given.now a.shape.dims a.mode a.shape.flavor binary64 a.a.now a.b.now (omega (arith, c.requires.1)))

pub returns-then-a-given : goal.returns-then-a-given
returns-then-a-given c =
    let a = c.args in
    c.fill_given.ensures
    ∙ ap (λ (l : List Float). laid l a.out.now) (by_enough a.given.now a.shape.dims a.mode a.shape.flavor binary64 a.a.now a.b.now (omega (arith, c.requires.1)))

pub fill_ordered-requires-clause-room : goal.fill_ordered-requires-clause-room
fill_ordered-requires-clause-room c = (pow_mono {j = 6} c.if-shape-le6.true, omega arith)

pub returns-then-shape-le6 : goal.returns-then-shape-le6
returns-then-shape-le6 c = few (goal.at.returns-then-shape-le6 c).Else-a-given _ c.fill_ordered.ensures

pub fill_ordered-requires-else-shape-le6-clause-room : goal.fill_ordered-requires-else-shape-le6-clause-room
fill_ordered-requires-else-shape-le6-clause-room c = (pow_mono {j = 9} c.requires.0, omega arith)

pub returns-else-shape-le6 : goal.returns-else-shape-le6
returns-else-shape-le6 c = few (goal.at.returns-else-shape-le6 c).Else-a-given _ c.fill_ordered-else-shape-le6.ensures
