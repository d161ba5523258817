use lib.ListN.{length}
use Rattle.product.specs.declared.mode.Mode.TheVariants.{Outer}
use Rattle.product.proofs.ProductsGiven.{gives_none}
use Rattle.product.proofs.products.outer_product.Goals as goal

pub returns : goal.returns
returns c =
    let a = c.args in
    gives_none Outer a.left a.right a.a.now a.b.now (length a.out.now) c.multiply.result a.out.now _ c.multiply.ensures
