use lib.ListN.{length}
use Rattle.product.specs.declared.mode.Mode.TheVariants.{Inner}
use Rattle.product.proofs.ProductsGiven.{gives_none}
use Rattle.product.proofs.products.inner_product.Goals as goal

pub returns : goal.returns
returns c =
    let a = c.args in
    gives_none Inner a.left a.right a.a.now a.b.now (length a.out.now) c.multiply.result a.out.now _ c.multiply.ensures
