use mathlib.Core.Path.{ap₂}
use lib.ListN.{length}
use Rattle.std.proofs.Common.{rules}
use Rattle.masks.specs.declared.shape.Shape.{Shape}
use Rattle.product.specs.Products.{general_product}
use Rattle.exports.proofs.ReportsLaws.{product_reported}
use Rattle.exports.proofs.products.thresholm_general_product.Goals as goal

pub returns : goal.returns
returns c =
    let given = c.args in
    product_reported (ap₂ (λ (s : Shape) (t : Shape). general_product s t given.a.now given.b.now (length given.out.now)) c.shape_from.ensures c.shape_from-2.ensures) c.general_product-product.ensures (λ x p. search rules) c.report_two.ensures
