use mathlib.Core.Path.{ap₂}
use lib.ListN.{length}
use Rattle.std.proofs.Common.{rules}
use Rattle.masks.specs.declared.shape.Shape.{Shape}
use Rattle.arithmetic.specs.Dual.{regressive_product}
use Rattle.exports.proofs.ReportsLaws.{value_reported}
use Rattle.exports.proofs.values.thresholm_regressive_product.Goals as goal

pub returns : goal.returns
returns c =
    let given = c.args in
    value_reported (ap₂ (λ (s : Shape) (t : Shape). regressive_product s t given.a.now given.b.now (length given.out.now)) c.shape_from.ensures c.shape_from-2.ensures) c.regressive_product-answer.ensures (λ s p. search rules) c.report.ensures
