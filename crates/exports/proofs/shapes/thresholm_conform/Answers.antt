use mathlib.Core.Path.{ap₂}
use lib.ListN.{length}
use Rattle.std.proofs.Common.{rules}
use Rattle.masks.specs.declared.shape.Shape.{Shape}
use Rattle.masks.specs.Shape.{conform}
use Rattle.exports.proofs.ReportsLaws.{pair_reported}
use Rattle.exports.proofs.shapes.thresholm_conform.Goals as goal

pub returns : goal.returns
returns c =
    let given = c.args in
    pair_reported (ap₂ (λ (s : Shape) (t : Shape). conform s t given.a.now given.b.now (length given.out.now) (length given.out_right.now)) c.shape_from.ensures c.shape_from-2.ensures) c.conform-answers.ensures (λ s p. search rules) c.report_two.ensures
