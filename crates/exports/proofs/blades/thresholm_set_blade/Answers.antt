use mathlib.Core.Path.{ap}
use lib.ListN.{length}
use Rattle.std.proofs.Common.{rules}
use Rattle.masks.specs.declared.shape.Shape.{Shape}
use Rattle.masks.specs.Blade.{set_blade}
use Rattle.exports.proofs.ReportsLaws.{value_reported}
use Rattle.exports.proofs.blades.thresholm_set_blade.Goals as goal

pub returns : goal.returns
returns c =
    let given = c.args in
    value_reported (ap (λ (s : Shape). set_blade s given.mask given.x given.a.now (length given.out.now)) c.shape_from.ensures) c.set_blade-answer.ensures (λ s p. search rules) c.report.ensures
