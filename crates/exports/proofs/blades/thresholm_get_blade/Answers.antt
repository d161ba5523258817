use mathlib.Core.Path.{ap}
use lib.Ieee.{Float}
use Rattle.std.proofs.Common.{rules}
use Rattle.masks.specs.declared.shape.Shape.{Shape}
use Rattle.masks.specs.Outcome.{Real}
use Rattle.masks.specs.Blade.{get_blade}
use Rattle.exports.proofs.ReportsLaws.{same_reported}
use Rattle.exports.proofs.blades.thresholm_get_blade.Goals as goal

pub returns : goal.returns
returns c =
    let given = c.args in
    same_reported (λ (o : Real). o.number) (λ (o : Real). o.value) (λ (x : Float). x) _ _ _ _ (ap (λ (s : Shape). get_blade s given.mask given.a.now) c.shape_from.ensures) c.get_blade.ensures (λ x p. search rules) c.report.ensures
