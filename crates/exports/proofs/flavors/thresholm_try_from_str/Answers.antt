use mathlib.Core.Path.{refl}
use Rattle.std.proofs.Common.{rules}
use Rattle.masks.specs.declared.flavor.Flavor.{Flavor}
use Rattle.masks.specs.Outcome.{shape_of}
use Rattle.masks.specs.ShapeBytes.{shape_bytes}
use Rattle.masks.specs.Text.{Read}
use Rattle.exports.proofs.ReportsLaws.{same_reported}
use Rattle.exports.proofs.flavors.thresholm_try_from_str.Goals as goal

pub returns : goal.returns
returns c =
    same_reported (λ (o : Read). o.number) (λ (o : Read). o.flavor) (λ (f : Flavor). shape_bytes (shape_of 0 f)) _ _ _ _ refl c.try_from_str.ensures (λ f p. search rules) c.report.ensures
