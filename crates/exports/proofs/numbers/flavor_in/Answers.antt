use mathlib.Core.Path.{ap}
use Rattle.masks.specs.declared.shape.Shape.{Shape}
use Rattle.exports.proofs.numbers.flavor_in.Goals as goal

pub returns : goal.returns
returns c = ap (λ (s : Shape). s.flavor) c.shape_from-shape.ensures
