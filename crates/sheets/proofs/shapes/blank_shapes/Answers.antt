use mathlib.Core.Path.{ap}
use lib.ListN.{replicate}
use Rattle.sheets.specs.Shapes.{blank_shapes}
use Rattle.sheets.proofs.shapes.blank_shapes.Goals as goal

pub returns : goal.returns
unfolding blank_shapes
returns c = ap (replicate 64) c.shape_of.ensures
