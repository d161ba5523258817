use Rattle.masks.specs.ShapeBytes.{shape_from}
use Rattle.sheets.proofs.shapes.shape_at.Goals as goal

pub returns : goal.returns
unfolding shape_from
returns c = c.shape_from.ensures
