use mathlib.Core.Path.{ap, ◌∙◌}
use lib.ListN.{get_or}
use Rattle.masks.specs.Outcome.{shape_of}
use Rattle.masks.specs.ShapeBytes.{shape_from}
use Rattle.masks.proofs.shape_bytes.shape_from.Goals as goal

pub returns : goal.returns
unfolding shape_from
returns c =
    let given = c.args in
    c.shape_of.ensures ∙ ap (shape_of (get_or given.bytes.now 0 0)) c.flavor_from.ensures
