use mathlib.Core.Path.{ap, ◌∙◌}
use mathlib.Core.List.{List, map}
use Prim.Native.Nat.{ℕ}
use Rattle.std.proofs.Common.{rules}
use Rattle.masks.specs.ShapeBytes.{shape_from}
use Rattle.sheets.specs.Shapes.{shapes_of, said_shapes}
use Rattle.sheets.proofs.BytesLaws.{chunks_are}
use Rattle.sheets.proofs.shapes.shapes_from.Goals as goal

pub returns : goal.returns
unfolding said_shapes
returns c =
    c.shapes_by.ensures shape_from (λ i d y h r. search rules)
    ∙ ap (λ (cs : List (List ℕ)). shapes_of (map shape_from cs)) (c.as_chunks.ensures.front ∙ chunks_are 6 _ c.args.bytes.now)
