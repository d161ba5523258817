use mathlib.Core.Path.{ap, ◌∙◌}
use mathlib.Core.List.{[], ◌∷◌, ◌++◌}
use native.Mathlib.Omega.{arith}
use lib.ListN.{length}
use lib.Seq.{sets}
use Rattle.std.proofs.Common.{rules}
use Rattle.masks.specs.ShapeBytes.{shape_bytes}
use Rattle.sheets.specs.Bytes.{all_bytes}
use Rattle.sheets.specs.Format.{shape_in}
use Rattle.sheets.proofs.ShapesLaws.{padded_first, padded_length, list_refused, list_done}
use Rattle.sheets.proofs.shapes.shapes_to.Goals as goal

pub returns-then-out-size : goal.returns-then-out-size
returns-then-out-size c =
    list_refused c.args.shapes c.args.out.now (omega (arith, c.if-out-size.true, ap length c.listed-listed.ensures))

pub returns : goal.returns
returns c =
    let s = c.args.shapes in
    let out = c.args.out.now in
    list_done s _ out _ (omega (arith, ap length c.listed-listed.ensures)) c.if-out-size.false
    (c.put_bytes.ensures (λ v. shape_bytes v ++ 0 ∷ 0 ∷ []) (λ i d y h r. search rules) padded_length
    ∙ ap (sets out 0) (padded_first 6 (omega arith) c.listed-listed.result.now ∙ ap (all_bytes (shape_in 6)) c.listed-listed.ensures))
