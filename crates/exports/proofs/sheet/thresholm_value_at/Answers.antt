use mathlib.Core.Path.{ap, ◌∙◌}
use mathlib.Core.List.{List}
use Prim.Native.Nat.{ℕ}
use Rattle.std.proofs.Common.{rules}
use Rattle.masks.specs.ShapeBytes.{shape_bytes}
use Rattle.sheets.specs.declared.shapes.Shapes.{Shapes}
use Rattle.sheets.specs.declared.values.Placed.{Placed}
use Rattle.sheets.specs.Values.{PlaceOutcome, value_at}
use Rattle.exports.proofs.SheetLaws.{value_kept, value_done}
use Rattle.exports.proofs.ReportsLaws.{same_reported}
use Rattle.exports.proofs.sheet.thresholm_value_at.Goals as goal

abbrev face : Placed → List ℕ × ℕ
face x = (shape_bytes x.shape, x.start)

pub returns-in-Err : goal.returns-in-Err
returns-in-Err c =
    let a = c.args in
    value_kept a.shapes.now c.in-Err.refusal c.in-Err.ensures _ a.index (a.to_shape.now, a.to_start.now) c.number.ensures

pub returns : goal.returns
returns c =
    let a = c.args in
    let made = ap (λ (ss : Shapes). value_at ss a.index) c.shapes_from.ensures in
    same_reported (λ (o : PlaceOutcome). o.number) (λ (o : PlaceOutcome). o.place) face _ _ _ _ (made ∙ value_done a.shapes.now c.in_default.ensures.0 a.index) c.value_at-placed.ensures (λ x p. search rules) c.report_two.ensures
