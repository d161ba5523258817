use mathlib.Core.Path.{ap, ◌∙◌}
use mathlib.Core.List.{map}
use native.Mathlib.Omega.{arith}
use lib.ListN.{take}
use Rattle.masks.specs.Outcome.{laid}
use Rattle.sheets.proofs.ItemsLaws.{made_take}
use Rattle.sheets.proofs.ShapesLaws.{made_shapes}
use Rattle.sheets.proofs.shapes.shapes_by.Goals as goal

pub returns : goal.returns
returns g c h made =
    let a = c.args in
    let xs = a.items.now in
    let n = c.min.result in
    made_shapes h xs n c.put_made.new.out (omega (arith, c.min.ensures))
    (c.put_made.ensures h (made_take (goal.F-post g a.f) h xs n made) ∙ ap (laid (map h (take n xs))) c.blank_shapes-held.ensures)
