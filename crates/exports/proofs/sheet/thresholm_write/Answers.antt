use mathlib.Core.Path.{ap, ◌∙◌}
use lib.ListN.{length}
use Rattle.std.proofs.Common.{rules}
use Rattle.sheets.specs.declared.shapes.Shapes.{Shapes}
use Rattle.sheets.specs.Write.{write_sheet}
use Rattle.exports.proofs.SheetLaws.{write_kept, write_done}
use Rattle.exports.proofs.ReportsLaws.{list_reported}
use Rattle.exports.proofs.sheet.thresholm_write.Goals as goal

pub returns-in-Err : goal.returns-in-Err
returns-in-Err c =
    let a = c.args in
    write_kept a.shapes.now c.in-Err.refusal c.in-Err.ensures _ a.patterns.now a.out.now a.to_count.now c.number.ensures

pub returns : goal.returns
returns c =
    let a = c.args in
    let made = ap (λ (ss : Shapes). write_sheet ss a.patterns.now (length a.out.now)) c.shapes_from.ensures in
    list_reported (made ∙ write_done a.shapes.now c.in_default.ensures.0 a.patterns.now (length a.out.now)) c.write-written.ensures (λ k p. search rules) c.report.ensures
