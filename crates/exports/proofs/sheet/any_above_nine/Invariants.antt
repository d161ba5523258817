use mathlib.Core.Path.{◌≡◌}
use mathlib.Core.Bool.{false}
use lib.ListN.{take}
use Rattle.sheets.specs.Format.{any_above_nine}
use Rattle.sheets.specs.Shapes.{said_shapes}
use Rattle.exports.proofs.sheet.any_above_nine.Given as goal

abbrev pub invariant-loop-i : goal.invariant-loop-i
invariant-loop-i l = any_above_nine (take l.i (said_shapes 6 l.bytes)) ≡ false
