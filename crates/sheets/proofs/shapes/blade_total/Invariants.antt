use mathlib.Core.Path.{◌≡◌}
use lib.ListN.{take}
use Rattle.sheets.specs.Format.{blade_total}
use Rattle.sheets.proofs.shapes.blade_total.Given as goal

abbrev pub invariant-loop-shape : goal.invariant-loop-shape
invariant-loop-shape l = l.sum ≡ blade_total (take l.shape-index l.shapes)
