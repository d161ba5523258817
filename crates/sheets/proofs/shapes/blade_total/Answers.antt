use mathlib.Core.Path.{refl}
use native.Mathlib.Omega.{arith}
use lib.ListN.{take}
use lib.Seq.{length-take-le}
use Rattle.masks.proofs.OrderLaws.{blades_le, none_counted}
use Rattle.sheets.specs.Format.{blade_total}
use Rattle.sheets.proofs.FormatLaws.{above_take, dims_at, blade_total-le}
use Rattle.sheets.proofs.ValuesLaws.{start_next}
use Rattle.sheets.proofs.shapes.blade_total.Goals as goal

pub loop-shape-init : goal.loop-shape-init
unfolding blade_total
loop-shape-init c = refl

pub overflow_add-sum : goal.overflow_add-sum
overflow_add-sum c =
    let ss = c.args.shapes.now in
    let i = c.loop-shape.shape-index in
    let small = dims_at i ss (omega arith) c.requires.1 in
    omega (arith, c.loop-shape.invariant, blade_total-le (take i ss) (above_take i ss c.requires.1), length-take-le i ss (omega arith), none_counted c.blades_or_none-sum.ensures small, blades_le _ small)

pub loop-shape-preserved : goal.loop-shape-preserved
loop-shape-preserved c =
    let ss = c.args.shapes.now in
    let i = c.loop-shape.shape-index in
    let small = dims_at i ss (omega arith) c.requires.1 in
    omega (arith, c.loop-shape.invariant, start_next ss i (omega arith), none_counted c.blades_or_none-sum.ensures small)
