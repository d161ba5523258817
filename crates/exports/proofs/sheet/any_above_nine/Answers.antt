use mathlib.Core.Path.{refl, sym, ap, ◌∙◌}
use native.Mathlib.Omega.{arith}
use lib.Seq.{take_all}
use Rattle.sheets.specs.Format.{any_above_nine}
use Rattle.sheets.specs.Shapes.{said_shapes}
use Rattle.sheets.proofs.FormatLaws.{above_next, above_at}
use Rattle.sheets.proofs.ShapesLaws.{said_shapes-length}
use Rattle.exports.proofs.SheetLaws.{dims_said}
use Rattle.exports.proofs.sheet.any_above_nine.Goals as goal

pub loop-i-init : goal.loop-i-init
unfolding any_above_nine
loop-i-init c = refl

pub returns-then-bytes-i-gt-MAX_DIMS : goal.returns-then-bytes-i-gt-MAX_DIMS
returns-then-bytes-i-gt-MAX_DIMS c =
    let b = c.args.bytes.now in
    let l = c.loop-i in
    sym (above_at l.i (said_shapes 6 b) (omega (arith, said_shapes-length 6 b)) (rw (dims_said b l.i (omega arith)) c.if-bytes-i-gt-MAX_DIMS.true))

pub loop-i-preserved : goal.loop-i-preserved
loop-i-preserved c =
    let b = c.args.bytes.now in
    let l = c.loop-i in
    above_next (said_shapes 6 b) l.i (omega (arith, said_shapes-length 6 b)) (rw (dims_said b l.i (omega arith)) c.if-bytes-i-gt-MAX_DIMS.false) l.invariant

pub returns : goal.returns
returns c =
    let b = c.args.bytes.now in
    let l = c.loop-i in
    sym (sym (ap any_above_nine (take_all l.i (said_shapes 6 b) (omega (arith, said_shapes-length 6 b)))) ∙ l.invariant)
