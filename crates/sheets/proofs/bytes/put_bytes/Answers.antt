use mathlib.Core.Path.{refl, ap, ◌∙◌}
use native.Mathlib.Omega.{arith}
use lib.ListN.{take}
use lib.Seq.{sets, take_all}
use Rattle.sheets.specs.Bytes.{all_bytes}
use Rattle.sheets.proofs.ItemsLaws.{bytes_next}
use Rattle.sheets.proofs.bytes.put_bytes.Goals as goal

pub loop-i-init : goal.loop-i-init
unfolding all_bytes
loop-i-init g c h made eight = refl

pub loop-i-preserved : goal.loop-i-preserved
loop-i-preserved g c h made eight =
    let a = c.args in
    bytes_next (goal.F-post g a.f) h a.items.now c.loop-i.i c.index-items-i.result c.f.result made c.index-items-i.is c.f.ensures c.loop-i-test.true
    a.width a.at a.out.now c.loop-i.out c.copy_from_slice.new.self eight c.requires.narrow c.requires.room c.copy_from_slice.ensures.after (c.loop-i.invariant h made eight)

pub returns : goal.returns
returns g c h made eight =
    let a = c.args in
    c.loop-i.invariant h made eight
    ∙ ap (λ xs. sets a.out.now a.at (all_bytes (λ x. take a.width (h x)) xs)) (take_all c.loop-i.i a.items.now (omega arith))
