use mathlib.Core.Path.{◌≡◌, refl, ◌∙◌}
use native.Mathlib.Omega.{arith}
use lib.ListN.{length, length-map}
use Rattle.masks.proofs.ListLaws.{front_all}
use Rattle.sheets.proofs.ItemsLaws.{made_next}
use Rattle.sheets.proofs.bytes.put_made.Goals as goal

pub loop-i-init : goal.loop-i-init
loop-i-init g c h made = refl

pub loop-i-preserved : goal.loop-i-preserved
loop-i-preserved g c h made =
    let a = c.args in
    made_next (goal.F-post g a.f) h a.items.now c.loop-i.i c.index-items-i.result c.f.result made c.index-items-i.is c.f.ensures c.loop-i-test.true
    a.out.now c.loop-i.out c.requires.room (c.loop-i.invariant h made)

pub returns : goal.returns
returns g c h made =
    let xs = c.args.items.now in
    let all : c.loop-i.i ≡ length xs = omega arith in
    c.loop-i.invariant h made ∙ front_all c.loop-i.i _ c.args.out.now (omega (arith, length-map xs h))
