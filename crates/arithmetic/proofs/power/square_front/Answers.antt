use mathlib.Core.Path.{sym, ◌∙◌}
use lib.Ieee.{binary64}
use lib.ListN.{take}
use native.Mathlib.Omega.{arith}
use Rattle.masks.proofs.ListLaws.{lay_part}
use Rattle.product.specs.declared.mode.Mode.TheVariants.{All}
use Rattle.product.proofs.PairwiseLaws.{product_length}
use Rattle.arithmetic.specs.Inverse.{square_of}
use Rattle.arithmetic.proofs.PowerLaws.{copied_on}
use Rattle.arithmetic.proofs.power.square_front.Goals as goal

pub returns : goal.returns
returns c =
    let a = c.args in
    let s = a.shape in
    copied_on a.n (square_of s (take a.n a.base.now)) a.next.now _ _ a.base.now
    (product_length All s.flavor s.dims binary64 (take a.n a.base.now) (take a.n a.base.now) ∙ sym c.requires.dims_bound.1) c.put_square.ensures (c.lay.ensures ∙ lay_part a.n c.put_square.new.out a.base.now (omega (arith, c.put_square.auto.out, c.requires.dims_bound)) (omega (arith, c.requires.dims_bound)))
