use lib.Ieee.{of_bits, of_fields}
use Rattle.arithmetic.proofs.DualRegressive.{dual_laid}
use Rattle.arithmetic.proofs.OrderPassed.{array_room}
use Rattle.arithmetic.proofs.dual.put_dual_in.Goals as goal

pub returns : goal.returns
unfolding of_bits of_fields
returns g c =
    let a = c.args in
    let v = a.value.now in
    let r = c.requires.room in
    dual_laid v.shape.dims v.numbers.now v.small v.counted c.with_flavor-vanilla.result c.with_flavor-vanilla.ensures c.pseudoscalar.result _ _ (array_room _ r.0) c.pseudoscalar.ensures a.out.now _ r.1 a.given.now c.requires.in_order c.multiply.result c.multiply.ensures
