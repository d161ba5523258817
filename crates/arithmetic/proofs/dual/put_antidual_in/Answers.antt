use lib.Ieee.{of_bits, of_fields}
use Rattle.arithmetic.proofs.DualRegressive.{antidual_laid}
use Rattle.arithmetic.proofs.OrderPassed.{array_room, passed_vanilla}
use Rattle.arithmetic.proofs.dual.put_antidual_in.Goals as goal

pub mul_by-requires : goal.mul_by-requires
mul_by-requires g c =
    let v = c.with_flavor-vanilla in
    passed_vanilla c.args.given.now c.args.value.now.shape.dims v.result v.ensures c.requires.in_order

pub returns : goal.returns
unfolding of_bits of_fields
returns g c =
    let a = c.args in
    let v = a.value.now in
    let r = c.requires.room in
    antidual_laid v.shape.dims v.numbers.now v.small v.counted c.with_flavor-vanilla.result c.with_flavor-vanilla.ensures c.pseudoscalar.result _ _ (array_room _ r.0) c.pseudoscalar.ensures a.out.now _ r.1 c.mul_by.result c.mul_by.ensures
