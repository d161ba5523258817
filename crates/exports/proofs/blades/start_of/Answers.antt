use mathlib.Core.Path.{refl}
use native.Mathlib.Omega.{arith}
use Rattle.masks.specs.Order.{start}
use Rattle.masks.proofs.OrderLaws.{part_fits, start_next, blades_le, none_sized}
use Rattle.exports.proofs.blades.start_of.Goals as goal

pub loop-g-init : goal.loop-g-init
unfolding start
loop-g-init c = refl

pub overflow_add-sum : goal.overflow_add-sum
overflow_add-sum c =
    let d = c.args.dims in
    omega (arith, none_sized c.loop-g.g c.size_or_none-sum.ensures (omega arith), part_fits d c.loop-g.g (omega arith), blades_le d (omega arith))

pub loop-g-preserved : goal.loop-g-preserved
loop-g-preserved c = omega (arith, none_sized c.loop-g.g c.size_or_none-sum.ensures (omega arith), start_next c.args.dims c.loop-g.g)
