use native.Mathlib.Omega.{arith}
use Rattle.masks.proofs.OrderLaws.{blades_le}
use Rattle.arithmetic.proofs.dual.put_regressive.Goals as goal

pub regressive_ordered-requires-2-clause-room : goal.regressive_ordered-requires-2-clause-room
regressive_ordered-requires-2-clause-room c =
    let v = c.args.left.now in
    let w = c.args.right.now in
    (omega (arith, v.counted, blades_le v.shape.dims v.small), omega (arith, w.counted, blades_le w.shape.dims w.small), omega arith)
