use native.Mathlib.Omega.{arith}
use Rattle.arithmetic.proofs.MagnitudeLaws.{order_put}
use Rattle.arithmetic.proofs.magnitude.sum_in.Goals as goal

pub sum_squares-requires : goal.sum_squares-requires
sum_squares-requires g c =
    let o = order_put c.args.dims _ _ _ c.put_order-ordered.ensures c.requires.0 (omega (arith, c.requires.1)) in
    (c.requires.0, c.requires.3, o.0, o.1)
