use native.Mathlib.Omega.{arith}
use Rattle.product.proofs.PairsBounds.{power_grows}
use Rattle.product.proofs.pairs.power.Goals as goal

pub pow-requires : goal.pow-requires
pow-requires c = omega (arith, power_grows c.args.base 4 c.args.n 9 (omega arith) c.requires.0 c.requires.1)
