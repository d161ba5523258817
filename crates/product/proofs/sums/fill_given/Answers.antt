use native.Mathlib.Omega.{arith}
use lib.Pow.{pow_mono}
use Rattle.product.proofs.sums.fill_given.Goals as goal

pub fill_in-requires-clause-room : goal.fill_in-requires-clause-room
fill_in-requires-clause-room c = (pow_mono {j = 4} c.if-plan-le4.true, omega arith)

pub fill_in-requires-then-plan-le6-clause-room : goal.fill_in-requires-then-plan-le6-clause-room
fill_in-requires-then-plan-le6-clause-room c = (pow_mono {j = 6} c.if-plan-le6.true, omega arith)

pub fill_in-requires-else-plan-le6-clause-room : goal.fill_in-requires-else-plan-le6-clause-room
fill_in-requires-else-plan-le6-clause-room c = (pow_mono {j = 9} c.args.plan.small, omega arith)
