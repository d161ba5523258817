use Rattle.arithmetic.proofs.OrderPassed.{passed_none}
use Rattle.arithmetic.proofs.operators.mul.Goals as goal

pub mul_by-requires : goal.mul_by-requires
mul_by-requires c = passed_none _
