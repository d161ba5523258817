use native.Mathlib.Omega.{arith}
use Rattle.masks.specs.Build.{scalar}
use Rattle.masks.proofs.OrderLaws.{size_zero}
use Rattle.masks.proofs.BuildLaws.{grade_fits}
use Rattle.masks.proofs.build.scalar.Goals as goal

pub one_grade-requires : goal.one_grade-requires
one_grade-requires c =
    let n = c.built_dims-n.result in
    (omega arith, grade_fits n 0 1 (omega arith) (size_zero n))

pub returns : goal.returns
unfolding scalar
returns c = rw (← c.built_dims-n.ensures) c.one_grade.ensures
