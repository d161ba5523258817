use native.Mathlib.Omega.{arith}
use Rattle.masks.specs.Build.{pseudoscalar}
use Rattle.masks.proofs.BuildLaws.{grade_fits, size_last}
use Rattle.masks.proofs.build.pseudoscalar.Goals as goal

pub one_grade-requires : goal.one_grade-requires
one_grade-requires c =
    let n = c.built_dims-n.result in
    (omega arith, grade_fits n n 1 (omega arith) (size_last n))

pub returns : goal.returns
unfolding pseudoscalar
returns c = rw (← c.built_dims-n.ensures) c.one_grade.ensures
