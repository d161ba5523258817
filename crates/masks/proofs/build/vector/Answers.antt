use native.Mathlib.Omega.{arith}
use Rattle.masks.specs.Build.{vector}
use Rattle.masks.proofs.BuildLaws.{vector_fits}
use Rattle.masks.proofs.build.vector.Goals as goal

pub one_grade-requires : goal.one_grade-requires
one_grade-requires c = (omega arith, vector_fits _)

pub returns : goal.returns
unfolding vector
returns c = c.one_grade.ensures
