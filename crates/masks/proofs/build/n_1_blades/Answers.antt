use Prim.Native.Nat.{◌-◌}
use native.Mathlib.Omega.{arith}
use lib.ListN.{length}
use Rattle.masks.specs.declared.outcome.Refusal.TheVariants.{WrongCount}
use Rattle.masks.specs.Build.{n_1_blades}
use Rattle.masks.proofs.OutcomeLaws.{gives_refused}
use Rattle.masks.proofs.BuildLaws.{few, n1_one, grade_fits, size_before_last}
use Rattle.masks.proofs.build.n_1_blades.Goals as goal

pub returns-then-n-lt2 : goal.returns-then-n-lt2
unfolding n_1_blades
returns-then-n-lt2 c =
    let a = c.args in
    gives_refused _ WrongCount _ a.out.now (few (length a.v.now) (length a.out.now) (omega arith))

pub one_grade-requires : goal.one_grade-requires
one_grade-requires c =
    let n = length c.args.v.now in
    (omega arith, grade_fits n (n - 1) n (omega arith) (size_before_last n (omega arith)))

pub returns : goal.returns
returns c =
    let a = c.args in
    rw (n1_one a.v.now a.flavor (length a.out.now) (omega arith)) c.one_grade.ensures
