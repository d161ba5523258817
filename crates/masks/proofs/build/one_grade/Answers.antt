use mathlib.Core.Path.{refl}
use Prim.Native.Nat.{◌^◌, ◌≤◌}
use native.Mathlib.Omega.{arith}
use lib.ListN.{length}
use Rattle.std.proofs.lemmas.Result.{err_from_is_err_and}
use Rattle.masks.specs.Build.{one_grade}
use Rattle.masks.proofs.OutcomeLaws.{gives_refused, gives_ok}
use Rattle.masks.proofs.BuildLaws.{built_taken}
use Rattle.masks.proofs.build.one_grade.Goals.{In_ok-built_refusal}
use Rattle.masks.proofs.build.one_grade.Goals as goal

pub returns-in_err-built_refusal : goal.returns-in_err-built_refusal
unfolding one_grade
returns-in_err-built_refusal c =
    let p = err_from_is_err_and c.from_residual.result c.from_residual.ensures.1 in
    let f = c.in_err-built_refusal in
    rw (p.1, p.2) (gives_refused _ f.field-0.0 _ _ f.ensures)

-- the call is not refused
ok : (c : In_ok-built_refusal) → ((c.args.dims ≤ 9) × (2 ^ c.args.dims ≤ length c.args.out.now))
ok c = built_taken _ _ c.in_ok-built_refusal.ensures.0

pub overflow_cast-n : goal.overflow_cast-n
overflow_cast-n c = omega (arith, ok c)

pub overflow_cast-grade : goal.overflow_cast-grade
overflow_cast-grade c = omega (arith, ok c, c.requires)

pub fill_grade-requires : goal.fill_grade-requires
fill_grade-requires c = omega (arith, ok (goal.at.fill_grade-requires c).In_ok-built_refusal, c.requires)

pub returns : goal.returns
unfolding one_grade
returns c = gives_ok _ _ _ _ _ c.in_ok-built_refusal.ensures.0 refl c.shape_of.ensures c.fill_grade.ensures
