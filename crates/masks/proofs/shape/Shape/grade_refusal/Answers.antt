use mathlib.Core.Path.{◌≡◌, refl, sym}
use mathlib.Core.Bool.{cond}
use mathlib.Core.List.{[], ◌∷◌}
use borrow.Author.Tests.{lt-ltb, le-ltb}
use lib.Dec.{ltb}
use Rattle.std.proofs.lemmas.Result.{err_from_is_err_and}
use Rattle.masks.specs.Blade.{grade_refusal}
use Rattle.masks.proofs.OutcomeLaws.{refuses, sooner}
use Rattle.masks.proofs.BladeLaws.{grade_later}
use Rattle.masks.proofs.shape.Shape.grade_refusal.Goals.{In_ok-value_refusal}
use Rattle.masks.proofs.shape.Shape.grade_refusal.Goals as goal

-- the value is not refused
later : (c : In_ok-value_refusal) → grade_refusal c.args.self c.args.grade c.args.a.now ≡ cond (ltb c.args.self.dims c.args.grade) 4 0
later c = let s = c.args in grade_later s.self s.grade s.a.now c.in_ok-value_refusal.ensures.0

pub returns-in_err-value_refusal : goal.returns-in_err-value_refusal
unfolding grade_refusal
returns-in_err-value_refusal c =
    let p = err_from_is_err_and c.from_residual.result c.from_residual.ensures.1 in
    let f = c.in_err-value_refusal in
    rw (p.1, p.2) (sym (sooner _ (_ ∷ _ ∷ []) _ (sym f.ensures) (refuses f.field-0.0)))

pub returns-then-dims-grade : goal.returns-then-dims-grade
returns-then-dims-grade c = rw (later (goal.at.returns-then-dims-grade c).In_ok-value_refusal, lt-ltb _ _ c.if-dims-grade.true)

pub returns : goal.returns
returns c = (rw (later (goal.at.returns c).In_ok-value_refusal, le-ltb _ _ c.if-dims-grade.false), refl)
