use mathlib.Core.Path.{sym, ap, ap₂, ◌∙◌}
use mathlib.Core.List.{[], ◌∷◌}
use Prim.Native.Nat.{ℕ}
use Rattle.masks.specs.declared.shape.Shape.{Shape}
use Rattle.masks.specs.Order.{start, size}
use Rattle.masks.specs.Blade.{grade_refusal}
use Rattle.masks.proofs.BladeLaws.{Graded, graded}
use Rattle.masks.proofs.OrderLaws.{none_sized}
use Rattle.exports.proofs.ReportsLaws.{refused_reported, done_reported}
use Rattle.exports.proofs.blades.thresholm_grade.Goals.{In_default}
use Rattle.exports.proofs.blades.thresholm_grade.Goals as goal

-- The grade is not refused.
ok : (c : In_default) → Graded c.shape_from-own.result c.args.grade c.args.a.now
ok c = graded _ _ _ c.in_default.ensures.0

pub returns-in-Err : goal.returns-in-Err
returns-in-Err c =
    let a = c.args in
    refused_reported _ c.in-Err.refusal _ (sym (ap (λ (s : Shape). grade_refusal s a.grade a.a.now) c.shape_from-own.ensures) ∙ c.in-Err.ensures) c.number.ensures

pub start_of-requires : goal.start_of-requires
start_of-requires c = ((ok c).value.small, (ok c).within)

pub returns : goal.returns
returns c =
    let a = c.args in
    let k = ok (goal.at.returns c).In_default in
    let stands = ap₂ (λ (x y : ℕ). x ∷ y ∷ []) c.start_of.ensures (none_sized a.grade c.size_or_none.ensures k.value.small) in
    let given = ap (λ (s : Shape). start s.dims a.grade ∷ size s.dims a.grade ∷ []) c.shape_from-own.ensures in
    done_reported _ (sym (ap (λ (s : Shape). grade_refusal s a.grade a.a.now) c.shape_from-own.ensures) ∙ c.in_default.ensures.0) (stands ∙ given)
