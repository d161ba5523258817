use mathlib.Core.Path.{refl, sym, ◌∙◌}
use mathlib.Core.List.{[]}
use Prim.Native.Nat.{◌+◌, ◌≤◌}
use native.Mathlib.Omega.{arith}
use lib.ListN.{length}
use Rattle.masks.specs.Blade.{grade_part}
use Rattle.masks.proofs.OrderLaws.{part_fits}
use Rattle.masks.proofs.OutcomeLaws.{unless_refused, unless_ok}
use Rattle.masks.proofs.BladeLaws.{Graded, graded, part_eq, refused, unrefused}
use Rattle.masks.proofs.shape.Shape.grade.Goals.{After-size_of, Else-is_err}
use Rattle.masks.proofs.shape.Shape.grade.Goals as goal

-- the grade is not refused
ok : (c : Else-is_err) → Graded c.args.self c.args.grade c.args.a.now
ok c = graded _ _ _ (unrefused _ c.grade_refusal.result c.grade_refusal.ensures (sym c.is_err.ensures.value ∙ c.if-is_err.false))

-- where the grade ends
ends : (c : After-size_of) → Graded c.args.self c.args.grade c.args.a.now → c.start_of-start.result + c.size_of.result ≤ length c.args.a.now
ends c t =
    let s = c.args in
    omega (arith, c.start_of-start.ensures, c.size_of.ensures, t, part_fits s.self.dims s.grade t.within)

pub returns-then-is_err : goal.returns-then-is_err
unfolding grade_part
returns-then-is_err c = sym (unless_refused (λ k. []) _ _ _ refl (refused _ c.grade_refusal.result c.grade_refusal.ensures (sym c.is_err.ensures.value ∙ c.if-is_err.true)))

pub start_of-start-requires : goal.start_of-start-requires
start_of-start-requires c = omega (arith, ok c)

pub size_of-requires : goal.size_of-requires
size_of-requires c = omega (arith, ok (goal.at.size_of-requires c).Else-is_err)

pub overflow_add-end : goal.overflow_add-end
overflow_add-end c = omega (arith, ends c (ok (goal.at.overflow_add-end c).Else-is_err))

pub offset_bounds-a-start : goal.offset_bounds-a-start
offset_bounds-a-start c = omega (arith, ends c (ok (goal.at.offset_bounds-a-start c).Else-is_err))

pub slice_bounds-result-end-2 : goal.slice_bounds-result-end-2
slice_bounds-result-end-2 c = ends c (ok (goal.at.slice_bounds-result-end-2 c).Else-is_err)

pub returns : goal.returns
unfolding grade_part
returns c =
    let s = c.args in
    part_eq _ _ _ _ s.a.now c.start_of-start.ensures c.size_of.ensures
    ∙ sym (unless_ok (λ k. []) _ _ (unrefused _ c.grade_refusal.result c.grade_refusal.ensures (sym c.is_err.ensures.value ∙ c.if-is_err.false)))
