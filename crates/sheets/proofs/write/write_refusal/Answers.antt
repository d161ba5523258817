use mathlib.Core.Path.{◌≡◌, refl, sym, ap, ◌∙◌}
use mathlib.Core.Bool.{false, not}
use mathlib.Core.List.{List, [], ◌++◌}
use Prim.Native.Nat.{ℕ, ◌+◌, ◌*◌, ◌≤◌, ◌<◌}
use native.Mathlib.Omega.{arith}
use lib.Dec.{eqb}
use lib.ListN.{take}
use borrow.Author.Tests.{lt-ltb, le-ltb, eq-eqb, ne_eqb}
use Rattle.masks.specs.Outcome.{Test, refusal}
use Rattle.masks.proofs.OutcomeLaws.{refused_first, refused_later}
use Rattle.sheets.specs.declared.shapes.Shapes.{Shapes}
use Rattle.sheets.specs.Format.{any_above_nine, blade_total, limits}
use Rattle.sheets.specs.Shapes.{listed_shapes}
use Rattle.sheets.proofs.write.write_refusal.Goals as goal

-- the first three tests pass
three : (s : Shapes) (patterns : ℕ) (ts : List Test) → any_above_nine (listed_shapes s) ≡ false → s.count ≤ 64 → patterns ≤ 4096 → refusal (take 3 (limits s.count (listed_shapes s) patterns) ++ ts) ≡ refusal ts
unfolding refusal
three s patterns ts a m p = rw (a, le-ltb 64 _ m, le-ltb 4096 _ p)

-- and the fourth
four : (s : Shapes) (patterns : ℕ) → patterns ≡ blade_total (listed_shapes s) → not (eqb patterns (blade_total (listed_shapes s))) ≡ false
four s patterns e = rw (eq-eqb _ _ e)

none : refusal [] ≡ 0
unfolding refusal
none = refl

pub returns-then-any_above_nine : goal.returns-then-any_above_nine
unfolding refusal
returns-then-any_above_nine c =
    rw (sym (c.any_above_nine.ensures ∙ ap any_above_nine c.listed-listed.ensures) ∙ c.if-any_above_nine.true)

pub returns-then-shapes-gt-MAX_SHAPES : goal.returns-then-shapes-gt-MAX_SHAPES
unfolding refusal
returns-then-shapes-gt-MAX_SHAPES c =
    rw (sym (c.any_above_nine.ensures ∙ ap any_above_nine c.listed-listed.ensures) ∙ c.if-any_above_nine.false, lt-ltb 64 _ c.if-shapes-gt-MAX_SHAPES.true)

pub returns-then-patterns-gt-MAX_COEFFICIENTS : goal.returns-then-patterns-gt-MAX_COEFFICIENTS
unfolding refusal
returns-then-patterns-gt-MAX_COEFFICIENTS c =
    rw (sym (c.any_above_nine.ensures ∙ ap any_above_nine c.listed-listed.ensures) ∙ c.if-any_above_nine.false, le-ltb 64 _ c.if-shapes-gt-MAX_SHAPES.false, lt-ltb 4096 _ c.if-patterns-gt-MAX_COEFFICIENTS.true)

pub returns-then-patterns-blade_total : goal.returns-then-patterns-blade_total
returns-then-patterns-blade_total c =
    let s = c.args.shapes.now in
    let small = sym (c.any_above_nine.ensures ∙ ap any_above_nine c.listed-listed.ensures) ∙ c.if-any_above_nine.false in
    let sum = c.blade_total.ensures ∙ ap blade_total c.listed-listed.ensures in
    three s c.args.patterns _ small c.if-shapes-gt-MAX_SHAPES.false c.if-patterns-gt-MAX_COEFFICIENTS.false ∙ refused_first _ _ (ap not (ne_eqb _ _ (λ e. c.if-patterns-blade_total.true (e ∙ sym sum))))

pub returns-then-room-sheet_size : goal.returns-then-room-sheet_size
returns-then-room-sheet_size c =
    let a = c.args in
    let s = a.shapes.now in
    let small = sym (c.any_above_nine.ensures ∙ ap any_above_nine c.listed-listed.ensures) ∙ c.if-any_above_nine.false in
    let sum = c.blade_total.ensures ∙ ap blade_total c.listed-listed.ensures in
    let h : a.room < 6 + 5 * s.count + 8 * a.patterns = omega arith in
    three s a.patterns _ small c.if-shapes-gt-MAX_SHAPES.false c.if-patterns-gt-MAX_COEFFICIENTS.false ∙ refused_later _ _ (four s a.patterns (c.if-patterns-blade_total.false ∙ sum)) ∙ refused_first _ _ (lt-ltb _ _ h)

pub returns : goal.returns
returns c =
    let a = c.args in
    let s = a.shapes.now in
    let small = sym (c.any_above_nine.ensures ∙ ap any_above_nine c.listed-listed.ensures) ∙ c.if-any_above_nine.false in
    let sum = c.blade_total.ensures ∙ ap blade_total c.listed-listed.ensures in
    let h : 6 + 5 * s.count + 8 * a.patterns ≤ a.room = omega arith in
    (three s a.patterns _ small c.if-shapes-gt-MAX_SHAPES.false c.if-patterns-gt-MAX_COEFFICIENTS.false ∙ refused_later _ _ (four s a.patterns (c.if-patterns-blade_total.false ∙ sum)) ∙ refused_later _ _ (le-ltb _ _ h) ∙ none, refl)
