use mathlib.Core.Path.{sym, ◌∙◌}
use Rattle.arithmetic.proofs.CompareLaws.{by_all_places, by_lists_left, by_lists_right, by_numbers}
use Rattle.arithmetic.proofs.compare.compare_values.Goals as goal

pub returns-then-a-b : goal.returns-then-a-b
returns-then-a-b c =
    let s = c.args in
    c.compare_places.ensures ∙ sym (by_all_places s.left.shape s.right.shape s.left.numbers.now s.right.numbers.now c.if-a-b.true)

pub returns-then-not-is_scalar : goal.returns-then-not-is_scalar
returns-then-not-is_scalar c =
    let s = c.args in
    c.compare_counts.ensures ∙ sym (by_lists_left s.left.shape s.right.shape s.left.numbers.now s.right.numbers.now (sym c.is_scalar.ensures ∙ c.if-not-is_scalar.true))

pub returns-then-not-is_scalar-2 : goal.returns-then-not-is_scalar-2
returns-then-not-is_scalar-2 c =
    let s = c.args in
    c.compare_counts-then-not-is_scalar-2.ensures
    ∙ sym (by_lists_right s.left.shape s.right.shape s.left.numbers.now s.right.numbers.now (sym c.is_scalar.ensures ∙ c.if-not-is_scalar.false) (sym c.is_scalar-2.ensures ∙ c.if-not-is_scalar-2.true))

pub returns : goal.returns
returns c =
    let s = c.args in
    c.compare_numbers.ensures
    ∙ sym (by_numbers s.left.shape s.right.shape s.left.numbers.now s.right.numbers.now (sym c.is_scalar.ensures ∙ c.if-not-is_scalar.false) (sym c.is_scalar-2.ensures ∙ c.if-not-is_scalar-2.false))
