use mathlib.Core.Path.{◌≡◌, sym, ap, ◌∙◌}
use mathlib.Core.Bool.{Bool, true, false, not, ◌||◌}
use mathlib.Core.List.{List}
use lib.Ieee.{Float}
use Rattle.masks.specs.declared.shape.Shape.{Shape}
use Rattle.arithmetic.specs.Scalar.{is_scalar, test_of}
use Rattle.arithmetic.specs.Compare.{answers_agree, same_places}
use Rattle.arithmetic.proofs.CompareLaws.{agree_scalars, agree_left, agree_right, agree_others}
use Rattle.arithmetic.proofs.compare.equal_values.Goals as goal

-- A value that is not scalar is equal to those that are not.
other : (s t : Shape) (a b : List Float) → is_scalar a ≡ false → (x : Bool) → is_scalar b ≡ x → not x ≡ (answers_agree (test_of s a) (test_of t b) || same_places a b)
other s t a b e true f = sym (agree_right s t a b e f)
other s t a b e false f = sym (ap (λ (x : Bool). x || same_places a b) (agree_others s t a b e f))

pub returns-then-is_scalar-2 : goal.returns-then-is_scalar-2
returns-then-is_scalar-2 c =
    let s = c.args in
    c.equal_scalars.ensures
    ∙ ap (λ (x : Bool). x || same_places s.a.now s.b.now)
    (sym (agree_scalars s.left s.right s.a.now s.b.now (sym c.is_scalar.ensures ∙ c.if-is_scalar.true) (sym c.is_scalar-then-is_scalar.ensures ∙ c.if-is_scalar-2.true)))

pub returns-then-is_scalar : goal.returns-then-is_scalar
returns-then-is_scalar c =
    let s = c.args in
    sym (agree_left s.left s.right s.a.now s.b.now (sym c.is_scalar.ensures ∙ c.if-is_scalar.true) (sym c.is_scalar-then-is_scalar.ensures ∙ c.if-is_scalar-2.false))

pub returns : goal.returns
returns c =
    let s = c.args in
    other s.left s.right s.a.now s.b.now (sym c.is_scalar.ensures ∙ c.if-is_scalar.false) c.is_scalar-2.result (sym c.is_scalar-2.ensures)
