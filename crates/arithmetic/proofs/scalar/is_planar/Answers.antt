use mathlib.Core.Path.{◌≡◌, sym, ap, ◌∙◌}
use mathlib.Core.Bool.{Bool, ◌&&◌}
use mathlib.Core.List.{List}
use Prim.Native.Nat.{ℕ, ◌^◌}
use native.Mathlib.Omega.{arith}
use borrow.Author.Tests.{eq-eqb, ne_eqb}
use lib.Ieee.{Float, nan, of_bits, of_fields}
use lib.ListN.{length, get_or}
use Rattle.masks.specs.declared.shape.Shape.{Shape}
use Rattle.arithmetic.specs.Scalar.{is_zero, is_vanilla, is_planar}
use Rattle.arithmetic.proofs.scalar.is_planar.Goals.{Else-shape-ne2, Joined-is_vanilla, then-is_vanilla, else-is_vanilla}
use Rattle.arithmetic.proofs.scalar.is_planar.Goals as goal

-- Of two dimensions, b being what the first two tests say, the third is left.
of_two : (s : Shape) (a : List Float) (b : Bool) → s.dims ≡ 2 → (is_vanilla s.flavor && is_zero (get_or a 1 nan)) ≡ b → is_planar s a ≡ (b && is_zero (get_or a 2 nan))
unfolding is_planar
of_two s a b d e = rw (eq-eqb s.dims 2 d, e)

-- Of two dimensions there are four numbers.
four : (c : Else-shape-ne2) → length c.args.a.now ≡ 4
four c = c.requires ∙ ap (λ (n : ℕ). 2 ^ n) c.if-shape-ne2.false

-- Where the first two tests meet.
met : (j : Joined-is_vanilla) → j.if-is_vanilla.value ≡ (is_vanilla j.args.shape.flavor && is_zero (get_or j.args.a.now 1 nan))
unfolding of_bits of_fields
met j =
    let v = j.is_vanilla.ensures in
    let z = is_zero (get_or j.args.a.now 1 nan) in
    elim j.if-is_vanilla.branch [
      | then-is_vanilla w ↦ w.value-is ∙ sym (ap (λ (b : Bool). b && z) (sym v ∙ w.if-is_vanilla.true))
      | else-is_vanilla w ↦ w.value-is ∙ w.if-is_vanilla.false ∙ sym (ap (λ (b : Bool). b && z) (sym v ∙ w.if-is_vanilla.false))
    ]

pub returns-then-shape-ne2 : goal.returns-then-shape-ne2
unfolding is_planar
returns-then-shape-ne2 c = rw (ne_eqb _ 2 c.if-shape-ne2.true)

pub bounds-a-1 : goal.bounds-a-1
bounds-a-1 c = omega (arith, four (goal.at.bounds-a-1 c).Else-shape-ne2)

pub bounds-a-2 : goal.bounds-a-2
bounds-a-2 c = omega (arith, four (goal.at.bounds-a-2 c).Else-shape-ne2)

pub returns-then-a : goal.returns-then-a
unfolding of_bits of_fields
returns-then-a c =
    let s = c.args in
    sym (of_two s.shape s.a.now _ c.if-shape-ne2.false (sym (met (goal.at.returns-then-a c).Joined-is_vanilla) ∙ c.if-a.true))

pub returns-else-a : goal.returns-else-a
returns-else-a c =
    let s = c.args in
    c.if-a.false ∙ sym (of_two s.shape s.a.now _ c.if-shape-ne2.false (sym (met (goal.at.returns-else-a c).Joined-is_vanilla) ∙ c.if-a.false))
