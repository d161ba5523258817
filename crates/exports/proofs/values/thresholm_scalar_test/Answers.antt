use mathlib.Core.Path.{◌≡◌, ap}
use mathlib.Core.List.{List, [], ◌∷◌}
use Prim.Native.Nat.{ℕ}
use lib.Ieee.{Float}
use Rattle.std.proofs.Common.{rules}
use Rattle.masks.specs.declared.shape.Shape.{Shape}
use Rattle.arithmetic.specs.declared.scalar.ScalarTest.{ScalarTest}
use Rattle.arithmetic.specs.Scalar.{Tested, scalar_test}
use Rattle.exports.specs.Numbers.{test_number, real_part, imaginary_part}
use Rattle.exports.proofs.ReportsLaws.{same_reported, seen_reported}
use Rattle.exports.proofs.values.thresholm_scalar_test.Goals as goal

-- The two parts are seen as a list.
abbrev listed : ℕ × Float × Float → ℕ × List Float
listed t = (t.0, t.1 ∷ t.2 ∷ [])

abbrev face : ScalarTest → ℕ × List Float
face t = (test_number t, real_part t ∷ imaginary_part t ∷ [])

pub returns : goal.returns
returns c =
    let given = c.args in
    let r = c.report_three.new in
    same_reported (λ (o : Tested). o.number) (λ (o : Tested). o.test) face _ _ _ _
    (ap (λ (s : Shape). scalar_test s given.a.now) c.shape_from.ensures)
    c.scalar_test-tested.ensures
    (λ t p. let e : (r.to, r.to_other, r.to_third) ≡ (test_number t, real_part t, imaginary_part t) = search rules in ap listed e)
    (seen_reported listed _ _ _ _ _ c.report_three.ensures)
