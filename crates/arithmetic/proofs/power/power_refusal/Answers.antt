use mathlib.Core.Path.{◌≡◌, refl, sym, ap, ◌∙◌}
use mathlib.Core.Bool.{false, true≢false, ◌&&◌}
use mathlib.Core.List.{List}
use Prim.Native.Nat.{ℕ, ◌^◌}
use native.Mathlib.Omega.{arith}
use lib.Ieee.{Float}
use lib.IntN.{ℤ, pos, negsuc}
use lib.ListN.{length}
use mir.Syntax.{w32}
use mir.Val.{SFits, of_z}
use mir.ValLaws.{to_z-of_z}
use Rattle.std.proofs.lemmas.Result.{err_from_is_err_and}
use Rattle.masks.specs.declared.outcome.Refusal.{Refusal}
use Rattle.masks.specs.declared.shape.Shape.{Shape}
use Rattle.masks.specs.Outcome.{refusal, number_of, result_tests}
use Rattle.masks.proofs.OrderLaws.{none_counted}
use Rattle.masks.proofs.OutcomeLaws.{refuses, taken, refused_already, needed_same, result_tests_same}
use Rattle.arithmetic.specs.Scalar.{test_of, was_planar}
use Rattle.arithmetic.specs.Power.{is_negative, size_of, power_dims, power_tests}
use Rattle.arithmetic.proofs.PowerLaws.{below_zero_lem, and_both, not_both, PowerAccepted, refused_five, refused_six, refused_none}
use Rattle.arithmetic.proofs.power.power_refusal.Goals.{After-refusal_of, Joined-else-power-lt0, else-power-lt0-via-then-power-lt0+else-was_planar, else-power-lt0-via-else-power-lt0}
use Rattle.arithmetic.proofs.power.power_refusal.Goals as goal

-- The bits of the least i32 are those of 2 ^ 31.
least : (z : ℤ) → SFits w32 z → (of_z w32 z ≡ 2147483648 → size_of z ≡ 2 ^ 31) × (size_of z ≡ 2 ^ 31 → of_z w32 z ≡ 2147483648)
least (pos n) f = (λ e. e, λ e. e)
least (negsuc n) f = (λ e. omega arith, λ e. omega arith)

module _ (c : After-refusal_of) where
  abbrev z : ℤ
  z = c.args.power

  abbrev s : Shape
  s = c.args.shape

  abbrev xs : List Float
  xs = c.args.a.now

  abbrev n : ℕ
  n = power_dims s (size_of z)

  -- The tests of the dimensions and the counts that were found, and of those of the power.
  abbrev found : ℕ
  found = refusal (result_tests s.dims c.power_dims-n.result (length xs) c.args.room c.blades_or_none.result)

  abbrev changes : ℕ
  changes = refusal (result_tests s.dims n (length xs) c.args.room (2 ^ n))

  number : found ≡ changes
  number =
      needed_same s.dims c.power_dims-n.result (length xs) c.args.room _ _ (λ l. none_counted c.blades_or_none.ensures l)
      ∙ result_tests_same s.dims _ n (length xs) c.args.room
      (λ l. c.power_dims-n.ensures l ∙ ap (λ (y : ℤ). power_dims s (size_of y)) (to_z-of_z w32 z c.ranges.power))

  first_refused : (e : Refusal) → found ≡ number_of e → refusal (power_tests s z xs c.args.room) ≡ number_of e
  first_refused e q = refused_already (result_tests s.dims n (length xs) c.args.room (2 ^ n)) _ (λ y. refuses e (sym q ∙ number ∙ y)) ∙ sym number ∙ q

  fits : found ≡ 0 → PowerAccepted s z xs c.args.room
  fits e =
      let t = taken s.dims n (length xs) c.args.room (2 ^ n) (sym number ∙ e) in
      record { small = t.small; result = t.result; counted = t.counted; roomy = t.roomy }

-- After the test of a planar value.
not_planar : (c : Joined-else-power-lt0) → (is_negative c.args.power && was_planar (test_of c.args.shape c.args.a.now)) ≡ false
not_planar c =
    let neg = below_zero_lem c.args.power c.ranges.power in
    elim c.else-power-lt0.branch [
      | else-power-lt0-via-then-power-lt0+else-was_planar w ↦
          not_both (is_negative c.args.power) _ (λ _ p. true≢false (sym p ∙ sym (w.was_planar.ensures ∙ ap was_planar w.test_of.ensures) ∙ w.if-was_planar.false))
      | else-power-lt0-via-else-power-lt0 w ↦ not_both (is_negative c.args.power) _ (λ n _. true≢false (sym n ∙ sym neg ∙ w.if-power-lt0.false))
    ]

pub returns-in_err-refusal_of : goal.returns-in_err-refusal_of
returns-in_err-refusal_of c =
    let p = err_from_is_err_and c.from_residual.result c.from_residual.ensures.1 in
    rw (p.1, p.2) (first_refused (goal.at.returns-in_err-refusal_of c).After-refusal_of c.in_err-refusal_of.field-0.0 c.in_err-refusal_of.ensures)

pub invariant_of-test_of : goal.invariant_of-test_of
invariant_of-test_of c =
    let f = fits (goal.at.invariant_of-test_of c).After-refusal_of c.in_ok-refusal_of.ensures.0 in
    record { small = f.small; counted = f.counted }

pub returns-then-was_planar : goal.returns-then-was_planar
returns-then-was_planar c =
    let a = (goal.at.returns-then-was_planar c).After-refusal_of in
    let w = c.was_planar.ensures ∙ ap was_planar c.test_of.ensures in
    refused_five _ (z a) _ _ (fits a c.in_ok-refusal_of.ensures.0)
    (and_both (sym (below_zero_lem (z a) c.ranges.power) ∙ c.if-power-lt0.true) (sym w ∙ c.if-was_planar.true))

pub returns-then-power-eqminus2147483648 : goal.returns-then-power-eqminus2147483648
returns-then-power-eqminus2147483648 c =
    let g = goal.at.returns-then-power-eqminus2147483648 c in
    let a = g.After-refusal_of in
    refused_six _ (z a) _ _ (fits a c.in_ok-refusal_of.ensures.0) (not_planar g.Joined-else-power-lt0)
    ((least (z a) c.ranges.power).0 c.if-power-eqminus2147483648.true)

pub returns : goal.returns
returns c =
    let g = goal.at.returns c in
    let a = g.After-refusal_of in (
      refused_none _ (z a) _ _ (fits a c.in_ok-refusal_of.ensures.0) (not_planar g.Joined-else-power-lt0)
          (λ e. c.if-power-eqminus2147483648.false ((least (z a) c.ranges.power).1 e)),
      refl,
    )
