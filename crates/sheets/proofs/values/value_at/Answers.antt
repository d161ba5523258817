use mathlib.Core.Path.{◌≡◌, refl, sym, ap, ap₂, ◌∙◌}
use mathlib.Core.Bool.{true, false}
use mathlib.Core.List.{List}
use Prim.Native.Nat.{ℕ, ◌≤◌, ◌<◌}
use native.Mathlib.Omega.{arith}
use lib.ListN.{length, get_or, take, length-take}
use borrow.Author.Tests.{le-leb, lt-leb}
use Rattle.masks.specs.declared.flavor.Flavor.TheVariants.{Vanilla}
use Rattle.masks.specs.declared.outcome.Refusal.TheVariants.{TooManyDims, WrongCount}
use Rattle.masks.specs.declared.shape.Shape.{Shape}
use Rattle.masks.specs.Outcome.{refusal, shape_of}
use Rattle.masks.proofs.OutcomeLaws.{answered_err, answered_ok}
use Rattle.sheets.specs.Format.{any_above_nine, blade_total}
use Rattle.sheets.specs.Values.{value_at_tests, PlaceOutcome, refused_place, value_at}
use Rattle.sheets.proofs.FormatLaws.{above_take}
use Rattle.sheets.proofs.values.value_at.Goals as goal

module _ (ss : List Shape) (i : ℕ) where
  above : any_above_nine ss ≡ true → refusal (value_at_tests ss i) ≡ 1
  unfolding refusal
  above e = rw e

  past : any_above_nine ss ≡ false → length ss ≤ i → refusal (value_at_tests ss i) ≡ 2
  unfolding refusal
  past e h = rw (e, le-leb (length ss) i h)

  listed : any_above_nine ss ≡ false → i < length ss → refusal (value_at_tests ss i) ≡ 0
  unfolding refusal
  listed e h = rw (e, lt-leb (length ss) i h)

pub returns-then-any_above_nine : goal.returns-then-any_above_nine
unfolding value_at
returns-then-any_above_nine c =
    answered_err (λ (o : PlaceOutcome). o.number) (λ (o : PlaceOutcome). o.place) refused_place _ _ TooManyDims refl
    (above _ c.args.index (sym (c.any_above_nine.ensures ∙ ap any_above_nine c.listed-listed.ensures) ∙ c.if-any_above_nine.true))

pub returns-then-listed-index : goal.returns-then-listed-index
unfolding value_at
returns-then-listed-index c =
    answered_err (λ (o : PlaceOutcome). o.number) (λ (o : PlaceOutcome). o.place) refused_place _ _ WrongCount refl
    (past _ c.args.index (sym (c.any_above_nine.ensures ∙ ap any_above_nine c.listed-listed.ensures) ∙ c.if-any_above_nine.false) (omega (arith, c.if-listed-index.true, ap length c.listed-listed.ensures)))

pub blade_total-start-requires : goal.blade_total-start-requires
blade_total-start-requires c =
    let ss = c.listed-listed.result.now in
    let i = c.args.index in
    let few : length ss ≤ 64 = omega (arith, ap length c.listed-listed.ensures, length-take c.args.shapes.count c.args.shapes.held) in
    (omega (arith, few, length-take i ss), above_take i ss (sym c.any_above_nine.ensures ∙ c.if-any_above_nine.false))

pub returns : goal.returns
unfolding value_at
returns c =
    answered_ok (λ (o : PlaceOutcome). o.number) (λ (o : PlaceOutcome). o.place) refused_place _ _ _ refl
    (listed _ c.args.index (sym (c.any_above_nine.ensures ∙ ap any_above_nine c.listed-listed.ensures) ∙ c.if-any_above_nine.false) (omega (arith, c.if-listed-index.false, ap length c.listed-listed.ensures)))
    (ap₂ (λ (ss : List Shape) (k : ℕ). record { shape = get_or ss c.args.index (shape_of 0 Vanilla); start = k }) c.listed-listed.ensures (c.blade_total-start.ensures ∙ ap (λ (ss : List Shape). blade_total (take c.args.index ss)) c.listed-listed.ensures))
