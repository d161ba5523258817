use mathlib.Core.Path.{◌≡◌, refl, sym, ap, ap₂, ◌∙◌}
use Prim.Native.Nat.{ℕ, ◌+◌, ◌^◌, ◌≤◌, max}
use native.Mathlib.Omega.{arith}
use lib.ListN.{length}
use Rattle.std.proofs.lemmas.Result.{err_from_is_err_and}
use Rattle.masks.specs.Outcome.{refusal, laid, result_tests}
use Rattle.masks.specs.Shape.{promotes, conformed, conformed_shape, conform_to}
use Rattle.masks.proofs.ShapeLaws.{promotes_le, promoted_small}
use Rattle.masks.proofs.OrderLaws.{none_counted}
use Rattle.masks.proofs.OutcomeLaws.{Taken, taken, needed_same, gives_refused, gives_ok, result_tests_same}
use Rattle.masks.proofs.shape.Shape.conform_to.Goals.{After-refusal_of}
use Rattle.masks.proofs.shape.Shape.conform_to.Goals as goal

-- The definition's number is the code's.
module _ (c : After-refusal_of) where
  few : c.promotion-up.result ≤ 1
  few = omega (arith, c.promotion-up.ensures, promotes_le c.args.self.flavor c.args.other.flavor)

  abbrev own : ℕ
  own = c.args.self.dims

  abbrev dims : ℕ
  dims = max (own + promotes c.args.self.flavor c.args.other.flavor) c.args.other.dims

  grown : own ≤ 9 → c.saturating_add.result ≡ own + c.promotion-up.result
  grown = promoted_small own _ _ c.saturating_add.ensures few

  same : own ≤ 9 → c.max-n.result ≡ dims
  same h = c.max-n.ensures ∙ ap (λ n. max n c.args.other.dims) (grown h ∙ ap (λ u. own + u) c.promotion-up.ensures)

  sized : refusal (result_tests own c.max-n.result (length c.args.a.now) (length c.args.out.now) c.blades_or_none.result) ≡ refusal (result_tests own c.max-n.result (length c.args.a.now) (length c.args.out.now) (2 ^ c.max-n.result))
  sized = needed_same own c.max-n.result (length c.args.a.now) (length c.args.out.now) _ _ (none_counted c.blades_or_none.ensures)

  number : refusal (result_tests own dims (length c.args.a.now) (length c.args.out.now) (2 ^ dims)) ≡ refusal (result_tests own c.max-n.result (length c.args.a.now) (length c.args.out.now) c.blades_or_none.result)
  number = sym (sized ∙ result_tests_same own c.max-n.result dims (length c.args.a.now) (length c.args.out.now) same)

  -- The call is not refused.
  ok : refusal (result_tests own c.max-n.result (length c.args.a.now) (length c.args.out.now) c.blades_or_none.result) ≡ 0 → Taken own c.max-n.result (length c.args.a.now) (length c.args.out.now) (2 ^ c.max-n.result)
  ok z = taken own c.max-n.result (length c.args.a.now) (length c.args.out.now) _ (sym sized ∙ z)

pub returns-in_err-refusal_of : goal.returns-in_err-refusal_of
unfolding conform_to
returns-in_err-refusal_of c =
    let p = err_from_is_err_and c.from_residual.result c.from_residual.ensures.1 in
    let f = c.in_err-refusal_of in
    rw (p.1, p.2) (gives_refused _ f.field-0.0 _ _ (number (goal.at.returns-in_err-refusal_of c).After-refusal_of ∙ f.ensures))

pub invariant_of-conform_one : goal.invariant_of-conform_one
invariant_of-conform_one c =
    let t = ok (goal.at.invariant_of-conform_one c).After-refusal_of c.in_ok-refusal_of.ensures.0 in
    record { small = t.small; counted = t.counted }

pub conform_one-requires : goal.conform_one-requires
conform_one-requires c =
    let r = (goal.at.conform_one-requires c).After-refusal_of in
    let t = ok r c.in_ok-refusal_of.ensures.0 in
    (few r, omega (arith, t.result, c.max-n.ensures, grown r t.small), t.result, t.roomy)

pub returns : goal.returns
unfolding conform_to
returns c =
    let a = c.args in
    let r = (goal.at.returns c).After-refusal_of in
    let z = c.in_ok-refusal_of.ensures.0 in
    let e = c.promotion-up.ensures in
    let n = same r (ok r z).small in
    gives_ok _ _ _ _ _ (number r ∙ z) refl (c.conformed.ensures ∙ ap₂ (λ u n. conformed_shape u a.self n) e n)
    (c.conform_one.ensures ∙ ap₂ (λ u n. laid (conformed u a.self.dims n a.a.now) a.out.now) e n)
