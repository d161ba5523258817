use mathlib.Core.Path.{◌≡◌, refl, sym, ap, ap₂, ◌∙◌}
use Prim.Native.Nat.{ℕ, ◌+◌, ◌^◌, ◌≤◌}
use native.Mathlib.Omega.{arith}
use lib.ListN.{length}
use Rattle.std.proofs.lemmas.Result.{err_from_is_err_and}
use Rattle.masks.specs.Outcome.{refusal, laid, result_tests}
use Rattle.masks.specs.Shape.{promotes, conformed, set_flavor}
use Rattle.masks.proofs.ShapeLaws.{conformed_same, promotes_le, promoted_small}
use Rattle.masks.proofs.OrderLaws.{none_counted}
use Rattle.masks.proofs.OutcomeLaws.{Taken, taken, needed_same, gives_refused, gives_ok, result_tests_same}
use Rattle.masks.proofs.shape.Shape.set_flavor.Goals.{After-refusal_of}
use Rattle.masks.proofs.shape.Shape.set_flavor.Goals as goal

-- The definition's number is the code's.
module _ (c : After-refusal_of) where
  few : c.promotion-up.result ≤ 1
  few = omega (arith, c.promotion-up.ensures, promotes_le c.args.self.flavor c.args.flavor)

  abbrev own : ℕ
  own = c.args.self.dims

  abbrev dims : ℕ
  dims = own + promotes c.args.self.flavor c.args.flavor

  same : own ≤ 9 → c.saturating_add-n.result ≡ dims
  same l = promoted_small own _ _ c.saturating_add-n.ensures few l ∙ ap (λ u. own + u) c.promotion-up.ensures

  number : refusal (result_tests own dims (length c.args.a.now) (length c.args.out.now) (2 ^ dims)) ≡ refusal (result_tests own c.saturating_add-n.result (length c.args.a.now) (length c.args.out.now) c.blades_or_none.result)
  number =
      sym (needed_same own c.saturating_add-n.result (length c.args.a.now) (length c.args.out.now) _ _ (none_counted c.blades_or_none.ensures)
      ∙ result_tests_same own c.saturating_add-n.result dims (length c.args.a.now) (length c.args.out.now) same)

  -- The call is not refused.
  ok : refusal (result_tests own c.saturating_add-n.result (length c.args.a.now) (length c.args.out.now) c.blades_or_none.result) ≡ 0 → Taken own dims (length c.args.a.now) (length c.args.out.now) (2 ^ dims)
  ok z = taken own dims (length c.args.a.now) (length c.args.out.now) _ (number ∙ z)

pub returns-in_err-refusal_of : goal.returns-in_err-refusal_of
unfolding set_flavor
returns-in_err-refusal_of c =
    let p = err_from_is_err_and c.from_residual.result c.from_residual.ensures.1 in
    let f = c.in_err-refusal_of in
    rw (p.1, p.2) (gives_refused _ f.field-0.0 _ _ (number (goal.at.returns-in_err-refusal_of c).After-refusal_of ∙ f.ensures))

pub invariant_of-conform_one : goal.invariant_of-conform_one
invariant_of-conform_one c =
    let t = ok (goal.at.invariant_of-conform_one c).After-refusal_of c.in_ok-refusal_of.ensures.0 in
    record { small = t.small; counted = t.counted }

pub conform_one-requires : goal.conform_one-requires
conform_one-requires c =
    let r = (goal.at.conform_one-requires c).After-refusal_of in
    let t = ok r c.in_ok-refusal_of.ensures.0 in
    let e = c.promotion-up.ensures in
    let n = same r t.small in
    (few r, omega (arith, e, t.result), omega (arith, n, t.result), omega (arith, ap (λ k. 2 ^ k) n, t.roomy))

pub returns : goal.returns
unfolding set_flavor
returns c =
    let a = c.args in
    let r = (goal.at.returns c).After-refusal_of in
    let z = c.in_ok-refusal_of.ensures.0 in
    let t = ok r z in
    let up = promotes a.self.flavor a.flavor in
    gives_ok _ _ _ _ _ (number r ∙ z) refl
    (c.with_flavor.ensures ∙ rw (c.with_dims.ensures, same r t.small))
    (c.conform_one.ensures
    ∙ ap₂ (λ u n. laid (conformed u a.self.dims n a.a.now) a.out.now) c.promotion-up.ensures (same r t.small)
    ∙ ap (λ xs. laid xs a.out.now) (conformed_same up (own r) (dims r) a.a.now (promotes_le _ _) refl t.result t.counted))
