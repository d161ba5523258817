use mathlib.Core.Path.{◌≡◌, refl, sym, ap, ap₂, ◌∙◌}
use Prim.Native.Nat.{ℕ, ◌+◌, ◌≤◌, max}
use native.Mathlib.Omega.{arith}
use lib.ListN.{length}
use Rattle.std.proofs.lemmas.Result.{err_from_is_err_and}
use Rattle.masks.specs.Outcome.{refusal, laid}
use Rattle.masks.specs.Shape.{promotes, conformed, conformed_shape, conform, both_tests}
use Rattle.masks.proofs.ShapeLaws.{promotes_le, promoted_small, both_tests_same, Paired, paired}
use Rattle.masks.proofs.OutcomeLaws.{gives_both_refused, gives_both_done}
use Rattle.masks.proofs.shape.Shape.conform.Goals.{After-conform_refusal}
use Rattle.masks.proofs.shape.Shape.conform.Goals as goal

-- The definition's number is the code's.
module _ (c : After-conform_refusal) where
  abbrev own : ℕ
  own = c.args.self.dims

  abbrev theirs : ℕ
  theirs = c.args.other.dims

  abbrev dims : ℕ
  dims = max (own + promotes c.args.self.flavor c.args.other.flavor) (theirs + promotes c.args.other.flavor c.args.self.flavor)

  few : c.promotion-up.result ≤ 1
  few = omega (arith, c.promotion-up.ensures, promotes_le c.args.self.flavor c.args.other.flavor)

  few_right : c.promotion-up_right.result ≤ 1
  few_right = omega (arith, c.promotion-up_right.ensures, promotes_le c.args.other.flavor c.args.self.flavor)

  grown : own ≤ 9 → c.saturating_add.result ≡ own + c.promotion-up.result
  grown = promoted_small own _ _ c.saturating_add.ensures few

  grown_right : theirs ≤ 9 → c.saturating_add-2.result ≡ theirs + c.promotion-up_right.result
  grown_right = promoted_small theirs _ _ c.saturating_add-2.ensures few_right

  same : own ≤ 9 → theirs ≤ 9 → c.max-n.result ≡ dims
  same h k =
      c.max-n.ensures
      ∙ ap₂ max (grown h ∙ ap (λ u. own + u) c.promotion-up.ensures) (grown_right k ∙ ap (λ u. theirs + u) c.promotion-up_right.ensures)

  -- what the code found, at n dimensions
  abbrev found : ℕ → ℕ
  found n = refusal (both_tests own theirs n (length c.args.a.now) (length c.args.b.now) (length c.args.out.now) (length c.args.out_right.now))

  number : found dims ≡ found c.max-n.result
  number =
      sym
      (both_tests_same own theirs c.max-n.result dims (length c.args.a.now) (length c.args.b.now) (length c.args.out.now) (length c.args.out_right.now) same)

  -- The call is not refused.
  ok : found c.max-n.result ≡ 0 → Paired own theirs c.max-n.result (length c.args.a.now) (length c.args.b.now) (length c.args.out.now) (length c.args.out_right.now)
  ok z = paired own theirs c.max-n.result (length c.args.a.now) (length c.args.b.now) (length c.args.out.now) (length c.args.out_right.now) z

  -- So the code's dimensions are the definition's.
  agreed : found c.max-n.result ≡ 0 → c.max-n.result ≡ dims
  agreed z = same (ok z).small (ok z).small_right

pub returns-in_err-conform_refusal : goal.returns-in_err-conform_refusal
unfolding conform
returns-in_err-conform_refusal c =
    let p = err_from_is_err_and c.from_residual.result c.from_residual.ensures.1 in
    let f = c.in_err-conform_refusal in
    rw (p.1, p.2) (gives_both_refused _ f.field-0.0 _ _ _ (number (goal.at.returns-in_err-conform_refusal c).After-conform_refusal ∙ f.ensures))

pub invariant_of-conform_one : goal.invariant_of-conform_one
invariant_of-conform_one c =
    let t = ok (goal.at.invariant_of-conform_one c).After-conform_refusal c.in_ok-conform_refusal.ensures.0 in
    record { small = t.small; counted = t.counted }

pub conform_one-requires : goal.conform_one-requires
conform_one-requires c =
    let r = (goal.at.conform_one-requires c).After-conform_refusal in
    let t = ok r c.in_ok-conform_refusal.ensures.0 in
    (few r, omega (arith, c.max-n.ensures, grown r t.small, t.result), t.result, t.roomy)

pub invariant_of-value_right : goal.invariant_of-value_right
invariant_of-value_right c =
    let t = ok (goal.at.invariant_of-value_right c).After-conform_refusal c.in_ok-conform_refusal.ensures.0 in
    record { small = t.small_right; counted = t.counted_right }

pub conform_one-requires-2 : goal.conform_one-requires-2
conform_one-requires-2 c =
    let r = (goal.at.conform_one-requires-2 c).After-conform_refusal in
    let t = ok r c.in_ok-conform_refusal.ensures.0 in
    (few_right r, omega (arith, c.max-n.ensures, grown_right r t.small_right, t.result), t.result, t.roomy_right)

pub returns : goal.returns
unfolding conform
returns c =
    let r = (goal.at.returns c).After-conform_refusal in
    let z = c.in_ok-conform_refusal.ensures.0 in
    let n = agreed r z in
    let e = c.promotion-up.ensures in
    let f = c.promotion-up_right.ensures in
    let a = c.args in
    gives_both_done _ _ _ _ _ _ _ _ (number r ∙ z) refl
    (c.conformed-left.ensures ∙ ap₂ (λ u n. conformed_shape u a.self n) e n)
    (c.conformed-right.ensures ∙ ap₂ (λ u n. conformed_shape u a.other n) f n)
    (c.conform_one.ensures ∙ ap₂ (λ u n. laid (conformed u (own r) n a.a.now) a.out.now) e n)
    (c.conform_one-2.ensures ∙ ap₂ (λ u n. laid (conformed u (theirs r) n a.b.now) a.out_right.now) f n)
