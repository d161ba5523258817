use mathlib.Core.Path.{◌≡◌, sym, ap, ◌∙◌}
use mathlib.Core.Bool.{Bool, true, false}
use mathlib.Core.List.{List}
use Prim.Native.Nat.{◌≤◌, ◌<◌}
use native.Mathlib.Omega.{arith}
use borrow.Author.Rules.{rules}
use lib.Ieee.{Float, nan}
use lib.ListN.{length, get_or}
use lib.Pow.{pow_pos}
use Rattle.std.proofs.lemmas.Result.{err_from_is_err_and}
use Rattle.std.specs.Prelude.{Err}
use Rattle.masks.specs.declared.outcome.Refusal.{Refusal}
use Rattle.masks.specs.declared.shape.Shape.{Shape}
use Rattle.masks.specs.Outcome.{Gives, refusal, number_of, pair_tests}
use Rattle.masks.specs.Shape.{conform_to, conform}
use Rattle.masks.proofs.OutcomeLaws.{gives_refused}
use Rattle.arithmetic.specs.Operators.{is_other, joined_dims, operator_tests, with_coefs, Sum, summed_at0, summed_pair, addition}
use Rattle.arithmetic.specs.Operators.Sum.{Plus}
use Rattle.arithmetic.proofs.OperatorsLaws.{other_numbered, operator_passed, add_by_scalar, add_by_other, was_other, was_scalar}
use Rattle.arithmetic.proofs.operators.add_values.Goals as goal

-- The number that is found, where it does not count for refused dimensions whether the right is scalar.
module _ (s t : Shape) (a b out : List Float) (other : Bool) (h : t.dims ≤ 9 → other ≡ is_other t b) where
  numbered : refusal (pair_tests s.dims t.dims (joined_dims s t other) (length a) (length b) (length out)) ≡ refusal (operator_tests s t a b (length out))
  numbered = other_numbered s t other a b (length out) h

  refused : (op : Sum) (e : Refusal) → refusal (pair_tests s.dims t.dims (joined_dims s t other) (length a) (length b) (length out)) ≡ number_of e → Gives (addition op s t a b (length out)) (Err e) out out
  unfolding addition
  refused op e q = gives_refused _ e _ out (sym numbered ∙ q)

  module _ (op : Sum) (z : refusal (pair_tests s.dims t.dims (joined_dims s t other) (length a) (length b) (length out)) ≡ 0) where
    unrefused : refusal (operator_tests s t a b (length out)) ≡ 0
    unrefused = sym numbered ∙ z

    by_other : other ≡ true → addition op s t a b (length out) ≡ summed_pair op (conform s t a b (length out) 512)
    by_other e = add_by_other s t a b (length out) op unrefused (was_other s t a b (length out) other h unrefused e)

    by_scalar : other ≡ false → addition op s t a b (length out) ≡ with_coefs (summed_at0 op (get_or b 0 nan)) (conform_to s t a (length out))
    by_scalar e = add_by_scalar s t a b (length out) op unrefused (was_scalar s t a b (length out) other h unrefused e)

    first : 0 < length b
    first = omega (arith, (operator_passed s t a b (length out) unrefused).counted_right, pow_pos t.dims)

pub returns-in_err-joined_refusal : goal.returns-in_err-joined_refusal
returns-in_err-joined_refusal g c op h =
    let a = c.args in
    let p = err_from_is_err_and c.from_residual.result c.from_residual.ensures.1 in
    rw (p.1, p.2) (refused a.left a.right a.a.now a.b.now a.out.now c.is_other-other.result c.is_other-other.ensures op c.in_err-joined_refusal.field-0.0 c.in_err-joined_refusal.ensures)

pub add_each-requires-clause-accepted : goal.add_each-requires-clause-accepted
add_each-requires-clause-accepted g c =
    let a = c.args in
    ap (λ (x : Bool). refusal (pair_tests a.left.dims a.right.dims (joined_dims a.left a.right x) (length a.a.now) (length a.b.now) (length a.out.now))) (sym c.if-other.true) ∙ c.in_ok-joined_refusal.ensures.0

pub returns-then-other : goal.returns-then-other
returns-then-other g c op h =
    let a = c.args in
    rw (by_other a.left a.right a.a.now a.b.now a.out.now _ c.is_other-other.ensures op c.in_ok-joined_refusal.ensures.0 c.if-other.true) (c.add_each.ensures op h)

pub bounds-b-0 : goal.bounds-b-0
bounds-b-0 g c =
    let a = c.args in
    let h : 0 < length a.b.now = first a.left a.right a.a.now a.b.now a.out.now _ c.is_other-other.ensures Plus c.in_ok-joined_refusal.ensures.0 in
    search rules

pub returns : goal.returns
returns g c op h =
    let a = c.args in
    rw (by_scalar a.left a.right a.a.now a.b.now a.out.now _ c.is_other-other.ensures op c.in_ok-joined_refusal.ensures.0 c.if-other.false) (c.add_scalar.ensures op h)
