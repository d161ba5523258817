use mathlib.Core.Path.{◌≡◌, sym, ap, subst, ◌∙◌}
use mathlib.Core.Bool.{true, false}
use mathlib.Core.List.{List, [], ◌∷◌}
use Prim.Native.Nat.{ℕ, ◌^◌, ◌≤◌}
use borrow.Author.Tests.{le-ltb, eq-eqb, ne_eqb}
use lib.Ieee.{Float}
use lib.ListN.{length}
use Rattle.std.specs.Prelude.{Result, Ok, Err, is_err}
use Rattle.std.proofs.lemmas.Result.{err_from_is_err_and}
use Rattle.masks.specs.declared.outcome.Refusal.{Refusal}
use Rattle.masks.specs.declared.shape.Shape.{Shape}
use Rattle.masks.specs.Outcome.{Outcome, Gives, IsAnswer, number_of, refusal, too_many, wrong_count, no_room, pair_tests}
use Rattle.masks.proofs.OutcomeLaws.{refuses, later_same, refused_already, gives_refused, passed, valued}
use Rattle.arithmetic.specs.Scalar.{was_planar}
use Rattle.arithmetic.specs.Operators.{is_other}
use Rattle.arithmetic.specs.Quotient.{quotient_dims, quotient}
use Rattle.arithmetic.proofs.InverseLaws.{inverse_length}
use Rattle.arithmetic.proofs.QuotientLaws.{quotient_by_scalar, gives_planar, quotient_by_other}
use Rattle.arithmetic.proofs.quotient.div.Goals.{Joined-is_err, then-is_err+in_ok-pair_refusal, else-is_err}
use Rattle.arithmetic.proofs.quotient.div.Goals as goal

-- An answer is a refusal just where its number is not 0.
is_refused : {A : Type 0} (k : ℕ) (a : A) (r : Result A Refusal) → IsAnswer k a r → true ≡ is_err r → k ≡ 0 → ⊥
is_refused k a (Ok x) h e z = cc
is_refused k a (Err f) h e z = refuses f (sym h ∙ z)

not_refused : {A : Type 0} (k : ℕ) (a : A) (r : Result A Refusal) → IsAnswer k a r → false ≡ is_err r → k ≡ 0
not_refused k a (Ok x) h e = h.0
not_refused k a (Err f) h e = cc

-- ---- a right value that is refused
module _ (s t : Shape) (a b : List Float) (room : ℕ) (h : refusal (too_many t.dims ∷ wrong_count (length b) t.dims ∷ []) ≡ 0 → ⊥) where
  miscounted : t.dims ≤ 9 → length b ≡ 2 ^ t.dims → ⊥
  unfolding refusal
  miscounted l e = h (rw (le-ltb 9 t.dims l, eq-eqb (length b) (2 ^ t.dims) e))

  left_dims : t.dims ≤ 9 → quotient_dims s t b ≡ s.dims
  unfolding quotient_dims is_other
  left_dims l = rw (ne_eqb (length b) (2 ^ t.dims) (miscounted l))

  left_tests : refusal (pair_tests s.dims t.dims (quotient_dims s t b) (length a) (length b) room) ≡ refusal (pair_tests s.dims t.dims s.dims (length a) (length b) room)
  left_tests =
      later_same s.dims _ _
      (λ k.
      later_same t.dims _ _
      (λ l. ap (λ (n : ℕ). refusal (too_many n ∷ wrong_count (length a) s.dims ∷ wrong_count (length b) t.dims ∷ no_room room (2 ^ n) ∷ [])) (left_dims l)))

  refused_pair : refusal (pair_tests s.dims t.dims s.dims (length a) (length b) room) ≡ 0 → ⊥
  refused_pair z =
      let p = passed s.dims t.dims s.dims (length a) (length b) room z in
      miscounted p.small_right p.counted_right

  gives_miscounted : (e : Refusal) (out : List Float) → refusal (pair_tests s.dims t.dims s.dims (length a) (length b) room) ≡ number_of e → Gives (quotient s t a b room) (Err e) out out
  unfolding quotient
  gives_miscounted e out q =
      gives_refused _ e _ out
      (refused_already (pair_tests s.dims t.dims (quotient_dims s t b) (length a) (length b) room) _ (λ z. refused_pair (sym left_tests ∙ z)) ∙ left_tests ∙ q)

-- ---- a right value that is not
right_fits : (c : Joined-is_err) → (c.args.right.dims ≤ 9) × (length c.args.b.now ≡ 2 ^ c.args.right.dims)
right_fits c =
    elim c.if-is_err.branch [
      | then-is_err+in_ok-pair_refusal w ↦ let p = passed _ _ _ _ _ _ w.in_ok-pair_refusal.ensures.0 in (p.small_right, p.counted_right)
      | else-is_err w ↦ let v = valued _ _ [] (not_refused _ tt c.value_refusal.result c.value_refusal.ensures w.if-is_err.ensures.value) in (v.0.small, v.0.counted)
    ]

pub returns-in_err-pair_refusal : goal.returns-in_err-pair_refusal
returns-in_err-pair_refusal c =
    let a = c.args in
    let p = err_from_is_err_and c.from_residual.result c.from_residual.ensures.1 in
    rw (p.1, p.2)
    (gives_miscounted a.left a.right a.a.now a.b.now (length a.out.now) (is_refused _ tt c.value_refusal.result c.value_refusal.ensures c.if-is_err.ensures.value)
    c.in_err-pair_refusal.field-0.0 a.out.now c.in_err-pair_refusal.ensures)

pub invariant_of-value : goal.invariant_of-value
invariant_of-value c = let f = right_fits c in record { small = f.0; counted = f.1 }

pub mul_inverse-requires : goal.mul_inverse-requires
unfolding was_planar
mul_inverse-requires c =
    let a = c.args in
    inverse_length a.right a.b.now (right_fits (goal.at.mul_inverse-requires c).Joined-is_err).1 (ap was_planar (sym c.in-Neither.ensures))

pub returns-in-Scalar : goal.returns-in-Scalar
returns-in-Scalar c =
    let a = c.args in
    let f = right_fits (goal.at.returns-in-Scalar c).Joined-is_err in
    subst (λ (o : Outcome). Gives o c.div_f64.result a.out.now c.div_f64.new.out)
    (sym (quotient_by_scalar a.left a.right a.a.now a.b.now (length a.out.now) f.1 c.in-Scalar.f f.0 (sym c.in-Scalar.ensures)))
    c.div_f64.ensures

pub returns-in-Planar : goal.returns-in-Planar
returns-in-Planar c =
    let a = c.args in
    let f = right_fits (goal.at.returns-in-Planar c).Joined-is_err in
    gives_planar a.left a.right a.a.now a.b.now (length a.out.now) f.1 c.in-Planar.field-0 c.planar_refusal.result a.out.now (sym c.in-Planar.ensures) c.planar_refusal.ensures

pub returns-in-Neither : goal.returns-in-Neither
returns-in-Neither c =
    let a = c.args in
    let f = right_fits (goal.at.returns-in-Neither c).Joined-is_err in
    subst (λ (o : Outcome). Gives o c.mul_inverse.result a.out.now c.mul_inverse.new.out)
    (sym (quotient_by_other a.left a.right a.a.now a.b.now (length a.out.now) f.1 (sym c.in-Neither.ensures)))
    c.mul_inverse.ensures
