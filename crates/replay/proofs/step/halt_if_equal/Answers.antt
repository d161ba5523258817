use mathlib.Core.Path.{◌≡◌, sym, ap, ◌∙◌}
use mathlib.Core.List.{List, ◌++◌}
use Prim.Native.Nat.{ℕ}
use lib.Ieee.{Float}
use lib.ListN.{length, drop}
use Rattle.std.proofs.lemmas.Result.{err_from_is_err_and}
use Rattle.std.specs.Prelude.{Some}
use Rattle.masks.specs.declared.outcome.Refusal.{Refusal}
use Rattle.masks.specs.Outcome.{number_of, Outcome, value, refused_value, laid}
use Rattle.masks.proofs.ListLaws.{lay_front}
use Rattle.masks.proofs.OutcomeLaws.{unless_err, unless_ok}
use Rattle.replay.specs.declared.log.Step.TheVariants.{Halt}
use Rattle.replay.specs.Step.{is_equal, stepped, fires}
use Rattle.replay.proofs.step.halt_if_equal.Goals as goal

-- where `==` is refused, and where it is not
halt_refused : (k : ℕ) (p v : Outcome) (e : Refusal) → (is_equal p v).number ≡ number_of e → stepped (Some (Halt k)) p v ≡ refused_value (number_of e)
unfolding stepped
halt_refused k p v e h = unless_err refused_value (is_equal p v).number e p h

halt_done : (k : ℕ) (p v : Outcome) → (is_equal p v).number ≡ 0 → stepped (Some (Halt k)) p v ≡ p
unfolding stepped
halt_done k p v h = unless_ok refused_value (is_equal p v).number p h

pub returns-in_err-halts : goal.returns-in_err-halts
returns-in_err-halts c k =
    let a = c.args in
    let p = err_from_is_err_and c.from_residual.result c.from_residual.ensures.1 in
    let h = halt_refused k (value a.shape a.a.now) (value a.other a.b.now) c.in_err-halts.field-0.0 c.in_err-halts.ensures in
    rw (p.1, p.2) (record { answered = ap (λ (o : Outcome). o.number) h; left = ap (λ (o : Outcome). laid o.coefs a.out.now) (sym h) })

pub returns : goal.returns
unfolding fires
returns c k =
    let a = c.args in
    let e = c.in_ok-halts.ensures in
    let h = halt_done k (value a.shape a.a.now) (value a.other a.b.now) e.0 in
    record {
      answered = record { done = ap (λ (o : Outcome). o.number) h; shape = ap (λ (o : Outcome). o.shape) (sym h); halts = e.1 };
      left = ap (λ (xs : List Float). xs ++ drop (length a.a.now) a.out.now) (c.lay.ensures ∙ lay_front a.a.now a.out.now c.requires) ∙ ap (λ (o : Outcome). laid o.coefs a.out.now) (sym h);
    }
