use mathlib.Core.Path.{refl, sym, ◌∙◌}
use mathlib.Core.Bool.{false≢true}
use native.Mathlib.Omega.{arith}
use Rattle.replay.specs.Log.{steps_of}
use Rattle.replay.proofs.LogLaws.{accepted_done, refused_ten}
use Rattle.replay.proofs.log.log_refusal.Goals as goal

pub returns-then-count-eq0 : goal.returns-then-count-eq0
returns-then-count-eq0 c =
    let a = c.args in
    refused_ten a.count (steps_of a.log.now) (λ t. omega (arith, t.some, c.if-count-eq0.true))

pub returns-then-step_count-gt-MAX_STEPS : goal.returns-then-step_count-gt-MAX_STEPS
returns-then-step_count-gt-MAX_STEPS c =
    let a = c.args in
    refused_ten a.count (steps_of a.log.now) (λ t. omega (arith, t.few, c.if-step_count-gt-MAX_STEPS.true, c.step_count.ensures))

pub returns-then-not-all_fit : goal.returns-then-not-all_fit
returns-then-not-all_fit c =
    let a = c.args in
    refused_ten a.count (steps_of a.log.now) (λ t. false≢true (sym c.if-not-all_fit.true ∙ c.all_fit.ensures ∙ t.fitting))

pub returns : goal.returns
returns c =
    let a = c.args in (
      accepted_done a.count (steps_of a.log.now) (record {
        some = omega (arith, c.if-count-eq0.false);
        few = omega (arith, c.if-step_count-gt-MAX_STEPS.false, c.step_count.ensures);
        fitting = sym c.all_fit.ensures ∙ c.if-not-all_fit.false;
      }),
      refl,
    )
