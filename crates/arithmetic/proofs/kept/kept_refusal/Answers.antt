use mathlib.Core.Path.{subst, ◌∙◌}
use Prim.Native.Nat.{ℕ}
use Rattle.masks.specs.Outcome.{IsAnswer}
use Rattle.masks.proofs.OutcomeLaws.{needed_same}
use Rattle.masks.proofs.OrderLaws.{none_counted}
use Rattle.arithmetic.proofs.KeptLaws.{kept_tests_lem}
use Rattle.arithmetic.proofs.kept.kept_refusal.Goals as goal

pub returns : goal.returns
returns c =
    let a = c.args in
    subst (λ (k : ℕ). IsAnswer k tt c.refusal_of.result)
    (needed_same a.shape.dims a.shape.dims _ _ _ _ (none_counted c.blades_or_none-needed.ensures) ∙ kept_tests_lem a.shape a.a.now a.room) c.refusal_of.ensures
