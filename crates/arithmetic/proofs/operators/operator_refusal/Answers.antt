use mathlib.Core.Path.{subst}
use Prim.Native.Nat.{ℕ}
use Rattle.masks.specs.Outcome.{IsAnswer}
use Rattle.arithmetic.proofs.OperatorsLaws.{other_numbered}
use Rattle.arithmetic.proofs.operators.operator_refusal.Goals as goal

pub returns : goal.returns
returns c =
    let a = c.args in
    subst (λ (k : ℕ). IsAnswer k tt c.joined_refusal.result) (other_numbered a.left a.right c.is_other.result a.a.now a.b.now a.room c.is_other.ensures) c.joined_refusal.ensures
