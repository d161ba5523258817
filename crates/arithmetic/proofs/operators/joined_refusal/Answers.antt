use mathlib.Core.Path.{ap, subst}
use Prim.Native.Nat.{ℕ, ◌^◌}
use mathlib.Core.List.{[], ◌∷◌}
use lib.ListN.{length}
use Rattle.masks.specs.Outcome.{IsAnswer, refusal, too_many, wrong_count, no_room}
use Rattle.masks.proofs.OutcomeLaws.{later_same}
use Rattle.arithmetic.proofs.operators.joined_refusal.Goals as goal

pub returns : goal.returns
returns c =
    let a = c.args in
    subst (λ (k : ℕ). IsAnswer k tt c.pair_refusal.result)
    (later_same a.left.dims _ _
    (λ l. later_same a.right.dims _ _
    (λ r. ap (λ (n : ℕ). refusal (too_many n ∷ wrong_count (length a.a.now) a.left.dims ∷ wrong_count (length a.b.now) a.right.dims ∷ no_room a.room (2 ^ n) ∷ [])) (c.joined_dims-n.ensures l r)))) c.pair_refusal.ensures
