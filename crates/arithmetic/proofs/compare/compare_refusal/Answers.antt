use mathlib.Core.Path.{◌≡◌, subst}
use mathlib.Core.List.{[], ◌∷◌}
use Prim.Native.Nat.{ℕ, ◌^◌, ◌≤◌}
use borrow.Author.Tests.{le-ltb}
use Rattle.masks.specs.Outcome.{IsAnswer, refusal, too_many, wrong_count, no_room}
use Rattle.masks.proofs.OrderLaws.{blades_le}
use Rattle.masks.proofs.OutcomeLaws.{later_same}
use Rattle.arithmetic.proofs.compare.compare_refusal.Goals as goal

module _ (d e m n : ℕ) where
  -- Dimensions that are tested already, and room for any value, add no refusal.
  roomy : d ≤ 9 → refusal (too_many d ∷ wrong_count m d ∷ wrong_count n e ∷ no_room 512 (2 ^ d) ∷ []) ≡ refusal (wrong_count m d ∷ wrong_count n e ∷ [])
  unfolding refusal
  roomy l = rw (le-ltb 9 d l, le-ltb 512 (2 ^ d) (blades_le d l))

  fewer : refusal (too_many d ∷ too_many e ∷ too_many d ∷ wrong_count m d ∷ wrong_count n e ∷ no_room 512 (2 ^ d) ∷ []) ≡ refusal (too_many d ∷ too_many e ∷ wrong_count m d ∷ wrong_count n e ∷ [])
  fewer = later_same d _ _ (λ l. later_same e _ _ (λ h. roomy l))

pub returns : goal.returns
returns c =
    let a = c.args in
    subst (λ (k : ℕ). IsAnswer k tt c.pair_refusal.result) (fewer a.left.dims a.right.dims _ _) c.pair_refusal.ensures
