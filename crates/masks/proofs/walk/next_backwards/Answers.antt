use mathlib.Core.Path.{◌≡◌, sym}
use mathlib.Core.Logic.{⊎_elim}
use Prim.Native.Nat.{ℕ, ◌+◌, ◌^◌, ◌≤◌, ◌<◌}
use native.Mathlib.Omega.{arith}
use lib.Bits.{bit_and, and_le_l}
use lib.Count.{count_trailing_zeros}
use lib.Pow.{shr_le}
use Rattle.masks.proofs.ListLaws.{split}
use Rattle.masks.proofs.OrderBackwards.{lowest_within, next_first, next_others}
use Rattle.masks.proofs.walk.next_backwards.Goals.{Start}
use Rattle.masks.proofs.walk.next_backwards.Goals as goal

module _ (s : Start) where
  abbrev d : ℕ
  d = s.args.dims

  abbrev x : ℕ
  x = s.args.x

  -- the ones that x ends with are fewer than its bits
  few : count_trailing_zeros 32 (x + 1) < d
  few = (lowest_within d (x + 1) s.requires.0 (omega arith) s.requires.1).1

  -- and so are the zeros below its others
  others : (bit_and x (x + 1) ≡ 0 → ⊥) → (2 ^ count_trailing_zeros 32 (bit_and x (x + 1)) ≤ bit_and x (x + 1)) × (count_trailing_zeros 32 (bit_and x (x + 1)) < d)
  others h =
      lowest_within d (bit_and x (x + 1)) s.requires.0 (⊎_elim (λ (l : 0 < bit_and x (x + 1)). l) (λ (l : bit_and x (x + 1) ≤ 0). absurd (h (omega arith))) (split 0 (bit_and x (x + 1)))) (omega (arith, and_le_l x (x + 1), s.requires.1))

pub overflow_shr-result : goal.overflow_shr-result
overflow_shr-result c = omega (arith, few (goal.at.overflow_shr-result c).Start)

pub returns-then-others-eq0 : goal.returns-then-others-eq0
returns-then-others-eq0 c = rw c.bit-first.ensures (sym (next_first (d (goal.at.returns-then-others-eq0 c).Start) (x (goal.at.returns-then-others-eq0 c).Start) c.requires.0 c.if-others-eq0.true))

pub bit-requires : goal.bit-requires
bit-requires c = omega (arith, (others (goal.at.bit-requires c).Start c.if-others-eq0.false).1)

pub overflow_shr-result-2 : goal.overflow_shr-result-2
overflow_shr-result-2 c = omega (arith, few (goal.at.overflow_shr-result-2 c).Start)

pub overflow_sub-result-2 : goal.overflow_sub-result-2
overflow_sub-result-2 c = omega (arith, c.bit.ensures, shr_le c.bit.result (count_trailing_zeros 32 (x (goal.at.overflow_sub-result-2 c).Start + 1) + 1), (others (goal.at.overflow_sub-result-2 c).Start c.if-others-eq0.false).0)

pub returns : goal.returns
returns c = rw c.bit.ensures (sym (next_others (d (goal.at.returns c).Start) (x (goal.at.returns c).Start) c.if-others-eq0.false))
