use mathlib.Core.Path.{◌≡◌, refl, sym, ◌∙◌, ap}
use mathlib.Core.Bool.{true, ◌||◌}
use mathlib.Core.List.{List}
use mathlib.Core.Logic.{⊎_elim}
use Prim.Native.Nat.{ℕ, ◌+◌, ◌^◌, ◌≤◌, ◌<◌}
use native.Mathlib.Omega.{arith}
use lib.Dec.{ltb, eqb}
use lib.Ieee.{Float}
use lib.ListN.{length}
use borrow.Author.Tests.{lt-ltb, le-ltb}
use Rattle.masks.proofs.ListLaws.{split}
use Rattle.product.proofs.Subsets.{before_or_at, neither_before}
use Rattle.product.proofs.SumsPairs.{pairs_length, pairs_ext, pairs_none, with_pair, pairs_more}
use Rattle.product.proofs.sums.add_all.Goals.{At-loop-m}
use Rattle.product.proofs.sums.add_all.Goals as goal

-- One mask more is below m + 1.
below_more : (m k : ℕ) → ltb k (m + 1) ≡ (ltb k m || eqb k m)
below_more m k =
    ⊎_elim (λ (l : m < k). le-ltb k (m + 1) (omega arith) ∙ sym (neither_before k m l))
    (λ (l : k ≤ m). lt-ltb k (m + 1) (omega arith) ∙ sym (before_or_at k m l)) (split m k)

-- The sums keep their length.
kept : (c : At-loop-m) → length c.loop-m.acc ≡ 2 ^ c.args.left.dims
kept c =
    let a = c.args in
    ap length c.loop-m.invariant ∙ pairs_length a.blade a.y a.left.am.now (λ k. ltb k c.loop-m.m) a.acc.now ∙ c.requires.1

pub loop-m-init : goal.loop-m-init
loop-m-init c =
    let a = c.args in
    sym (pairs_none a.blade a.y a.left.am.now a.left.dims c.requires.0 a.acc.now c.requires.1 (λ k. ltb k 0) (λ k l. le-ltb k 0 (omega arith)))

pub add_pair-requires : goal.add_pair-requires
add_pair-requires c = (omega (arith, c.requires.1), c.requires.0, refl, kept (goal.at.add_pair-requires c).At-loop-m)

pub loop-m-preserved : goal.loop-m-preserved
loop-m-preserved c =
    let a = c.args in
    let m = c.loop-m.m in
    let low : m < 2 ^ a.left.dims = omega (arith, c.requires.1) in
    c.add_pair.ensures
    ∙ ap (λ (w : List Float). with_pair m a.blade a.y a.left.am.now w) c.loop-m.invariant
    ∙ pairs_more a.blade a.y a.left.am.now a.left.dims c.requires.0 a.acc.now c.requires.1 (λ k. ltb k m) (λ k. ltb k (m + 1)) m low
    (le-ltb m m (omega arith)) (λ k h. below_more m k)

pub shape_of-acc : goal.shape_of-acc
shape_of-acc c = kept (goal.at.shape_of-acc c).At-loop-m ∙ sym c.requires.1

pub returns : goal.returns
returns c =
    let a = c.args in
    c.loop-m.invariant
    ∙ pairs_ext a.blade a.y a.left.am.now a.left.dims c.requires.0 a.acc.now c.requires.1 (λ k. ltb k c.loop-m.m) (λ k. true) (λ k h. lt-ltb k c.loop-m.m (omega (arith, c.requires.1)))
