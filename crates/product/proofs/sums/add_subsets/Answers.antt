use mathlib.Core.Path.{◌≡◌, refl, sym, ◌∙◌, ap}
use mathlib.Core.Bool.{Bool, true, false, ◌&&◌, ◌||◌, and-true, and-false}
use mathlib.Core.List.{List}
use mathlib.Core.Logic.{⊎_elim}
use Prim.Native.Nat.{ℕ, ◌+◌, ◌-◌, ◌^◌, ◌≤◌, ◌<◌}
use native.Mathlib.Omega.{arith}
use lib.Bits.{bit_and, and_le_r}
use lib.Dec.{eqb, ltb}
use lib.Ieee.{Float}
use lib.ListN.{length}
use borrow.Author.Tests.{le-ltb, lt-leb}
use Rattle.masks.proofs.ListLaws.{split}
use Rattle.masks.proofs.OrderLaws.{blades_le}
use Rattle.product.specs.inner.Sums.{with_pairs, subset_from}
use Rattle.product.proofs.Subsets.{next_subset, and_twice, next_rises, next_before, last_before}
use Rattle.product.proofs.SumsMasks.{subset_lt, subset_free, subset_more}
use Rattle.product.proofs.SumsPairs.{pairs_length, pairs_none, with_pair, pairs_more}
use Rattle.product.proofs.sums.add_subsets.Goals.{At-loop-s, Else-s-eq0}
use Rattle.product.proofs.sums.add_subsets.Goals as goal

-- A mask that passes has a subset before s.
abbrev before : ℕ → ℕ → ℕ → ℕ → ℕ → Bool
before base free from s m = subset_from base free from m && ltb (bit_and m free) s

-- None comes before the first.
none_before : (base free from m : ℕ) → before base free from from m ≡ false
none_before base free from m =
    let q = bit_and m free in
    ⊎_elim (λ (l : q < from). ap (λ x. (eqb m (base + q) && x) && ltb q from) (lt-leb from q l) ∙ ap (λ x. x && ltb q from) (and-false (eqb m (base + q))))
    (λ (l : from ≤ q). ap (λ x. subset_from base free from m && x) (le-ltb q from l) ∙ and-false (subset_from base free from m)) (split q from)

-- The sums keep their length.
kept : (c : At-loop-s) → length c.loop-s.acc ≡ 2 ^ c.args.left.dims
kept c =
    let a = c.args in
    ap length c.loop-s.invariant.added ∙ pairs_length a.blade a.y a.left.am.now (before a.base a.free a.from c.loop-s.s) a.acc.now ∙ c.requires.mask_bound.1

-- The mask of a turn.
mask_lt : (c : At-loop-s) → c.args.base + c.loop-s.s < 2 ^ c.args.left.dims
mask_lt c =
    let a = c.args in
    subset_lt a.left.dims a.base a.free c.requires.free_bound.0 c.requires.free_bound.1 c.loop-s.s c.loop-s.invariant.subset

-- A turn takes in the mask of s.
taken_in : (c : At-loop-s) (w : List Float) (u : ℕ → Bool) →
    let a = c.args in
    w ≡ with_pair (a.base + c.loop-s.s) a.blade a.y a.left.am.now c.loop-s.acc
    → ((k : ℕ) → k < 2 ^ a.left.dims → u k ≡ (before a.base a.free a.from c.loop-s.s k || eqb k (a.base + c.loop-s.s)))
    → w ≡ with_pairs u a.blade a.y a.left.am.now a.acc.now
taken_in c w u e more =
    let a = c.args in
    let t = c.loop-s.s in
    let test = before a.base a.free a.from t in
    let own : test (a.base + t) ≡ false =
    ap (λ (q : ℕ). subset_from a.base a.free a.from (a.base + t) && ltb q t) (subset_free a.left.dims a.base a.free c.requires.free_bound.0 c.requires.free_bound.1 t c.loop-s.invariant.subset)
    ∙ ap (λ x. subset_from a.base a.free a.from (a.base + t) && x) (le-ltb t t (omega arith)) ∙ and-false (subset_from a.base a.free a.from (a.base + t))
    in
    e ∙ ap (with_pair (a.base + t) a.blade a.y a.left.am.now) c.loop-s.invariant.added
    ∙ pairs_more a.blade a.y a.left.am.now a.left.dims c.requires.mask_bound.0 a.acc.now c.requires.mask_bound.1 test u (a.base + t) (mask_lt c) own more

-- Where another subset is next, it comes after s, with none between the two.
module _ (c : Else-s-eq0) where
  abbrev next : ℕ
  next = let a = c.args in next_subset a.left.dims a.free c.loop-s.s

  same : bit_and (c.loop-s.s + (length c.args.acc.now - c.args.free)) c.args.free ≡ next
  same = ap (λ (n : ℕ). bit_and (c.loop-s.s + (n - c.args.free)) c.args.free) c.requires.mask_bound.1

  rises : c.loop-s.s < next
  rises = next_rises c.args.left.dims c.args.free c.loop-s.s (omega arith) c.loop-s.invariant.subset (λ e. c.if-s-eq0.false (same ∙ e))

pub loop-s-init : goal.loop-s-init
loop-s-init c =
    let a = c.args in
    record {
      subset = c.requires.free_bound.2;
      later = omega arith;
      added = sym (pairs_none a.blade a.y a.left.am.now a.left.dims c.requires.mask_bound.0 a.acc.now c.requires.mask_bound.1 (before a.base a.free a.from a.from)
          (λ m l. none_before a.base a.free a.from m));
    }

pub overflow_add-base : goal.overflow_add-base
overflow_add-base c = omega (arith, mask_lt (goal.at.overflow_add-base c).At-loop-s, blades_le c.args.left.dims c.args.left.few)

pub add_pair-requires : goal.add_pair-requires
add_pair-requires c =
    let s = (goal.at.add_pair-requires c).At-loop-s in
    (mask_lt s, c.requires.mask_bound.0, refl, kept s)

pub overflow_add-s : goal.overflow_add-s
overflow_add-s c = omega (arith, mask_lt (goal.at.overflow_add-s c).At-loop-s, c.requires.mask_bound.1, blades_le c.args.left.dims c.args.left.few)

pub returns-then-s-eq0 : goal.returns-then-s-eq0
returns-then-s-eq0 c =
    let a = c.args in
    let d = a.left.dims in
    let t = c.loop-s.s in
    let i = c.loop-s.invariant in
    let test = subset_from a.base a.free a.from in
    let last : next_subset d a.free t ≡ 0 = sym (ap (λ (n : ℕ). bit_and (t + (n - a.free)) a.free) c.requires.mask_bound.1) ∙ c.if-s-eq0.true in
    taken_in (goal.at.returns-then-s-eq0 c).At-loop-s c.add_pair.new.acc test c.add_pair.ensures
    (λ k h. sym (and-true (test k)) ∙ subset_more d a.base a.free c.requires.free_bound.0 c.requires.free_bound.1 t i.subset a.from i.later k true
    (sym (last_before d a.free t (omega arith) i.subset last (bit_and k a.free) (and_twice k a.free))))

pub shape_of-acc-then-s-eq0 : goal.shape_of-acc-then-s-eq0
shape_of-acc-then-s-eq0 c =
    let a = c.args in
    ap length (returns-then-s-eq0 c) ∙ pairs_length a.blade a.y a.left.am.now (subset_from a.base a.free a.from) a.acc.now

pub loop-s-smaller : goal.loop-s-smaller
loop-s-smaller c = omega (arith, same c, rises c, and_le_r (c.loop-s.s + (2 ^ c.args.left.dims - c.args.free)) c.args.free)

pub loop-s-preserved : goal.loop-s-preserved
loop-s-preserved c =
    let a = c.args in
    let d = a.left.dims in
    let t = c.loop-s.s in
    let i = c.loop-s.invariant in
    let e = c.add_pair.ensures in
    let low : a.free < 2 ^ d = omega arith in
    record {
      subset = and_twice (t + (length a.acc.now - a.free)) a.free;
      later = omega (arith, same c, rises c);
      added = taken_in (goal.at.loop-s-preserved c).At-loop-s c.add_pair.new.acc _ e
          (λ k h. subset_more d a.base a.free c.requires.free_bound.0 c.requires.free_bound.1 t i.subset a.from i.later k _
          (ap (ltb (bit_and k a.free)) (same c)
          ∙ next_before d a.free t low i.subset (λ q. c.if-s-eq0.false (same c ∙ q)) (bit_and k a.free) (and_twice k a.free)));
    }
