use mathlib.Core.Path.{◌≡◌, refl, sym, ◌∙◌, ap}
use mathlib.Core.Bool.{Bool, true, false, ◌&&◌, ◌||◌, and-true}
use mathlib.Core.List.{List}
use Prim.Native.Nat.{ℕ, ◌+◌, ◌-◌, ◌^◌, ◌<◌}
use native.Mathlib.Omega.{arith}
use lib.Bits.{bit_and, bit_xor, and_zero_l, and_zero_r, and_le_l, xor_lt}
use lib.Dec.{eqb}
use lib.Ieee.{Float}
use lib.ListN.{length}
use borrow.Author.Tests.{eq-eqb}
use Rattle.clifford.specs.Pairs.{within}
use Rattle.product.specs.declared.mode.Mode.{Mode}
use Rattle.product.specs.declared.mode.Mode.TheVariants.{All, Left, Right, Inner, Outer}
use Rattle.product.specs.Mode.{takes}
use Rattle.product.specs.inner.Sums.{meets, with_pairs, subset_from, beyond}
use Rattle.product.proofs.SumsPairs.{pairs_ext, pairs_none, pairs_both}
use Rattle.product.proofs.SumsTests.{free_lt, free_add, free_apart, left_test, right_none, inner_null, inner_apart, inner_both, all_test, right_test}
use Rattle.product.proofs.sums.add_blade.Goals.{Start}
use Rattle.product.proofs.sums.add_blade.Goals as goal

-- ---- what the function is given
module _ (s : Start) where
  abbrev d : ℕ
  d = s.args.left.dims

  abbrev n : ℕ
  n = length s.args.acc.now

  abbrev b : ℕ
  b = s.args.blade.mask

  abbrev null : ℕ
  null = s.args.blade.null

  size : n ≡ 2 ^ d
  size = s.requires.mask_bound.1

  b_lt : b < 2 ^ d
  b_lt = s.requires.mask_bound.0

  inside : bit_and b null ≡ null
  inside = s.requires.null_value

  null_lt : null < 2 ^ d
  null_lt = omega (arith, b_lt, inside, and_le_l b null)

  -- The sums as they are given, with the pairs that pass a test.
  abbrev pairs : (ℕ → Bool) → List Float
  pairs t = with_pairs t s.args.blade s.args.y s.args.left.am.now s.args.acc.now

  -- The masks that pass the test are those that meet the blade.
  by_mode : (mode : Mode) (t : ℕ → Bool) (w : List Float) → s.args.mode ≡ mode → ((m : ℕ) → m < 2 ^ d → t m ≡ meets mode s.args.blade m)
      → w ≡ pairs t → w ≡ pairs (meets s.args.mode s.args.blade)
  by_mode mode t w p h e =
      e ∙ pairs_ext s.args.blade s.args.y s.args.left.am.now d b_lt s.args.acc.now size t (meets mode s.args.blade) h
      ∙ ap (λ (v : Mode). pairs (meets v s.args.blade)) (sym p)

  -- With no null vector each mask is free of them.
  none_null : null ≡ 0 → (m : ℕ) → eqb (bit_and m null) 0 ≡ true
  none_null z m = eq-eqb (bit_and m null) 0 (ap (bit_and m) z ∙ and_zero_r m)

  -- What `add_subsets` asks of no base.
  asked : (free : ℕ) → free < 2 ^ d → (0 + free < 2 ^ d) × (bit_and 0 free ≡ 0) × (bit_and 0 free ≡ 0)
  asked free h = (omega arith, and_zero_l free, and_zero_l free)

  all_asked : (0 + bit_xor (n - 1) null < 2 ^ d) × (bit_and 0 (bit_xor (n - 1) null) ≡ 0) × (bit_and 0 (bit_xor (n - 1) null) ≡ 0)
  all_asked = asked (bit_xor (n - 1) null) (free_lt d n size null null_lt)

  left_asked : (0 + bit_xor b null < 2 ^ d) × (bit_and 0 (bit_xor b null) ≡ 0) × (bit_and 0 (bit_xor b null) ≡ 0)
  left_asked = asked (bit_xor b null) (xor_lt d b null b_lt null_lt)

  -- And of the blade as the base, with all other vectors free.
  right_asked : (b + bit_xor (n - 1) b < 2 ^ d) × (bit_and b (bit_xor (n - 1) b) ≡ 0) × (bit_and 0 (bit_xor (n - 1) b) ≡ 0)
  right_asked = (free_add d n size b b_lt, free_apart d n size b b_lt, and_zero_l (bit_xor (n - 1) b))

pub add_subsets-requires-clause-free_bound : goal.add_subsets-requires-clause-free_bound
add_subsets-requires-clause-free_bound c = all_asked (goal.at.add_subsets-requires-clause-free_bound c).Start

pub add_subsets-requires-then-null-eq0-2-clause-free_bound : goal.add_subsets-requires-then-null-eq0-2-clause-free_bound
add_subsets-requires-then-null-eq0-2-clause-free_bound c = right_asked (goal.at.add_subsets-requires-then-null-eq0-2-clause-free_bound c).Start

pub add_subsets-requires-in-Outer-clause-free_bound : goal.add_subsets-requires-in-Outer-clause-free_bound
add_subsets-requires-in-Outer-clause-free_bound c = all_asked (goal.at.add_subsets-requires-in-Outer-clause-free_bound c).Start

-- All, no null vector.
pub returns-then-null-eq0 : goal.returns-then-null-eq0
unfolding takes
returns-then-null-eq0 c =
    let s = (goal.at.returns-then-null-eq0 c).Start in
    by_mode s All (λ m. true) _ c.in-All.is (λ m h. sym (none_null s c.if-null-eq0.true m)) c.add_all.ensures

-- All.
pub returns-else-null-eq0 : goal.returns-else-null-eq0
unfolding takes
returns-else-null-eq0 c =
    let s = (goal.at.returns-else-null-eq0 c).Start in
    by_mode s All (subset_from 0 (bit_xor (n s - 1) (null s)) 0) _ c.in-All.is (all_test (d s) (n s) (size s) (null s) (null_lt s))
    c.add_subsets.ensures

-- Left.
pub returns-in-Left : goal.returns-in-Left
unfolding takes
returns-in-Left c =
    let s = (goal.at.returns-in-Left c).Start in
    by_mode s Left (subset_from 0 (bit_xor (b s) (null s)) 0) _ c.in-Left.is (λ m h. left_test (d s) (b s) (null s) (b_lt s) (inside s) m)
    c.add_subsets-in-Left.ensures

-- Right, no null vector.
pub returns-then-null-eq0-2 : goal.returns-then-null-eq0-2
unfolding takes
returns-then-null-eq0-2 c =
    let s = (goal.at.returns-then-null-eq0-2 c).Start in
    by_mode s Right (subset_from (b s) (bit_xor (n s - 1) (b s)) 0) _ c.in-Right.is
    (λ m h.
    right_test (d s) (n s) (size s) (b s) (b_lt s) m h
    ∙ sym (ap (λ x. within (b s) m && x) (none_null s c.if-null-eq0-2.true m) ∙ and-true (within (b s) m)))
    c.add_subsets-then-null-eq0-2.ensures

-- Right: no mask has all of b and is free of null vectors.
pub returns-else-null-eq0-2 : goal.returns-else-null-eq0-2
unfolding takes
returns-else-null-eq0-2 c =
    let s = (goal.at.returns-else-null-eq0-2 c).Start in
    let a = c.args in
    by_mode s Right (λ m. false) a.acc.now c.in-Right.is (λ m h. sym (right_none (d s) (b s) (null s) (b_lt s) (inside s) m c.if-null-eq0-2.false))
    (sym (pairs_none a.blade a.y a.left.am.now (d s) (b_lt s) a.acc.now (size s) (λ m. false) (λ m h. refl)))

-- Inner, no null vector.
pub returns-then-null-eq0-3 : goal.returns-then-null-eq0-3
unfolding takes
returns-then-null-eq0-3 c =
    let s = (goal.at.returns-then-null-eq0-3 c).Start in
    let a = c.args in
    let t = subset_from 0 (bit_xor (b s) (null s)) 0 in
    by_mode s Inner (λ m. t m || beyond (b s) m) _ c.in-Inner.is
    (λ m h. inner_both (d s) (b s) (null s) (b_lt s) (inside s) m c.if-null-eq0-3.true)
    (c.add_beyond.ensures
    ∙ ap (with_pairs (beyond (b s)) a.blade a.y a.left.am.now) c.add_subsets-in-Inner.ensures
    ∙ pairs_both a.blade a.y a.left.am.now (d s) (b_lt s) a.acc.now (size s) t (beyond (b s))
    (λ m h. inner_apart (d s) (b s) (null s) (b_lt s) (inside s) m))

-- Inner.
pub returns-else-null-eq0-3 : goal.returns-else-null-eq0-3
unfolding takes
returns-else-null-eq0-3 c =
    let s = (goal.at.returns-else-null-eq0-3 c).Start in
    by_mode s Inner (subset_from 0 (bit_xor (b s) (null s)) 0) _ c.in-Inner.is
    (λ m h. inner_null (d s) (b s) (null s) (b_lt s) (inside s) m c.if-null-eq0-3.false) c.add_subsets-in-Inner.ensures

-- Outer.
pub returns-in-Outer : goal.returns-in-Outer
unfolding takes
returns-in-Outer c =
    let s = (goal.at.returns-in-Outer c).Start in
    by_mode s Outer (subset_from 0 (bit_xor (n s - 1) (null s)) 0) _ c.in-Outer.is (all_test (d s) (n s) (size s) (null s) (null_lt s))
    c.add_subsets-in-Outer.ensures
