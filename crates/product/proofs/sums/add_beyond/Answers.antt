use mathlib.Core.Path.{refl, sym, ◌∙◌}
use Prim.Native.Nat.{◌-◌}
use native.Mathlib.Omega.{arith}
use lib.Bits.{bit_and}
use lib.ListN.{length}
use Rattle.product.specs.inner.Sums.{subset_from, beyond}
use Rattle.product.proofs.Subsets.{and_twice}
use Rattle.product.proofs.SumsPairs.{pairs_ext, pairs_none}
use Rattle.product.proofs.SumsTests.{free_of, free_lt, free_add, free_apart, beyond_none, beyond_test}
use Rattle.product.proofs.sums.add_beyond.Goals as goal

pub overflow_sub-n : goal.overflow_sub-n
overflow_sub-n c = omega (arith, c.requires.1, free_lt c.args.left.dims (length c.args.acc.now) c.requires.1 c.args.blade.mask c.requires.0)

pub add_subsets-requires-clause-free_bound : goal.add_subsets-requires-clause-free_bound
add_subsets-requires-clause-free_bound c =
    let d = c.args.left.dims in
    let n = length c.args.acc.now in
    let b = c.args.blade.mask in
    let free = free_of d n c.requires.1 b c.requires.0 in
    (free_add d n c.requires.1 b c.requires.0, free_apart d n c.requires.1 b c.requires.0, and_twice (n - free) free)

pub returns-then-free-ne0 : goal.returns-then-free-ne0
returns-then-free-ne0 c =
    let a = c.args in
    let b = a.blade.mask in
    let n = length a.acc.now in
    let free = free_of a.left.dims n c.requires.1 b c.requires.0 in
    let from = bit_and (n - free) free in
    c.add_subsets.ensures
    ∙ pairs_ext a.blade a.y a.left.am.now a.left.dims c.requires.0 a.acc.now c.requires.1 (subset_from b free from) (beyond b)
    (beyond_test a.left.dims n c.requires.1 b c.requires.0 c.if-free-ne0.true from refl)

pub returns-else-free-ne0 : goal.returns-else-free-ne0
returns-else-free-ne0 c =
    let a = c.args in
    let b = a.blade.mask in
    sym (pairs_none a.blade a.y a.left.am.now a.left.dims c.requires.0 a.acc.now c.requires.1 (beyond b)
    (beyond_none a.left.dims (length a.acc.now) c.requires.1 b c.requires.0 c.if-free-ne0.false))
