use mathlib.Core.Path.{refl, sym, ◌∙◌}
use mathlib.Core.Bool.{true, false}
use native.Mathlib.Omega.{arith}
use lib.Ieee.{of_bits, of_fields}
use Rattle.arithmetic.proofs.ScalarLaws.{scalar_none, scalar_rest, scalar_three}
use Rattle.arithmetic.proofs.scalar.is_scalar.Goals as goal

pub returns-then-a-eq0 : goal.returns-then-a-eq0
returns-then-a-eq0 c = sym (scalar_none c.args.a.now c.if-a-eq0.true)

pub returns-then-a-lt4 : goal.returns-then-a-lt4
returns-then-a-lt4 c = c.zero_from.ensures ∙ sym (scalar_rest c.args.a.now c.if-a-eq0.false)

pub returns-then-a-3 : goal.returns-then-a-3
unfolding of_bits of_fields
returns-then-a-3 c =
    let a = c.args.a.now in
    c.zero_by_fours.ensures ∙ sym (scalar_three a true true true (omega arith) c.if-a.true c.if-a-2.true c.if-a-3.true)

pub returns-then-a-2 : goal.returns-then-a-2
unfolding of_bits of_fields
returns-then-a-2 c =
    let a = c.args.a.now in
    sym (scalar_three a true true false (omega arith) c.if-a.true c.if-a-2.true c.if-a-3.false)

pub returns-then-a : goal.returns-then-a
unfolding of_bits of_fields
returns-then-a c =
    let a = c.args.a.now in
    sym (scalar_three a true false _ (omega arith) c.if-a.true c.if-a-2.false refl)

pub returns : goal.returns
unfolding of_bits of_fields
returns c =
    let a = c.args.a.now in
    sym (scalar_three a false _ _ (omega arith) c.if-a.false refl refl)
