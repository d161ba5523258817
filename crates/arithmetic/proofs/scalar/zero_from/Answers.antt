use mathlib.Core.Path.{refl, sym, ◌∙◌}
use mathlib.Core.Bool.{true, false}
use native.Mathlib.Omega.{arith}
use borrow.Author.Tests.{not-true, not-false}
use lib.Ieee.{ne, of_bits, of_fields}
use Rattle.arithmetic.proofs.ScalarLaws.{zeros_next, zeros_none}
use Rattle.arithmetic.proofs.scalar.zero_from.Goals as goal

pub loop-i-init : goal.loop-i-init
loop-i-init c = refl

pub returns-then-a-i : goal.returns-then-a-i
unfolding ne of_bits of_fields
returns-then-a-i c = sym (c.loop-i.invariant ∙ zeros_next c.args.a.now c.loop-i.i false (omega arith) (not-true _ c.if-a-i.true))

pub loop-i-preserved : goal.loop-i-preserved
unfolding ne of_bits of_fields
loop-i-preserved c = c.loop-i.invariant ∙ zeros_next c.args.a.now c.loop-i.i true (omega arith) (not-false _ c.if-a-i.false)

pub returns : goal.returns
returns c = sym (c.loop-i.invariant ∙ zeros_none c.args.a.now c.loop-i.i (omega arith))
