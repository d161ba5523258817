use mathlib.Core.Path.{sym, ◌∙◌}
use native.Mathlib.Omega.{arith}
use Rattle.arithmetic.proofs.CompareLaws.{scalar_some, scalars_same, scalars_differ}
use Rattle.arithmetic.proofs.compare.equal_scalars.Goals as goal

pub bounds-a-0 : goal.bounds-a-0
bounds-a-0 c = omega (arith, scalar_some c.args.a.now c.requires.0, scalar_some c.args.b.now c.requires.1)

pub bounds-b-0 : goal.bounds-b-0
bounds-b-0 c = omega (arith, scalar_some c.args.a.now c.requires.0, scalar_some c.args.b.now c.requires.1)

pub returns-then-a-b : goal.returns-then-a-b
returns-then-a-b c = c.same_number.ensures ∙ sym (scalars_same c.args.a.now c.args.b.now c.requires.0 c.requires.1 c.if-a-b.true)

pub bounds-a-0-2 : goal.bounds-a-0-2
bounds-a-0-2 c = omega (arith, scalar_some c.args.a.now c.requires.0, scalar_some c.args.b.now c.requires.1)

pub bounds-b-0-2 : goal.bounds-b-0-2
bounds-b-0-2 c = omega (arith, scalar_some c.args.a.now c.requires.0, scalar_some c.args.b.now c.requires.1)

pub returns : goal.returns
returns c = sym (scalars_differ c.args.a.now c.args.b.now c.if-a-b.false)
