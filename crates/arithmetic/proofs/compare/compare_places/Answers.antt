use mathlib.Core.Path.{sym}
use Rattle.arithmetic.proofs.CompareLaws.{first_less, first_greater}
use Rattle.arithmetic.proofs.compare.compare_places.Goals as goal

pub returns-then-a-b : goal.returns-then-a-b
returns-then-a-b c = sym (first_less c.args.a.now c.args.b.now c.requires.0 c.requires.1 c.if-a-b.true)

pub returns-then-b-a : goal.returns-then-b-a
returns-then-b-a c = sym (first_greater c.args.a.now c.args.b.now c.requires.0 c.requires.1 c.if-a-b.false c.if-b-a.true)
