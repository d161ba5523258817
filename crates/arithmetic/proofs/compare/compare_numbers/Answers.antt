use mathlib.Core.Path.{sym, ◌∙◌}
use Rattle.arithmetic.proofs.CompareLaws.{ordered, unordered}
use Rattle.arithmetic.proofs.compare.compare_numbers.Goals as goal

pub returns-in-Some : goal.returns-in-Some
returns-in-Some c = sym (ordered c.args.x c.args.y c.in-Some.order (sym c.in-Some.ensures))

pub returns-in-None : goal.returns-in-None
returns-in-None c = c.compare_nan.ensures ∙ sym (unordered c.args.x c.args.y (sym c.in-None.ensures))
