use mathlib.Core.Path.{sym, ap}
use lib.ListN.{length}
use native.Mathlib.Omega.{arith}
use Rattle.masks.proofs.TextLaws.{decimal_one, decimal_two, decimal_three}
use Rattle.masks.proofs.text.decimal_length.Goals as goal

pub returns-in-0-to-9 : goal.returns-in-0-to-9
returns-in-0-to-9 c = sym (ap length (decimal_one c.args.n (omega arith)))

pub returns-in-10-to-99 : goal.returns-in-10-to-99
returns-in-10-to-99 c = sym (ap length (decimal_two c.args.n (omega arith) (omega arith)))

pub returns-in_default : goal.returns-in_default
returns-in_default c = sym (ap length (decimal_three c.args.n (omega arith) (omega arith)))
