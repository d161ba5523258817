use lib.Ieee.{binary64, of_bits}
use Rattle.std.proofs.Common.{rules}
use Rattle.sheets.proofs.patterns.numbers_of.Goals as goal

pub returns : goal.returns
returns c = c.convert.ensures (of_bits binary64) (λ i d y h r. search rules)
