use lib.Ieee.{binary64, to_bits}
use Rattle.std.proofs.Common.{rules}
use Rattle.sheets.proofs.patterns.patterns_of.Goals as goal

pub returns : goal.returns
returns c = c.convert.ensures (to_bits binary64) (λ i d y h r. search rules)
