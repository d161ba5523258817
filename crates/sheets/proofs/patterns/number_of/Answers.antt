use mathlib.Core.Path.{sym}
use lib.Ieee.{binary64, of_bits, of_fields, div}
use lib.Ieee.Bits.{nan_bits_above}
use borrow.Author.Tests.{lt-ltb, le-ltb}
use Rattle.sheets.proofs.PatternsLaws.{nan_number}
use Rattle.sheets.proofs.patterns.number_of.Goals as goal

pub returns-then-pattern-gt9218868437227405312 : goal.returns-then-pattern-gt9218868437227405312
unfolding div of_bits of_fields
returns-then-pattern-gt9218868437227405312 c =
    let x = c.args.pattern in
    sym (nan_number x (rw (nan_bits_above binary64 x, lt-ltb _ _ c.if-pattern-gt9218868437227405312.true) tt))

pub float_from_bits-result : goal.float_from_bits-result
float_from_bits-result c = rw (nan_bits_above binary64 c.args.pattern, le-ltb _ _ c.if-pattern-gt9218868437227405312.false) tt
