use mathlib.Core.Path.{refl}
use lib.Ieee.{of_bits, of_fields}
use Rattle.arithmetic.proofs.ScalarLaws.{four_next}
use Rattle.arithmetic.proofs.scalar.four_zero.Goals as goal

pub returns : goal.returns
unfolding of_bits of_fields
returns c = four_next c.args.a.now c.args.i _ _ _ _ c.requires refl refl refl refl
