use mathlib.Core.Path.{◌≡◌}
use Prim.Native.Nat.{◌%◌}
use native.Mathlib.Omega.{arith}
use lib.Bits.{bit_and}
use lib.Count.{ones}
use lib.Ieee.{of_bits, of_fields, of_int, round, neg}
use borrow.Author.Tests.{eq-eqb, ne_eqb}
use Rattle.clifford.proofs.SignLaws.{sign_even, sign_odd}
use Rattle.arithmetic.proofs.magnitude.weight_of.Goals as goal

pub returns-then-mask-s-ne0 : goal.returns-then-mask-s-ne0
unfolding of_bits of_fields of_int round neg
returns-then-mask-s-ne0 c = rw (ne_eqb _ _ c.if-mask-s-ne0.true)

pub returns-then-mask-s-eq0 : goal.returns-then-mask-s-eq0
unfolding of_bits of_fields of_int round neg
returns-then-mask-s-eq0 c = rw (eq-eqb _ _ c.if-mask-s-ne0.false, sign_even _ c.if-mask-s-eq0.true)

pub returns-else-mask-s-eq0 : goal.returns-else-mask-s-eq0
unfolding of_bits of_fields of_int round neg
returns-else-mask-s-eq0 c =
    let a = c.args in
    let e : ones (bit_and a.mask a.s.lower) % 2 ≡ 1 = omega (arith, c.if-mask-s-eq0.false) in
    rw (eq-eqb _ _ c.if-mask-s-ne0.false, sign_odd _ e)
