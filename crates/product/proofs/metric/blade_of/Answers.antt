use mathlib.Core.Path.{ap}
use Prim.Native.Nat.{ℕ}
use lib.Bits.{bit_and, bit_xor}
use Rattle.product.specs.inner.Metric.{blade_of}
use Rattle.product.proofs.metric.blade_of.Goals as goal

pub returns : goal.returns
unfolding blade_of
returns c =
    let a = c.args in
    ap (λ (m : ℕ). record { mask = a.mask; null = bit_and a.mask a.s.null; flips = bit_xor m (bit_and a.mask a.s.minus) }) c.below_bits.ensures
