use mathlib.Core.Path.{sym, ap, ap₂, ◌∙◌}
use Rattle.masks.specs.Flavor.{metric_of}
use Rattle.product.specs.inner.Metric.{mask_of, squares_below}
use Rattle.product.proofs.MetricLaws.{squares_cl}
use Prim.Native.Nat.{ℕ}
use lib.Bits.{bit_xor}
use Rattle.product.proofs.metric.squares_of.Goals as goal

pub returns-in-Vanilla : goal.returns-in-Vanilla
unfolding squares_below mask_of metric_of
returns-in-Vanilla c = rw c.in-Vanilla.is

pub returns-in-Projective : goal.returns-in-Projective
unfolding squares_below mask_of metric_of
returns-in-Projective c = rw c.in-Projective.is

pub returns-in-Cl : goal.returns-in-Cl
returns-in-Cl c =
    ap₂ (λ (x y : ℕ). record { null = x; minus = bit_xor y x }) c.low_bits-null.ensures c.low_bits.ensures
    ∙ squares_cl _ _ _ ∙ sym (ap (squares_below 9) c.in-Cl.is)
