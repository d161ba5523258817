use mathlib.Core.Path.{◌≡◌, refl, sym, ap, ap₂, ◌∙◌}
use mathlib.Core.Bool.{cond}
use Prim.Native.Nat.{ℕ, ◌^◌, ◌<◌}
use native.Mathlib.Numerals.{add-one}
use native.Mathlib.Omega.{arith}
use lib.Bits.{bit_and}
use lib.Count.{ones}
use lib.Dec.{eqb}
use lib.Ieee.{Float, nan, binary64, of_bits, of_fields, add, mul, of_int}
use lib.IntN.{pos}
use lib.ListN.{get_or}
use Rattle.clifford.specs.Sign.{sign}
use Rattle.masks.proofs.OrderLaws.{order_at}
use Rattle.product.specs.Pairwise.{mask_at}
use Rattle.arithmetic.specs.Magnitude.{weight, weighed, weighed_sum}
use Rattle.arithmetic.proofs.MagnitudeLaws.{weight_by}
use Rattle.arithmetic.proofs.magnitude.sum_squares.Goals.{After-weight_of}
use Rattle.arithmetic.proofs.magnitude.sum_squares.Goals as goal

-- The weight that is found is that of the mask of place i.
module _ (c : After-weight_of) where
  abbrev i : ℕ
  i = c.loop-i.i

  within : i < 2 ^ c.args.dims
  within = omega (arith, c.requires.1)

  weighs : c.weight_of.result ≡ of_int binary64 (weight c.args.flavor c.args.dims (mask_at c.args.dims i))
  weighs =
      let s = c.squares_of-s.result in
      c.weight_of.ensures
      ∙ ap (λ (m : ℕ). of_int binary64 (cond (eqb (bit_and m s.null) 0) (sign (ones (bit_and m s.lower))) (pos 0))) (c.requires.3 i within)
      ∙ ap (of_int binary64) (sym (weight_by c.args.flavor s.null s.lower c.args.dims (mask_at c.args.dims i) c.squares_of-s.ensures c.requires.0 (order_at c.args.dims i within).low))

pub loop-i-init : goal.loop-i-init
unfolding weighed_sum of_bits of_fields
loop-i-init c = refl

pub loop-i-preserved : goal.loop-i-preserved
unfolding weighed_sum weighed
loop-i-preserved c =
    let x = get_or c.args.a.now (i c) nan in
    rw (add-one (i c)) (ap₂ (λ (y w : Float). add binary64 y (mul binary64 (mul binary64 w x) x)) c.loop-i.invariant (weighs c))
