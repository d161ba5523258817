use mathlib.Core.Path.{refl, sym, ap, ◌∙◌}
use mathlib.Core.Bool.{Bool, ◌&&◌}
use Prim.Native.Nat.{◌+◌}
use native.Mathlib.Omega.{arith}
use lib.ListN.{drop}
use Rattle.arithmetic.specs.Scalar.{all_zero}
use Rattle.arithmetic.proofs.scalar.zero_by_fours.Goals as goal

pub loop-i-init : goal.loop-i-init
loop-i-init c = (omega arith, refl)

pub returns-then-not-four_zero : goal.returns-then-not-four_zero
returns-then-not-four_zero c =
    let a = c.args.a.now in
    sym (c.loop-i.invariant.1 ∙ c.four_zero.ensures ∙ ap (λ (b : Bool). b && all_zero (drop (c.loop-i.i + 4) a)) c.if-not-four_zero.true)

pub loop-i-preserved : goal.loop-i-preserved
loop-i-preserved c =
    let a = c.args.a.now in
    (omega arith, c.loop-i.invariant.1 ∙ c.four_zero.ensures ∙ ap (λ (b : Bool). b && all_zero (drop (c.loop-i.i + 4) a)) c.if-not-four_zero.false)

pub returns : goal.returns
returns c = c.zero_from.ensures ∙ sym c.loop-i.invariant.1
