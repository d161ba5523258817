use mathlib.Core.Path.{◌≡◌, sym, ap, ◌∙◌}
use Prim.Native.Nat.{ℕ, ◌^◌}
use native.Mathlib.Omega.{arith}
use lib.Pow.{pow_pos}
use Rattle.arithmetic.specs.Scalar.{test_of}
use Rattle.arithmetic.proofs.ScalarLaws.{planar_two}
use Rattle.arithmetic.proofs.scalar.test_other.Goals as goal

pub bounds-a-0 : goal.bounds-a-0
bounds-a-0 c = omega (arith, pow_pos c.args.shape.dims)

pub bounds-a-3 : goal.bounds-a-3
bounds-a-3 c =
    let s = c.args in
    let d = planar_two s.shape s.a.now (sym c.is_planar.ensures ∙ c.if-is_planar.true) in
    let e : 2 ^ s.shape.dims ≡ 4 = ap (λ (n : ℕ). 2 ^ n) d in
    omega (arith, e)

pub returns-then-is_planar : goal.returns-then-is_planar
unfolding test_of
returns-then-is_planar c = rw (c.requires.1, sym c.is_planar.ensures ∙ c.if-is_planar.true)

pub returns : goal.returns
unfolding test_of
returns c = rw (c.requires.1, sym c.is_planar.ensures ∙ c.if-is_planar.false)
