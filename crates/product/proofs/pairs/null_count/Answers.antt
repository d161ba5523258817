use mathlib.Core.Path.{◌≡◌, refl, sym, ◌∙◌}
use mathlib.Core.Bool.{not, cond}
use Prim.Native.Nat.{ℕ, ◌+◌}
use native.Mathlib.Numerals.{add-one}
use native.Mathlib.Omega.{arith}
use lib.IntN.{ℤ}
use Rattle.clifford.specs.Blade.{count}
use Rattle.clifford.specs.Pairs.{nonzero, nulls}
use Rattle.masks.specs.Flavor.{metric_of}
use Rattle.product.proofs.PairsBounds.{nulls_le}
use Rattle.product.proofs.pairs.null_count.Goals.{After-is_null, then-is_null, else-is_null}
use Rattle.product.proofs.pairs.null_count.Goals as goal

-- One more vector counts where it squares to 0.
nulls_next : (g : ℕ → ℤ) (i : ℕ) → nulls g (i + 1) ≡ nulls g i + cond (not (nonzero (g i))) 1 0
unfolding nulls count
nulls_next g i = rw (add-one i)

-- What n is after its step.
next : (c : After-is_null) → c.loop-i.n + cond c.is_null.result 1 0 ≡ nulls (metric_of c.args.flavor) (c.loop-i.i + 1)
next c =
    let l = c.loop-i in
    let g = metric_of c.args.flavor in
    (rw (l.invariant, c.is_null.ensures, c.metric.ensures)) ∙ sym (nulls_next g l.i)

pub loop-i-init : goal.loop-i-init
unfolding nulls count
loop-i-init c = refl

pub overflow_add-n : goal.overflow_add-n
overflow_add-n c =
    let e = next (goal.at.overflow_add-n c).After-is_null in
    omega (arith, rw c.if-is_null.true at e, nulls_le (metric_of c.args.flavor) (c.loop-i.i + 1))

pub loop-i-preserved : goal.loop-i-preserved
loop-i-preserved c =
    let e = next (goal.at.loop-i-preserved c).After-is_null in
    elim c.if-is_null.branch [ then-is_null w ↦ omega (arith, rw w.if-is_null.true at e) | else-is_null w ↦ omega (arith, rw w.if-is_null.false at e) ]
