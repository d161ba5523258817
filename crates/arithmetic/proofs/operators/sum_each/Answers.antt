use mathlib.Core.Path.{◌≡◌, sym, ap, ◌∙◌}
use mathlib.Core.List.{List}
use Prim.Native.Nat.{ℕ, ◌+◌, ◌≤◌, ◌<◌}
use native.Mathlib.Omega.{arith}
use lib.Ieee.{Float, nan}
use lib.ListN.{length, get_or, set, take}
use lib.Seq.{length-take-le, get_or-take}
use Rattle.masks.proofs.ListLaws.{front, front_step, front_all}
use Rattle.product.proofs.ListLaws.{front_next}
use Rattle.arithmetic.specs.Operators.{Sum, summed}
use Rattle.arithmetic.proofs.OperatorsLaws.{each_length, each_at}
use Rattle.arithmetic.proofs.operators.sum_each.Invariants.{sums}
use Rattle.arithmetic.proofs.operators.sum_each.Goals as goal

module _ (op : Sum) (b out : List Float) (h : length b ≤ length out) where
  fronts : length (take (length b) out) ≡ length b
  fronts = length-take-le (length b) out h

  sums_length : length (sums op b out) ≡ length b
  sums_length = each_length op (take (length b) out) b fronts ∙ fronts

  -- While k of them are written, the sum with what is at k is the next one.
  sums_next : (k : ℕ) → k < length b → summed op (get_or (front k (sums op b out) out) k nan) (get_or b k nan) ≡ get_or (sums op b out) k nan
  sums_next k l =
      ap (λ (x : Float). summed op x (get_or b k nan)) (front_next k (sums op b out) out (omega (arith, sums_length)) ∙ sym (get_or-take (length b) out k nan l))
      ∙ sym (each_at op (take (length b) out) b k (omega (arith, fronts)) l)

  -- That one written at k, one more is.
  sums_step : (k : ℕ) (now : List Float) (y : Float) → k < length b → now ≡ front k (sums op b out) out → y ≡ summed op (get_or now k nan) (get_or b k nan) → set now k y ≡ front (k + 1) (sums op b out) out
  sums_step k now y l e q =
      let next : y ≡ get_or (sums op b out) k nan = q ∙ ap (λ (o : List Float). summed op (get_or o k nan) (get_or b k nan)) e ∙ sums_next k l in
      rw e (front_step k (sums op b out) nan out y next (omega (arith, sums_length)) (omega arith))

pub loop-k-preserved : goal.loop-k-preserved
loop-k-preserved g c op h =
    let s = c.args in
    let l = c.loop-k in
    sums_step op s.b.now s.out.now c.requires.room l.k l.out c.sum.result c.loop-k-test.true (l.invariant op h) (h _ _ _ c.sum.ensures)

pub returns : goal.returns
returns g c op h =
    let s = c.args in
    let l = c.loop-k in
    let e : l.k ≡ length s.b.now = omega (arith, c.loop-k-test.false, l.auto.k-end) in
    l.invariant op h ∙ front_all l.k (sums op s.b.now s.out.now) s.out.now (sums_length op s.b.now s.out.now c.requires.room ∙ sym e)
