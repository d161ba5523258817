use mathlib.Core.Path.{◌≡◌, sym, ◌∙◌}
use mathlib.Core.List.{List}
use Prim.Native.Nat.{ℕ, ◌+◌, ◌≤◌, ◌<◌}
use native.Mathlib.Omega.{arith}
use lib.Ieee.{Float, nan}
use lib.ListN.{length, get_or, set}
use Rattle.masks.proofs.ListLaws.{front, front_step, front_all}
use Rattle.arithmetic.specs.Operators.{Sum, summed, summed_each}
use Rattle.arithmetic.proofs.OperatorsLaws.{each_length, each_at}
use Rattle.arithmetic.proofs.operators.put_sums.Goals as goal

-- One sum more is written at k.
put_step : (op : Sum) (a b out : List Float) → length a ≡ length b → length a ≤ length out → (k : ℕ) (now : List Float) (y : Float) → k < length a → now ≡ front k (summed_each op a b) out
    → y ≡ summed op (get_or a k nan) (get_or b k nan) → set now k y ≡ front (k + 1) (summed_each op a b) out
put_step op a b out e h k now y l f q =
    rw f (front_step k (summed_each op a b) nan out y (q ∙ sym (each_at op a b k l (omega arith))) (omega (arith, each_length op a b e)) (omega arith))

pub loop-i-preserved : goal.loop-i-preserved
loop-i-preserved g c op h =
    let s = c.args in
    let r = c.requires.room in
    put_step op s.a.now s.b.now s.out.now r.0 r.1 c.loop-i.i c.loop-i.out c.sum.result c.loop-i-test.true (c.loop-i.invariant op h) (h _ _ _ c.sum.ensures)

pub returns : goal.returns
returns g c op h =
    let s = c.args in
    let l = c.loop-i in
    let e : l.i ≡ length s.a.now = omega (arith, c.loop-i-test.false, l.auto.i-end) in
    l.invariant op h ∙ front_all l.i (summed_each op s.a.now s.b.now) s.out.now (each_length op s.a.now s.b.now c.requires.room.0 ∙ sym e)
