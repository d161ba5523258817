use mathlib.Core.Path.{◌≡◌, sym, ap, ◌∙◌}
use mathlib.Core.List.{List, ◌++◌}
use Prim.Native.Nat.{ℕ, ◌^◌, ◌<◌}
use native.Mathlib.Omega.{arith}
use lib.Ieee.{Float, nan, binary64}
use lib.ListN.{length, get_or, take, drop}
use lib.Seq.{length-take-le}
use Rattle.rounding.specs.Snap.{snap}
use Rattle.masks.proofs.ListLaws.{front_step, front_all}
use Rattle.product.specs.inner.Plan.{taken_by}
use Rattle.product.proofs.ListLaws.{places_length, places_at, laid_part}
use Rattle.product.proofs.sums.take_back.Goals.{Start}
use Rattle.product.proofs.sums.take_back.Goals as goal

-- what the places are to have, and those that are written
module _ (c : Start) where
  abbrev xs : List Float
  xs = taken_by c.args.plan c.args.acc.now

  long : length xs ≡ 2 ^ c.args.plan.shape.dims
  long = places_length (2 ^ c.args.plan.shape.dims) _

  part : length (take (length c.args.acc.now) c.args.out.now) ≡ 2 ^ c.args.plan.shape.dims
  part = length-take-le _ c.args.out.now (omega (arith, c.requires.0, c.requires.1)) ∙ c.requires.0

pub loop-k-preserved : goal.loop-k-preserved
loop-k-preserved c =
    let s = (goal.at.loop-k-preserved c).Start in
    let k = c.loop-k.k in
    let h : k < 2 ^ c.args.plan.shape.dims = omega (arith, part s) in
    let y : c.snap_one.result ≡ get_or (xs s) k nan =
    c.snap_one.ensures ∙ ap (λ (m : ℕ). snap binary64 (get_or c.args.acc.now m nan)) c.mask_at.ensures ∙ sym (places_at (2 ^ c.args.plan.shape.dims) _ k h) in
    rw c.loop-k.invariant (front_step k (xs s) nan _ _ y (omega (arith, long s)) (omega (arith, part s)))

pub returns : goal.returns
returns c =
    let s = (goal.at.returns c).Start in
    let k = c.loop-k.k in
    let n = length c.args.acc.now in
    let e : length (xs s) ≡ k = omega (arith, long s, part s) in
    ap (λ (l : List Float). l ++ drop n c.args.out.now) (c.loop-k.invariant ∙ front_all k (xs s) (take n c.args.out.now) e) ∙ laid_part n (xs s) c.args.out.now (long s ∙ sym c.requires.0)
