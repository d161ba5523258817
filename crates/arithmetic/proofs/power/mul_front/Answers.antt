use mathlib.Core.Path.{◌≡◌, sym, ap, ◌∙◌}
use mathlib.Core.List.{List, ◌++◌}
use Prim.Native.Nat.{ℕ, ◌+◌, ◌^◌, ◌≤◌}
use native.Mathlib.Omega.{arith}
use lib.Ieee.{Float}
use lib.ListN.{length, take, drop}
use lib.Seq.{length-take-le}
use Rattle.std.specs.Prelude.{Result}
use Rattle.masks.specs.declared.outcome.Refusal.{Refusal}
use Rattle.masks.specs.declared.shape.Shape.{Shape}
use Rattle.masks.specs.Flavor.{added_dims}
use Rattle.masks.specs.Outcome.{Outcome, Gives, laid}
use Rattle.masks.specs.Shape.{with_dims}
use Rattle.masks.proofs.ListLaws.{lay_part}
use Rattle.masks.proofs.OrderLaws.{none_counted}
use Rattle.arithmetic.specs.Operators.{multiplication}
use Rattle.arithmetic.proofs.OrderPassed.{passed_grown}
use Rattle.arithmetic.proofs.PowerLaws.{copied_on, grown_length, grown_room}
use Rattle.arithmetic.proofs.power.mul_front.Goals as goal

-- The grown shape has the flavor of the other and no fewer dimensions.
module _ (g s : Shape) (e : g ≡ with_dims s (s.dims + added_dims s.flavor)) where
  flavored : g.flavor ≡ s.flavor
  flavored = ap (λ (u : Shape). u.flavor) e

  larger : s.dims ≤ g.dims
  larger = omega (arith, ap (λ (u : Shape). u.dims) e)

  replaced : (n : ℕ) (x buf held out copy : List Float) (q : Result Shape Refusal) → g.dims ≤ 9 → n ≡ 2 ^ g.dims → length x ≡ 2 ^ s.dims → 2 ^ g.dims ≤ length out → 2 ^ g.dims ≤ length buf
      → Gives (multiplication g s (take n out) x (length buf)) q buf held → copy ≡ take n held → copy ++ drop n out ≡ laid (multiplication g s (take (2 ^ g.dims) out) x 512).coefs out
  replaced n x buf held out copy q h c k m b f t =
      let l : length (take n out) ≡ 2 ^ g.dims = length-take-le n out (omega arith) ∙ c in
      let e : held ≡ laid (multiplication g s (take n out) x 512).coefs buf =
      f.left ∙ ap (λ (o : Outcome). laid o.coefs buf) (grown_room g s (take n out) x flavored larger h l k (length buf) b) in
      copied_on n (multiplication g s (take n out) x 512).coefs buf held copy out (grown_length g s (take n out) x flavored larger h l k ∙ sym c) e t
      ∙ ap (λ (j : ℕ). laid (multiplication g s (take j out) x 512).coefs out) c

pub mul_by-requires : goal.mul_by-requires
mul_by-requires c =
    let a = c.args in
    let v = c.requires.grown_value in
    passed_grown a.grown a.base.shape a.given.now (flavored a.grown a.base.shape v.0) (larger a.grown a.base.shape v.0) c.requires.in_order

pub returns : goal.returns
returns c =
    let a = c.args in
    let v = c.requires.grown_value in
    let x = c.requires.room in
    let k = none_counted c.blades_or_none-n.ensures v.1 in
    replaced a.grown a.base.shape v.0 c.blades_or_none-n.result a.base.numbers.now a.next.now _ a.out.now _ c.mul_by.result
    v.1 k a.base.counted x.0 x.1 c.mul_by.ensures (c.lay.ensures ∙ lay_part c.blades_or_none-n.result c.mul_by.new.out a.out.now (omega (arith, k, c.mul_by.auto.out, x.1)) (omega (arith, k, x.0)))
