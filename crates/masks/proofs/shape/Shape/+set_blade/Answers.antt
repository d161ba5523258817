use mathlib.Core.Path.{◌≡◌, refl, sym, ap, ap₂, subst, ◌∙◌}
use Prim.Native.Nat.{ℕ, ◌+◌, ◌-◌, ◌^◌, ◌≤◌, ◌<◌}
use native.Mathlib.Omega.{arith}
use lib.ListN.{length}
use lib.Seq.{length-take-le}
use Rattle.std.proofs.lemmas.Result.{err_from_is_err_and}
use Rattle.masks.specs.Outcome.{laid, Gives}
use Rattle.masks.specs.Shape.{with_dims}
use Rattle.masks.specs.Blade.{set_blade}
use Rattle.masks.proofs.OrderLaws.{blades_le}
use Rattle.masks.proofs.OutcomeLaws.{gives_refused, gives_ok}
use Rattle.masks.proofs.ShapeLaws.{resized_held}
use Rattle.masks.proofs.BladeLaws.{below_nine, dims_here, blade_here, Placed, placed, blade_grown}
use Rattle.masks.proofs.shape.Shape.+set_blade.Goals.{In_ok-set_blade_refusal, Else-mask-blades}
use Rattle.masks.proofs.shape.Shape.+set_blade.Goals as goal

module _ (t : ℕ) where
  -- the call is not refused
  ok : (c : In_ok-set_blade_refusal t) → Placed c.args.self.dims c.args.mask (length c.args.a.now) (length c.args.out.now)
  ok c =
      let a = c.args in
      placed a.self.dims a.mask (length a.a.now) (length a.out.now) c.in_ok-set_blade_refusal.ensures.0

  -- the mask is outside
  module _ (c : Else-mask-blades t) (p : Placed c.args.self.dims c.args.mask (length c.args.a.now) (length c.args.out.now)) where
    outside : 2 ^ c.args.self.dims ≤ c.args.mask
    outside = omega arith

    more : c.args.self.dims < 9
    more = below_nine c.args.self.dims c.args.mask p.small outside p.low

    few : 2 ^ (c.args.self.dims + 1) ≤ 512
    few = blades_le (c.args.self.dims + 1) (omega (arith, more))

pub returns-in_err-set_blade_refusal : goal.returns-in_err-set_blade_refusal
unfolding set_blade
returns-in_err-set_blade_refusal t c =
    let p = err_from_is_err_and c.from_residual.result c.from_residual.ensures.1 in
    let f = c.in_err-set_blade_refusal in
    rw (p.1, p.2) (gives_refused _ f.field-0.0 _ _ f.ensures)

pub blades-requires : goal.blades-requires
blades-requires t c = (ok t (goal.at.blades-requires t c).In_ok-set_blade_refusal).small

pub invariant_of-value : goal.invariant_of-value
invariant_of-value t c =
    let p = ok t (goal.at.invariant_of-value t c).In_ok-set_blade_refusal in
    record { small = p.small; counted = p.counted }

pub put_blade-requires : goal.put_blade-requires
put_blade-requires t c =
    let a = c.args in
    let p = ok t (goal.at.put_blade-requires t c).In_ok-set_blade_refusal in
    let h : a.mask < 2 ^ a.self.dims = omega arith in
    (h, omega (arith, p.roomy, ap (λ n. 2 ^ n) (dims_here (9 - a.self.dims) a.self.dims a.mask h)))

pub returns-then-mask-blades : goal.returns-then-mask-blades
unfolding set_blade
returns-then-mask-blades t c =
    let a = c.args in
    let k = 9 - a.self.dims in
    let h : a.mask < 2 ^ a.self.dims = omega arith in
    gives_ok _ _ _ _ _ c.in_ok-set_blade_refusal.ensures.0 refl (ap (λ n. with_dims a.self n) (sym (dims_here k a.self.dims a.mask h)))
    (c.put_blade.ensures ∙ ap (λ xs. laid xs a.out.now) (sym (blade_here k a.self.dims a.mask a.x a.a.now h)))

pub invariant_of-value-2 : goal.invariant_of-value-2
invariant_of-value-2 t c =
    let p = ok t (goal.at.invariant_of-value-2 t c).In_ok-set_blade_refusal in
    record { small = p.small; counted = p.counted }

pub resize-requires : goal.resize-requires
resize-requires t c =
    let at = goal.at.resize-requires t c in
    let p = ok t at.In_ok-set_blade_refusal in
    (omega (arith, more t at.Else-mask-blades p), few t at.Else-mask-blades p)

pub blades-count-requires : goal.blades-count-requires
blades-count-requires t c =
    let at = goal.at.blades-count-requires t c in
    omega (arith, more t at.Else-mask-blades (ok t at.In_ok-set_blade_refusal))

pub slice_bounds-held-end : goal.slice_bounds-held-end
slice_bounds-held-end t c =
    let at = goal.at.slice_bounds-held-end t c in
    omega (arith, c.blades-count.ensures, few t at.Else-mask-blades (ok t at.In_ok-set_blade_refusal), c.resize.auto.out)

pub slice_bounds-set_blade-end : goal.slice_bounds-set_blade-end
slice_bounds-set_blade-end t c =
    let at = goal.at.slice_bounds-set_blade-end t c in
    sym (length-take-le _ _ (omega (arith, c.blades-count.ensures, few t at.Else-mask-blades (ok t at.In_ok-set_blade_refusal), c.resize.auto.out)))

pub set_blade-requires : goal.set_blade-requires
set_blade-requires t c =
    let at = goal.at.set_blade-requires t c in
    let d : c.with_dims.result.dims ≡ c.args.self.dims + 1 = ap (λ x. x.dims) c.with_dims.ensures in
    let m = more t at.Else-mask-blades (ok t at.In_ok-set_blade_refusal) in
    let h : 9 - c.with_dims.result.dims < t = omega (arith, c.decreases) in
    (h, tt)

pub returns : goal.returns
returns t c =
    let at = goal.at.returns t c in
    let a = c.args in
    let p = ok t at.In_ok-set_blade_refusal in
    let held = resized_held a.self.dims (a.self.dims + 1) _ a.a.now _ _ c.blades-count.ensures c.resize.ensures in
    subst (λ o. Gives o c.set_blade.result a.out.now c.set_blade.new.out)
    (ap₂ (λ z xs. set_blade z a.mask a.x xs (length a.out.now)) c.with_dims.ensures held
    ∙ blade_grown a.self a.mask a.x a.a.now (length a.out.now) p (outside t at.Else-mask-blades p))
    c.set_blade.ensures
