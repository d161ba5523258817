use mathlib.Core.Path.{◌≡◌, refl, sym, ap, ◌∙◌}
use mathlib.Core.List.{List}
use Prim.Native.Nat.{◌^◌, ◌<◌}
use native.Mathlib.Omega.{arith}
use borrow.Author.Rules.{rules}
use lib.Pow.{pow_pos}
use lib.Ieee.{Float, nan}
use lib.ListN.{length, get_or, set, take, length-set}
use lib.Seq.{get_or-take}
use Rattle.std.specs.Prelude.{Ok}
use Rattle.std.proofs.lemmas.Result.{err_from_is_err_and}
use Rattle.masks.specs.declared.shape.Shape.{Shape}
use Rattle.masks.specs.Outcome.{Gives, laid}
use Rattle.masks.specs.Shape.{conform_to}
use Rattle.arithmetic.specs.Operators.{with_coefs, Sum, summed, summed_at0}
use Rattle.arithmetic.proofs.KeptLaws.{set_laid}
use Rattle.arithmetic.proofs.OperatorsLaws.{conformed_facts, changed_none, changed}
use Rattle.arithmetic.proofs.operators.add_scalar.Goals as goal

module _ (s t : Shape) (a : List Float) (u : Shape) (before mid : List Float) (g : Gives (conform_to s t a (length before)) (Ok u) before mid) where
  -- There is a place 0.
  held : 0 < length mid
  held = omega (arith, (conformed_facts s t a u before mid g).roomy, pow_pos u.dims)

  -- What was conformed, with place 0 written where it lies.
  summed_over : (op : Sum) (f y : Float) → y ≡ summed op (get_or mid 0 nan) f → Gives (with_coefs (summed_at0 op f) (conform_to s t a (length before))) (Ok u) before (set mid 0 y)
  unfolding summed_at0
  summed_over op f y e =
      let n = 2 ^ u.dims in
      changed s t a u before mid g (summed_at0 op f) n (set mid 0 y) refl (λ xs. length-set xs 0 (summed op (get_or xs 0 nan) f))
      (set_laid n mid 0 y (pow_pos u.dims) (conformed_facts s t a u before mid g).roomy
      ∙ ap (λ (v : Float). laid (set (take n mid) 0 v) mid) (e ∙ ap (λ (x : Float). summed op x f) (sym (get_or-take n mid 0 nan (pow_pos u.dims)))))

pub bounds-out-0 : goal.bounds-out-0
bounds-out-0 g c = let h : 0 < length c.conform_to.new.out = held _ _ _ _ _ _ c.in_ok-shape.ensures in search rules

pub bounds-out-0-2 : goal.bounds-out-0-2
bounds-out-0-2 g c = let h : 0 < length c.conform_to.new.out = held _ _ _ _ _ _ c.in_ok-shape.ensures in search rules

pub returns-in_err-shape : goal.returns-in_err-shape
unfolding summed_at0
returns-in_err-shape g c op h =
    let p = err_from_is_err_and c.from_residual.result c.from_residual.ensures.1 in
    rw (p.1, p.2) (changed_none _ _ _ _ _ _ c.in_err-shape.ensures (summed_at0 op c.args.f) refl)

pub returns : goal.returns
returns g c op h = summed_over _ _ _ _ _ _ c.in_ok-shape.ensures op c.args.f c.sum.result (h _ _ _ c.sum.ensures)
