use mathlib.Core.Path.{◌≡◌, refl, sym, ap, ◌∙◌}
use mathlib.Core.Bool.{false, ◌&&◌}
use mathlib.Core.List.{List}
use Prim.Native.Nat.{ℕ, suc, ◌^◌, ◌≤◌, ◌<◌}
use native.Mathlib.Omega.{arith}
use lib.Ieee.{Float}
use lib.IntN.{ℤ, pos, negsuc}
use lib.ListN.{length}
use mir.Syntax.{w32}
use mir.Val.{SFits}
use mir.ValLaws.{to_z-of_z}
use Rattle.std.specs.Prelude.{Ok, Err}
use Rattle.std.proofs.lemmas.Result.{err_from_is_err_and}
use Rattle.masks.specs.declared.outcome.Refusal.{Refusal}
use Rattle.masks.specs.declared.shape.Shape.{Shape}
use Rattle.masks.specs.Outcome.{Gives, laid, number_of, value, refusal}
use Rattle.masks.specs.Shape.{with_dims}
use Rattle.masks.proofs.OutcomeLaws.{gives_refused, gives_ok}
use Rattle.arithmetic.specs.Scalar.{test_of, was_planar}
use Rattle.arithmetic.specs.Power.{is_negative, size_of, power_dims, power_of, power_tests, power}
use Rattle.arithmetic.proofs.PowerLaws.{PowerAccepted, none_refused}
use Rattle.arithmetic.proofs.power.powi.Goals as goal

size_small : (z : ℤ) → SFits w32 z → (size_of z ≡ 2 ^ 31 → ⊥) → size_of z < 2 ^ 31
size_small (pos n) f h = f.sfits
size_small (negsuc n) f h = below n f.sfits h
  where
    below : (n : ℕ) → n < 2 ^ 31 → (suc n ≡ 2 ^ 31 → ⊥) → suc n < 2 ^ 31
    below n l g = omega (arith, g)

-- What the calls are given is the power y that is read back from its bits.
module _ (s : Shape) (y z : ℤ) (a out : List Float) (b : y ≡ z) where
  number : refusal (power_tests s y a (length out)) ≡ refusal (power_tests s z a (length out))
  number = ap (λ (x : ℤ). refusal (power_tests s x a (length out))) b

  not_done : (e : Refusal) → refusal (power_tests s y a (length out)) ≡ number_of e → Gives (power s z a (length out)) (Err e) out out
  unfolding power
  not_done e h = gives_refused _ e _ out (sym number ∙ h)

  module _ (d : refusal (power_tests s y a (length out)) ≡ 0) where
    known : PowerAccepted s z a (length out) × ((is_negative z && was_planar (test_of s a)) ≡ false) × (size_of z ≡ 2 ^ 31 → ⊥)
    known = none_refused s z a (length out) (sym number ∙ d)

    asked : SFits w32 z → (power_dims s (size_of y) ≤ 9) × (size_of y < 2 ^ 31)
    asked f = rw b (known.0.result, size_small z f known.2)

    invertible : (is_negative y && was_planar (test_of s a)) ≡ false
    invertible = rw b known.1

    roomy : 2 ^ power_dims s (size_of y) ≤ length out
    roomy = rw b known.0.roomy

    all_done : (after : List Float) (n : ℕ) (u : Shape) → after ≡ laid (power_of s y a) out → (s.dims ≤ 9 → n ≡ power_dims s (size_of y)) → u ≡ with_dims s n → Gives (power s z a (length out)) (Ok u) out after
    unfolding power
    all_done after n u q m w =
        gives_ok _ (value (with_dims s (power_dims s (size_of z))) (power_of s z a)) u out after (sym number ∙ d) refl
        (w ∙ ap (with_dims s) (m known.0.small ∙ ap (λ (x : ℤ). power_dims s (size_of x)) b))
        (q ∙ ap (λ (x : ℤ). laid (power_of s x a) out) b)

pub returns-in_err-power_refusal : goal.returns-in_err-power_refusal
returns-in_err-power_refusal c =
    let a = c.args in
    let p = err_from_is_err_and c.from_residual.result c.from_residual.ensures.1 in
    rw (p.1, p.2) (not_done a.shape _ a.exponent a.a.now a.out.now (to_z-of_z w32 a.exponent c.ranges.exponent) c.in_err-power_refusal.field-0.0 c.in_err-power_refusal.ensures)

pub put_power-requires-clause-power_bound : goal.put_power-requires-clause-power_bound
put_power-requires-clause-power_bound c =
    let a = c.args in
    asked a.shape _ a.exponent a.a.now a.out.now (to_z-of_z w32 a.exponent c.ranges.exponent) c.in_ok-power_refusal.ensures.0 c.ranges.exponent

pub put_power-requires-clause-invertible : goal.put_power-requires-clause-invertible
put_power-requires-clause-invertible c =
    let a = c.args in
    invertible a.shape _ a.exponent a.a.now a.out.now (to_z-of_z w32 a.exponent c.ranges.exponent) c.in_ok-power_refusal.ensures.0

pub put_power-requires-clause-room : goal.put_power-requires-clause-room
put_power-requires-clause-room c =
    let a = c.args in
    roomy a.shape _ a.exponent a.a.now a.out.now (to_z-of_z w32 a.exponent c.ranges.exponent) c.in_ok-power_refusal.ensures.0

pub invariant_of-put_power : goal.invariant_of-put_power
invariant_of-put_power c =
    let a = c.args in
    let k = known a.shape _ a.exponent a.a.now a.out.now (to_z-of_z w32 a.exponent c.ranges.exponent) c.in_ok-power_refusal.ensures.0 in
    record { small = k.0.small; counted = k.0.counted }

pub returns : goal.returns
returns c =
    let a = c.args in
    all_done a.shape _ a.exponent a.a.now a.out.now (to_z-of_z w32 a.exponent c.ranges.exponent) c.in_ok-power_refusal.ensures.0 _ c.power_dims.result c.with_dims.result
    c.put_power.ensures c.power_dims.ensures c.with_dims.ensures
