use mathlib.Core.Path.{◌≡◌, refl, sym, ap, ◌∙◌}
use mathlib.Core.Bool.{false}
use mathlib.Core.List.{List}
use Prim.Native.Nat.{ℕ}
use native.Mathlib.Omega.{arith}
use lib.Ieee.{Float}
use lib.ListN.{length}
use Rattle.std.specs.Prelude.{Some, Result, Ok, Err, MatchResult}
use Rattle.masks.specs.declared.outcome.Refusal.{Refusal}
use Rattle.masks.specs.declared.shape.Shape.{Shape}
use Rattle.masks.specs.Outcome.{Outcome, Gives, laid}
use Rattle.masks.specs.Shape.{set_dims}
use Rattle.masks.proofs.OrderLaws.{blades_le}
use Rattle.arithmetic.specs.Operators.{multiplication}
use Rattle.arithmetic.specs.Reverse.{reverse}
use Rattle.replay.specs.declared.log.Step.{Step}
use Rattle.replay.specs.declared.log.Step.TheVariants.{Right, Left, Reverse, Dims}
use Rattle.replay.specs.declared.step.Tried.{Tried}
use Rattle.replay.specs.Step.{stepped, fires}
use Rattle.replay.specs.inner.Turns.{Tries}
use Rattle.replay.proofs.step.try_step.Goals as goal

-- A call that does what a step does, in an output of 512 numbers, and goes on.
tried : (s t : Step) (p v : Outcome) (f : ℕ → Outcome) (x : Result Shape Refusal) (r : Result Tried Refusal) (before after : List Float) → s ≡ t → stepped (Some t) p v ≡ f 512 → fires (Some t) p v ≡ false → length before ≡ 512
    → MatchResult x (λ u. r ≡ Ok (record { shape = u; halts = false })) (λ e. r ≡ Err e) → Gives (f (length before)) x before after → Tries s p v r before after
tried s t p v f (Ok u) r before after e q h l m g =
    let w : Gives (f 512) (Ok u) before after = rw l at g in
    rw (e, m)
    (record {
      answered = record { done = ap (λ (o : Outcome). o.number) q ∙ w.answered.0; shape = w.answered.1 ∙ sym (ap (λ (o : Outcome). o.shape) q); halts = sym h };
      left = w.left ∙ ap (λ (o : Outcome). laid o.coefs before) (sym q);
    })
tried s t p v f (Err d) r before after e q h l m g =
    let w : Gives (f 512) (Err d) before after = rw l at g in
    rw (e, m)
    (record { answered = ap (λ (o : Outcome). o.number) q ∙ w.answered; left = w.left ∙ ap (λ (o : Outcome). laid o.coefs before) (sym q) })

pub returns-in-Right : goal.returns-in-Right
unfolding stepped fires
returns-in-Right c =
    let a = c.args in
    tried _ (Right c.in-Right.field-0) _ _ (multiplication a.shape a.other a.a.now a.b.now) _ _ _ _ c.in-Right.is refl refl c.requires.2 c.goes_on.ensures c.mul.ensures

pub returns-in-Left : goal.returns-in-Left
unfolding stepped fires
returns-in-Left c =
    let a = c.args in
    tried _ (Left c.in-Left.field-0) _ _ (multiplication a.other a.shape a.b.now a.a.now) _ _ _ _ c.in-Left.is refl refl c.requires.2 c.goes_on-in-Left.ensures c.mul-in-Left.ensures

pub returns-in-Reverse : goal.returns-in-Reverse
unfolding stepped fires
returns-in-Reverse c =
    let a = c.args in
    tried _ Reverse _ _ (reverse a.shape a.a.now) _ _ _ _ c.in-Reverse.is refl refl c.requires.2 c.goes_on-in-Reverse.ensures c.reverse.ensures

pub returns-in-Dims : goal.returns-in-Dims
unfolding stepped fires
returns-in-Dims c =
    let a = c.args in
    tried _ (Dims c.in-Dims.m) _ _ (set_dims a.shape c.in-Dims.m a.a.now) _ _ _ _ c.in-Dims.is refl refl c.requires.2 c.goes_on-in-Dims.ensures c.set_dims.ensures

pub halt_if_equal-requires : goal.halt_if_equal-requires
halt_if_equal-requires c = omega (arith, c.requires.1, c.requires.2, blades_le c.args.shape.dims c.requires.0)

pub returns-in-Halt : goal.returns-in-Halt
returns-in-Halt c = rw c.in-Halt.is (c.halt_if_equal.ensures c.in-Halt.field-0)
