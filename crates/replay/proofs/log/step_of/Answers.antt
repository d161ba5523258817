use mathlib.Core.Path.{◌≡◌, refl}
use Prim.Native.Nat.{ℕ, zero, suc}
use native.Mathlib.Omega.{arith}
use Rattle.std.specs.Prelude.{None}
use Rattle.replay.specs.Log.{step_of}
use Rattle.replay.proofs.log.step_of.Goals as goal

-- a kind that is none of the five
any_other : (kind k : ℕ) → (kind ≡ 0 → ⊥) → (kind ≡ 1 → ⊥) → (kind ≡ 2 → ⊥) → (kind ≡ 3 → ⊥) → (kind ≡ 4 → ⊥) → None ≡ step_of kind k
unfolding step_of
any_other zero k a b d e f = absurd (a refl)
any_other (suc zero) k a b d e f = absurd (b refl)
any_other (suc (suc zero)) k a b d e f = absurd (d refl)
any_other (suc (suc (suc zero))) k a b d e f = absurd (e refl)
any_other (suc (suc (suc (suc zero)))) k a b d e f = absurd (f refl)
any_other (suc (suc (suc (suc (suc kind))))) k a b d e f = refl

pub returns-in-0 : goal.returns-in-0
unfolding step_of
returns-in-0 c = rw c.in-0.is

pub returns-in-1 : goal.returns-in-1
unfolding step_of
returns-in-1 c = rw c.in-1.is

pub returns-in-2 : goal.returns-in-2
unfolding step_of
returns-in-2 c = rw c.in-2.is

pub returns-in-3 : goal.returns-in-3
unfolding step_of
returns-in-3 c = rw c.in-3.is

pub returns-in-4 : goal.returns-in-4
unfolding step_of
returns-in-4 c = rw c.in-4.is

pub returns-in_default : goal.returns-in_default
returns-in_default c =
    any_other c.args.kind c.args.argument (λ e. omega arith) (λ e. omega arith) (λ e. omega arith) (λ e. omega arith) (λ e. omega arith)
