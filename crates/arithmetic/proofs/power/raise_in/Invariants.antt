use mathlib.Core.Path.{◌≡◌}
use mathlib.Core.List.{List}
use Prim.Native.Nat.{ℕ, ◌+◌, ◌^◌, ◌<◌}
use lib.Ieee.{Float}
use lib.ListN.{length}
use Rattle.masks.specs.declared.shape.Shape.{Shape}
use Rattle.masks.specs.Flavor.{added_dims}
use Rattle.masks.specs.Outcome.{laid}
use Rattle.arithmetic.specs.Power.{raised, by_digits}
use Rattle.arithmetic.proofs.power.raise_in.Given as goal

-- ---- what is left to do
-- The value r at the front of the output and the base b, changed as f does, give the whole power by k digits of p.
pub record Left (s : Shape) (power : ℕ) (x out₀ base₀ : List Float) (f : List Float → List Float) (out base : List Float) (p : ℕ) : Type 0 where
  pub k : ℕ
  pub r : List Float
  pub b : List Float
  pub few : p < 2 ^ k
  pub long : length r ≡ 2 ^ (s.dims + added_dims s.flavor)
  pub wide : length b ≡ 2 ^ s.dims
  pub at_out : out ≡ laid r out₀
  pub at_base : base ≡ laid b base₀
  pub same : raised s k p r (f b) ≡ by_digits s power x

abbrev pub kept : List Float → List Float
kept b = b

abbrev pub invariant-loop-p : goal.invariant-loop-p
invariant-loop-p l = Left l.shape l.power l.x l.initial.out l.initial.base kept l.out l.base l.p

abbrev pub decreases-loop-p : goal.decreases-loop-p
decreases-loop-p l = l.p
