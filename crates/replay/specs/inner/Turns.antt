-- The arrays in which a pose and a named value are held. For the contracts of private functions: no public contract rests on it. Assumes nothing.
use Rattle.std.specs.Prelude.{◌≡◌, Bool, List, map, ℕ, ◌+◌, ◌*◌, ◌^◌, Float, take, drop, Some, Result, MatchResult}
use Rattle.std.specs.Float.{binary64}
use Rattle.std.specs.Float.Ieee.{of_bits}
use Rattle.masks.specs.declared.outcome.Refusal.{Refusal}
use Rattle.masks.specs.declared.shape.Shape.{Shape}
use Rattle.masks.specs.Outcome.{number_of, Outcome, value, laid}
use Rattle.sheets.specs.Bytes.{from_little_endian, parts}
use Rattle.replay.specs.declared.log.Step.{Step}
use Rattle.replay.specs.declared.step.Tried.{Tried}
use Rattle.replay.specs.Step.{stepped, fires}

-- The value of a shape that is at the front of an array.
abbrev pub held_value : Shape → List Float → Outcome
held_value s xs = value s (take (2 ^ s.dims) xs)

-- The n numbers in bytes that start after those of `count` shapes and `start` coefficients.
abbrev pub numbers_at : List ℕ → ℕ → ℕ → ℕ → List Float
numbers_at b count start n = map (of_bits binary64) (map from_little_endian (parts 8 n (drop (6 + 5 * count + 8 * start) b)))

-- A step that is done has the shape of the outcome o, and whether it fires.
pub record IsTried (o : Outcome) (fired : Bool) (t : Tried) : Type 0 where
  pub done : o.number ≡ 0
  pub shape : t.shape ≡ o.shape
  pub halts : t.halts ≡ fired

-- A step was tried of a pose and a value: its answer with the output before and after, and whether it fires.
pub record Tries (s : Step) (p v : Outcome) (r : Result Tried Refusal) (before after : List Float) : Type 0 where
  pub answered : MatchResult r (IsTried (stepped (Some s) p v) (fires (Some s) p v)) (λ refused. (stepped (Some s) p v).number ≡ number_of refused)
  pub left : after ≡ laid (stepped (Some s) p v).coefs before
