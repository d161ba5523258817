-- Calls on one value that keep its shape. Assumes nothing.
use Rattle.std.specs.Prelude.{◌≡◌, Result, List, [], ◌∷◌, ◌++◌, ℕ, ◌-◌, ◌^◌, Float, length, get_or, set, take, replicate}
use Rattle.std.specs.Float.{nan}
use Rattle.masks.specs.declared.outcome.Refusal.{Refusal}
use Rattle.masks.specs.declared.shape.Shape.{Shape}
use Rattle.masks.specs.Outcome.{IsAnswer, Test, Outcome, refusal, value_tests, no_room, unless, value, refused_value, laid, nought}
use Rattle.arithmetic.specs.declared.outcome.Taken.{Taken}

-- The tests of such a call, in an output of `room` numbers.
abbrev pub kept_tests : Shape → List Float → ℕ → List Test
kept_tests s a room = value_tests s.dims (length a) ++ no_room room (2 ^ s.dims) ∷ []

-- `kept g` is the call that changes the coefficients as g does.
unfoldable pub kept : (List Float → List Float) → Shape → List Float → ℕ → Outcome
kept g s a room = unless refused_value (refusal (kept_tests s a room)) (value s (g a))

-- ---- place 0

-- The rest is set to +0.
unfoldable pub scalar_only : List Float → List Float
scalar_only a = take 1 a ++ replicate (length a - 1) nought

-- `make_scalar_only` keeps place 0.
abbrev pub make_scalar_only : Shape → List Float → ℕ → Outcome
make_scalar_only = kept scalar_only

-- Place 0 is set to +0.
abbrev pub without_scalar : List Float → List Float
without_scalar a = set a 0 nought

-- `take_scalar` hands place 0 out beside the value that is left: 0 where it is refused.
pub record Halves : Type 0 where
  pub outcome : Outcome
  pub scalar : Float

-- The call.
unfoldable pub take_scalar : Shape → List Float → ℕ → Halves
take_scalar s a room =
    record {
      outcome = kept without_scalar s a room;
      scalar = unless (λ k. nought) (refusal (kept_tests s a room)) (get_or a 0 nan);
    }

-- What is answered has the shape and the scalar; the coefficients are in the output.
abbrev pub taken_of : Halves → Taken
taken_of o = record { shape = o.outcome.shape; value = o.scalar }

-- The answer r, and the output's numbers before and after, are those of the value without its scalar.
pub record GivesTaken (o : Halves) (r : Result Taken Refusal) (before after : List Float) : Type 0 where
  pub answered : IsAnswer o.outcome.number (taken_of o) r
  pub left : after ≡ laid o.outcome.coefs before
