-- Single blades, and one grade of a value. Assumes nothing.
use Rattle.std.specs.Prelude.{not, cond, List, [], ◌∷◌, ◌++◌, ℕ, zero, suc, ◌+◌, ◌-◌, ◌^◌, ltb, Float, length, set, take, drop}
use Rattle.masks.specs.declared.shape.Shape.{Shape}
use Rattle.masks.specs.Order.{place, size, start}
use Rattle.masks.specs.Outcome.{Test, Outcome, refusal, too_many, wrong_count, no_room, value_tests, unless, value, refused_value, Real, refused_real}
use Rattle.masks.specs.Shape.{coef, with_dims, resized}

-- ---- single blades

-- `get_blade` gives 0 for a mask outside.
unfoldable pub get_blade : Shape → ℕ → List Float → Real
get_blade s m a =
    unless refused_real (refusal (value_tests s.dims (length a)))
    (record { number = 0; value = coef s.dims a m })

-- `blade_dims k d m` is the dimensions that a mask needs, from d on and at most k more.
unfoldable pub blade_dims : ℕ → ℕ → ℕ → ℕ
blade_dims zero d m = d
blade_dims (suc k) d m = cond (ltb m (2 ^ d)) d (blade_dims k (d + 1) m)

-- `with_blade k d m x a` has x at a mask; outside, it grows by one dimension and calls itself, at most k times.
unfoldable pub with_blade : ℕ → ℕ → ℕ → Float → List Float → List Float
with_blade zero d m x a = set a (place d m) x
with_blade (suc k) d m x a = cond (ltb m (2 ^ d)) (set a (place d m) x) (with_blade k (d + 1) m x (resized d (d + 1) a))

-- The tests of setting a blade: a mask of 512 or more needs too many dimensions.
abbrev pub set_blade_tests : ℕ → ℕ → ℕ → ℕ → List Test
set_blade_tests d m count room =
    too_many d ∷ record { fails = not (ltb m 512); number = 1 } ∷ wrong_count count d ∷ no_room room (2 ^ blade_dims (9 - d) d m) ∷ []

-- `set_blade` is the value with x at a mask, in an output of `room` numbers.
unfoldable pub set_blade : Shape → ℕ → Float → List Float → ℕ → Outcome
set_blade s m x a room =
    unless refused_value (refusal (set_blade_tests s.dims m (length a) room))
    (value (with_dims s (blade_dims (9 - s.dims) s.dims m)) (with_blade (9 - s.dims) s.dims m x a))

-- ---- one grade

-- 4: The part of a value at a grade above its dimensions is asked for.
abbrev pub grade_tests : ℕ → ℕ → ℕ → List Test
grade_tests d g count = value_tests d count ++ record { fails = ltb d g; number = 4 } ∷ []

-- `grade_refusal` is the number that the part of a value at grade g is refused with, or 0.
unfoldable pub grade_refusal : Shape → ℕ → List Float → ℕ
grade_refusal s g a = refusal (grade_tests s.dims g (length a))

-- One grade of a value starts at the sum of the lower grades' sizes and has as many numbers as its size.
unfoldable pub grade_part : Shape → ℕ → List Float → List Float
grade_part s g a = unless (λ k. []) (grade_refusal s g a) (take (size s.dims g) (drop (start s.dims g) a))
