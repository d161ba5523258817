-- The order of masks in two outputs. Assumes nothing.
use Rattle.std.specs.Prelude.{◌≡◌, List, [], ◌∷◌, map, ℕ, ◌^◌, length}
use Rattle.masks.specs.Order.{order, place, up_from}
use Rattle.masks.specs.Outcome.{Test, refusal, too_many, no_room, unless, laid}
use Rattle.exports.specs.Reports.{Reports}

-- 1: The dimensions are above 9. 3: The output of the masks, or that of the places, is shorter than their number.
abbrev pub order_of_tests : ℕ → ℕ → ℕ → List Test
order_of_tests d room roomRight = too_many d ∷ no_room room (2 ^ d) ∷ no_room roomRight (2 ^ d) ∷ []

-- The order of d dimensions, each mask's place in it, and their number; where the call is refused, nothing.
pub record ReportsOrderOf (d r : ℕ) (before after beforeRight afterRight : List ℕ) (held holds : ℕ) : Type 0 where
  pub reports : Reports (refusal (order_of_tests d (length before) (length beforeRight))) (2 ^ d) r held holds
  pub left : after ≡ laid (unless (λ _. []) r (order d)) before
  pub right : afterRight ≡ laid (unless (λ _. []) r (map (place d) (up_from 0 (2 ^ d)))) beforeRight
