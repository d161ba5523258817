-- Patterns to numbers, and numbers to patterns. Assumes nothing.
use Rattle.std.specs.Prelude.{not, List, [], ◌∷◌, map, ℕ, ◌/◌, ◌%◌, eqb, Float, length}
use Rattle.std.specs.Float.{binary64}
use Rattle.std.specs.Float.Ieee.{of_bits, to_bits}
use Rattle.masks.specs.Outcome.{Test, Written, refusal, no_room, unless, refused_list, listed}
use Rattle.sheets.specs.Bytes.{from_little_endian, parts}

-- 3: The output is shorter than the list.
abbrev pub converted_tests : {A : Type 0} → List A → ℕ → List Test
converted_tests xs room = no_room room (length xs) ∷ []

-- `converted f` is the call that converts each of a list's items by f.
unfoldable pub converted : {A B : Type 0} → (A → B) → List A → ℕ → Written B
converted f xs room = unless refused_list (refusal (converted_tests xs room)) (listed (map f xs))

-- The number of a pattern; any NaN's pattern gives NaN.
abbrev pub numbers_of : List ℕ → ℕ → Written Float
numbers_of = converted (of_bits binary64)

-- The pattern of a number; NaN has the one pattern 7FF8000000000000.
abbrev pub patterns_of : List Float → ℕ → Written ℕ
patterns_of = converted (to_bits binary64)

-- ---- patterns that are bytes, eight each

abbrev pub patterns_in : List ℕ → List ℕ
patterns_in b = map from_little_endian (parts 8 (length b / 8) b)

-- 2: The length is not a multiple of eight.
abbrev pub not_eights : List ℕ → Test
not_eights b = record { fails = not (eqb (length b % 8) 0); number = 2 }

-- 2, then as the numbers of the patterns.
unfoldable pub numbers_in : List ℕ → ℕ → Written Float
numbers_in b room = unless refused_list (refusal (not_eights b ∷ [])) (numbers_of (patterns_in b) room)
