-- A log: two bytes a step, kind and argument. Assumes nothing.
use Rattle.std.specs.Prelude.{Bool, true, false, not, ◌&&◌, List, [], ◌∷◌, ℕ, zero, suc, eqb, ltb, length, Option, None, Some}
use Rattle.masks.specs.Outcome.{Test}
use Rattle.replay.specs.declared.log.Step.{Step}
use Rattle.replay.specs.declared.log.Step.TheVariants.{Right, Left, Reverse, Dims, Halt}

-- Kind 0 is `*` on the right by value k, 1 `*` on the left by value k, 2 reverse, 3 change dimensions to m, 4 halt if equal to value k; others are unknown.
unfoldable pub step_of : ℕ → ℕ → Option Step
step_of zero k = Some (Right k)
step_of (suc zero) k = Some (Left k)
step_of (suc (suc zero)) k = Some Reverse
step_of (suc (suc (suc zero))) m = Some (Dims m)
step_of (suc (suc (suc (suc zero)))) k = Some (Halt k)
step_of (suc (suc (suc (suc (suc kind))))) k = None

-- The steps of a log; a byte that is left over is a step of no known kind.
unfoldable pub steps_of : List ℕ → List (Option Step)
steps_of [] = []
steps_of (kind ∷ []) = None ∷ []
steps_of (kind ∷ k ∷ log) = step_of kind k ∷ steps_of log

-- The index of the value that a step names, where it names one.
unfoldable pub names : Step → Option ℕ
names (Right k) = Some k
names (Left k) = Some k
names Reverse = None
names (Dims m) = None
names (Halt k) = Some k

-- An index is one of n, where there is one.
abbrev pub among : ℕ → Option ℕ → Bool
among n None = true
among n (Some k) = ltb k n

-- A step's kind is known, and the value that it names is one of n.
unfoldable pub fits : ℕ → Option Step → Bool
fits n None = false
fits n (Some s) = among n (names s)

-- Every step does, also behind one that halts.
unfoldable pub all_fit : ℕ → List (Option Step) → Bool
all_fit n [] = true
all_fit n (s ∷ ss) = fits n s && all_fit n ss

-- The tests of a log over a sheet of n values. 10: The sheet has no values; there are more than 200 steps; a step is of no known kind, or names a value that isn't in the sheet.
abbrev pub log_tests : ℕ → List (Option Step) → List Test
log_tests n ss =
    record { fails = eqb n 0; number = 10 } ∷
    record { fails = ltb 200 (length ss); number = 10 } ∷
    record { fails = not (all_fit n ss); number = 10 } ∷
    []
