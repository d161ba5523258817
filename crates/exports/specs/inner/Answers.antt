-- How an answer is reported. Assumes nothing.
use Rattle.std.specs.Prelude.{◌≡◌, ℕ, Option, Some, None, Result, MatchResult}
use Rattle.masks.specs.declared.outcome.Refusal.{Refusal}
use Rattle.masks.specs.Outcome.{number_of}

-- The answer r is reported where 0 is returned and P holds of its value, or the number of its refusal is returned and the references hold what they held.
abbrev pub IsReported : {A B : Type 0} → (A → Type 0) → Result A Refusal → ℕ → B → B → Type 0
IsReported P r n held holds = MatchResult r (λ x. (n ≡ 0) × P x) (λ refused. (n ≡ number_of refused) × (holds ≡ held))

-- The number of what a replay stopped with, or 0.
abbrev pub stop_number : Option Refusal → ℕ
stop_number None = 0
stop_number (Some refused) = number_of refused
