-- Replay of a log over a sheet's values. Assumes nothing.
use Rattle.std.specs.Prelude.{◌≡◌, Bool, true, false, not, ◌&&◌, cond, List, [], ◌∷◌, ◌++◌, ℕ, zero, suc, ◌+◌, eqb, Float, length, get_or, Option, None, MatchOption, Result, MatchResult}
use Rattle.masks.specs.declared.outcome.Refusal.{Refusal}
use Rattle.masks.specs.Outcome.{Test, number_of, Outcome, refusal, no_room, unless, refused_value, laid}
use Rattle.sheets.specs.Format.{Sheet}
use Rattle.sheets.specs.Read.{said, is_sheet_bytes}
use Rattle.replay.specs.declared.log.Step.{Step}
use Rattle.replay.specs.declared.outcome.Replay.{Replay}
use Rattle.replay.specs.Log.{steps_of, log_tests}
use Rattle.replay.specs.Step.{sheet_value, named, stepped, fires}

-- A pose, the number of steps carried out, the refusal of the step that it stopped at or 0, and whether a halting step fired.
pub record Replayed : Type 0 where
  pub pose : Outcome
  pub steps : ℕ
  pub stopped : ℕ
  pub halted : Bool

-- ---- step for step

-- The steps that follow a pose that n steps led to. A refused step stops it there, with the pose from before that step; a halting step that fires counts as carried out, and what follows it is not.
unfoldable pub carried_out : Sheet → List (Option Step) → Outcome → ℕ → Replayed
carried_out sheet [] p n = record { pose = p; steps = n; stopped = 0; halted = false }
carried_out sheet (s ∷ ss) p n =
    let v = sheet_value sheet (named s) in
    let q = stepped s p v in
    unless (λ k. record { pose = p; steps = n; stopped = k; halted = false }) q.number
    (cond (fires s p v) (record { pose = q; steps = n + 1; stopped = 0; halted = true }) (carried_out sheet ss q (n + 1)))

-- The pose at cue k: that of k steps, one after the other, from value 0 on.
unfoldable pub pose_at : Sheet → List (Option Step) → ℕ → Outcome
pose_at sheet ss zero = sheet_value sheet 0
pose_at sheet ss (suc k) = let s = get_or ss k None in stepped s (pose_at sheet ss k) (sheet_value sheet (named s))

-- ---- the call

-- 9: The form is not 1, or the bytes are no sheet's.
abbrev pub malformed_in : ℕ → List ℕ → Test
malformed_in form b = record { fails = not (eqb form 1 && is_sheet_bytes b); number = 9 }

-- 9, then 10 by the log, then 3: The output has no room for any value.
abbrev pub replay_tests : ℕ → List ℕ → List ℕ → ℕ → List Test
replay_tests form b log room = malformed_in form b ∷ log_tests (length (said b).shapes) (steps_of log) ++ (no_room room 512 ∷ [])

-- A refusal has its number, shape 0 Vanilla and no steps, and writes nothing.
abbrev pub refused_replay : ℕ → Replayed
refused_replay k = record { pose = refused_value k; steps = 0; stopped = 0; halted = false }

-- Replay starts from value 0 of the sheet.
unfoldable pub replay : ℕ → List ℕ → List ℕ → ℕ → Replayed
replay form b log room =
    unless refused_replay (refusal (replay_tests form b log room)) (carried_out (said b) (steps_of log) (sheet_value (said b) 0) 0)

-- ---- as the answer

-- A replay that stopped at a refused step has its refusal; one whose number is 0 did not stop.
abbrev pub IsStop : ℕ → Option Refusal → Type 0
IsStop k stopped = MatchOption stopped (k ≡ 0) (λ refused. k ≡ number_of refused)

-- The answer x has the pose's shape, the steps, and the refusal that it stopped with; the pose's numbers are in the output.
pub record IsReplay (o : Replayed) (x : Replay) : Type 0 where
  pub done : o.pose.number ≡ 0
  pub shape : x.shape ≡ o.pose.shape
  pub steps : x.steps ≡ o.steps
  pub stopped : IsStop o.stopped x.stopped

-- The answer r, and the output before and after, are those of the replay, or of its refusal.
pub record Replays (o : Replayed) (r : Result Replay Refusal) (before after : List Float) : Type 0 where
  pub answered : MatchResult r (IsReplay o) (λ refused. o.pose.number ≡ number_of refused)
  pub left : after ≡ laid o.pose.coefs before
