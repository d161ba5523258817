-- How many steps a replay carries out, and that it stops with no refusal but 1, at a pose that is a value. Assumes nothing.
use mathlib.Core.Path.{◌≡◌, refl}
use mathlib.Core.Bool.{true}
use mathlib.Core.List.{List, [], ◌∷◌}
use mathlib.Core.Logic.{◌⊎◌, inl, inr}
use Prim.Native.Nat.{ℕ, zero, suc, ◌+◌, ◌≤◌, ◌<◌}
use native.Mathlib.Omega.{arith}
use lib.ListN.{length}
use Rattle.std.specs.Prelude.{Option}
use Rattle.masks.specs.Outcome.{Outcome}
use Rattle.masks.proofs.ListLaws.{both_true}
use Rattle.sheets.specs.Format.{Sheet}
use Rattle.sheets.specs.Read.{said}
use Rattle.replay.specs.declared.log.Step.{Step}
use Rattle.replay.specs.Log.{steps_of, fits, all_fit}
use Rattle.replay.specs.Step.{sheet_value, named}
use Rattle.replay.specs.Replay.{Replayed, carried_out, replay}
use Rattle.replay.proofs.LogLaws.{named_lt}
use Rattle.replay.proofs.StepLaws.{IsValue, stepped_value, stepped_number}
use Rattle.replay.proofs.ValueLaws.{value_is}
use Rattle.replay.proofs.CarriedLaws.{step_cases, StepsCounted, steps_counted}
use Rattle.replay.proofs.RefusedLaws.{LogAccepted, Readable, done_only, done_replay, call_cases}

-- ---- steps that fit, over values

-- The pose is a value, and no step was refused but with 1.
record Sound (o : Replayed) : Type 0 where
  value : IsValue o.pose
  one : o.stopped ≤ 1

-- So it is from any value on, where the steps fit and what they name are values.
sound : (sheet : Sheet) (count : ℕ) → 0 < count → ((i : ℕ) → i < count → IsValue (sheet_value sheet i))
    → (ss : List (Option Step)) (p : Outcome) (n : ℕ) → all_fit count ss ≡ true → IsValue p → Sound (carried_out sheet ss p n)
unfolding carried_out all_fit
sound sheet count h values [] p n f a = record { value = a; one = omega arith }
sound sheet count h values (s ∷ ss) p n f a =
    let g = both_true (fits count s) (all_fit count ss) f in
    let v = values (named s) (named_lt count s h g.0) in
    step_cases sheet s ss p n Sound
    (λ _. record { value = a; one = stepped_number s p _ a v })
    (λ e _. record { value = stepped_value s p _ a v e; one = omega arith })
    (λ e _. sound sheet count h values ss _ (n + 1) g.1 (stepped_value s p _ a v e))

module _ (form : ℕ) (b log : List ℕ) (room : ℕ) where
  -- the steps of the log, from value 0 on
  abbrev run : Replayed
  run = carried_out (said b) (steps_of log) (sheet_value (said b) 0) 0

  counted : StepsCounted 0 (length (steps_of log)) run
  counted = steps_counted (said b) (steps_of log) (sheet_value (said b) 0) 0

  call_sound : Readable form b → LogAccepted b log → Sound run
  call_sound r a =
      let values = value_is b r.bytes in
      sound (said b) (length (said b).shapes) a.some values (steps_of log) (sheet_value (said b) 0) 0 a.fitting (values 0 a.some)

  -- ---- how many steps, on every input

  -- No more than the log has.
  pub steps_log : (replay form b log room).steps ≤ length (steps_of log)
  steps_log = call_cases form b log room (λ o. o.steps ≤ length (steps_of log)) (λ k. omega arith) (λ r a. omega (arith, counted.within))

  -- No more than a log may have.
  pub steps_few : (replay form b log room).steps ≤ 200
  steps_few = call_cases form b log room (λ o. o.steps ≤ 200) (λ k. omega arith) (λ r a. omega (arith, a.few, counted.within))

  -- Fewer, where it stopped.
  pub stopped_fewer : ((replay form b log room).stopped ≡ 0 → ⊥) → (replay form b log room).steps < length (steps_of log)
  stopped_fewer =
      call_cases form b log room (λ o. (o.stopped ≡ 0 → ⊥) → o.steps < length (steps_of log)) (λ k h. absurd (h refl)) (λ r a h. omega (arith, counted.fewer h))

  -- ---- what it stops with, on every input

  -- No refusal but 1.
  pub stopped_one : (replay form b log room).stopped ≤ 1
  stopped_one = call_cases form b log room (λ o. o.stopped ≤ 1) (λ k. omega arith) (λ r a. (call_sound r a).one)

  -- In other words: it did not stop, or it stopped at a step that was refused with 1.
  pub stopped_or : ((replay form b log room).stopped ≡ 0) ⊎ ((replay form b log room).stopped ≡ 1)
  stopped_or = go (replay form b log room).stopped stopped_one
    where
      go : (k : ℕ) → k ≤ 1 → (k ≡ 0) ⊎ (k ≡ 1)
      go zero l = inl refl
      go (suc zero) l = inr refl
      go (suc (suc k)) l = absurd (omega arith)

  -- ---- the pose

  -- That of a call that is done is a value, of at most nine dimensions and with as many numbers as they ask for.
  pub pose_value : (replay form b log room).pose.number ≡ 0 → IsValue (replay form b log room).pose
  pose_value e = let p = done_only form b log room e in rw (done_replay form b log room e) (call_sound p.0 p.1).value
