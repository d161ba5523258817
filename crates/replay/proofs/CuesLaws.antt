-- Replay from cue to cue: the pose at cue k is that of the replay of the first k steps, and the replay goes on from there. Assumes nothing.
use mathlib.Core.Path.{◌≡◌, refl, sym, ap, ap₂, ◌∙◌}
use mathlib.Core.Bool.{false}
use mathlib.Core.List.{List, [], ◌∷◌}
use Prim.Native.Nat.{ℕ, zero, suc, ◌+◌, ◌*◌, ◌≤◌}
use native.Mathlib.Omega.{arith}
use lib.ListN.{length, get_or, take, drop, take-append-drop}
use lib.Seq.{length-take-le}
use Rattle.std.specs.Prelude.{Option, None}
use Rattle.masks.specs.Outcome.{Outcome}
use Rattle.sheets.specs.Format.{Sheet}
use Rattle.sheets.specs.Read.{said}
use Rattle.replay.specs.declared.log.Step.{Step}
use Rattle.replay.specs.Log.{steps_of}
use Rattle.replay.specs.Step.{sheet_value, stepped}
use Rattle.replay.specs.Replay.{Replayed, carried_out, pose_at, replay}
use Rattle.replay.proofs.LogLaws.{steps_take, fit_take, two_bytes}
use Rattle.replay.proofs.CarriedLaws.{after, step_cases, in_two, steps_counted}
use Rattle.replay.proofs.ReplayLaws.{step_halts, step_goes_on}
use Rattle.replay.proofs.RefusedLaws.{LogAccepted, done_when, done_only, done_replay}

-- ---- k steps

-- the pose that they lead to, from p on
after_steps : Sheet → List (Option Step) → Outcome → ℕ → Outcome
after_steps sheet ss p zero = p
after_steps sheet [] p (suc k) = p
after_steps sheet (s ∷ ss) p (suc k) = after_steps sheet ss (after sheet s p) k

-- one more
after_next : (sheet : Sheet) (ss : List (Option Step)) (p : Outcome) (k : ℕ) → after_steps sheet ss p (suc k) ≡ after sheet (get_or ss k None) (after_steps sheet ss p k)
unfolding after_steps stepped
after_next sheet [] p zero = refl
after_next sheet [] p (suc k) = refl
after_next sheet (s ∷ ss) p zero = refl
after_next sheet (s ∷ ss) p (suc k) = after_next sheet ss (after sheet s p) k

-- the pose at cue k is that of k steps from value 0 on
from_first : (sheet : Sheet) (ss : List (Option Step)) (k : ℕ) → after_steps sheet ss (sheet_value sheet 0) k ≡ pose_at sheet ss k
unfolding after_steps pose_at
from_first sheet ss zero = refl
from_first sheet ss (suc k) = after_next sheet ss (sheet_value sheet 0) k ∙ ap (after sheet (get_or ss k None)) (from_first sheet ss k)

-- ---- the first k steps

-- Where k steps lead, from p on and after n others.
record Reached (sheet : Sheet) (ss : List (Option Step)) (p : Outcome) (n k : ℕ) (o : Replayed) : Type 0 where
  pose : o.pose ≡ after_steps sheet ss p k
  steps : o.steps ≡ n + k
  stopped : o.stopped ≡ 0

-- Where so many are carried out, the first k alone lead there.
first_steps : (sheet : Sheet) (ss : List (Option Step)) (p : Outcome) (n k : ℕ) → n + k ≤ (carried_out sheet ss p n).steps → Reached sheet ss p n k (carried_out sheet (take k ss) p n)
unfolding carried_out after_steps
first_steps sheet ss p n zero = λ l. record { pose = refl; steps = omega arith; stopped = refl }
first_steps sheet [] p n (suc k) = λ l. absurd (omega arith)
first_steps sheet (s ∷ ss) p n (suc k) =
    step_cases sheet s ss p n (λ o. n + suc k ≤ o.steps → Reached sheet (s ∷ ss) p n (suc k) (carried_out sheet (s ∷ take k ss) p n))
    (λ h l. absurd (omega arith))
    (λ e t l. let z : k ≡ 0 = omega arith in rw (step_halts sheet s (take k ss) p n e t, z) (record { pose = refl; steps = omega arith; stopped = refl }))
    (λ e t l.
    let r = first_steps sheet ss (after sheet s p) (n + 1) k (omega arith) in
    rw (step_goes_on sheet s (take k ss) p n e t) (record { pose = r.pose; steps = omega (arith, r.steps); stopped = r.stopped }))

-- The last pose is that of as many steps as were carried out.
last_steps : (sheet : Sheet) (ss : List (Option Step)) (p : Outcome) (n k : ℕ) → (carried_out sheet ss p n).steps ≡ n + k → (carried_out sheet ss p n).pose ≡ after_steps sheet ss p k
unfolding carried_out after_steps
last_steps sheet [] p n zero = λ l. refl
last_steps sheet [] p n (suc k) = λ l. absurd (omega arith)
last_steps sheet (s ∷ ss) p n zero =
    step_cases sheet s ss p n (λ o. o.steps ≡ n + 0 → o.pose ≡ p)
    (λ h l. refl)
    (λ e t l. absurd (omega arith))
    (λ e t l. absurd (omega (arith, (steps_counted sheet ss (after sheet s p) (n + 1)).from)))
last_steps sheet (s ∷ ss) p n (suc k) =
    step_cases sheet s ss p n (λ o. o.steps ≡ n + suc k → o.pose ≡ after_steps sheet ss (after sheet s p) k)
    (λ h l. absurd (omega arith))
    (λ e t l. let z : k ≡ 0 = omega arith in rw z)
    (λ e t l. last_steps sheet ss (after sheet s p) (n + 1) k (omega arith))

-- ---- the call, cue for cue

-- A replay that has come to cue k, with no refusal: it has the pose at the cue, and k steps are carried out.
pub record AtCue (sheet : Sheet) (ss : List (Option Step)) (k : ℕ) (o : Replayed) : Type 0 where
  pub pose : o.pose ≡ pose_at sheet ss k
  pub steps : o.steps ≡ k
  pub stopped : o.stopped ≡ 0

module _ (form : ℕ) (b log : List ℕ) (room : ℕ) (d : (replay form b log room).pose.number ≡ 0) where
  -- a call that is done: its sheet and its steps
  abbrev sheet : Sheet
  sheet = said b

  abbrev ss : List (Option Step)
  ss = steps_of log

  -- the steps carried out of a list of them, from value 0 on
  abbrev run : List (Option Step) → Replayed
  run xs = carried_out sheet xs (sheet_value sheet 0) 0

  -- the bytes of the first k steps
  abbrev first : ℕ → List ℕ
  first k = take (2 * k) log

  first_taken : (k : ℕ) → k ≤ length ss → steps_of (first k) ≡ take k ss
  first_taken k l = steps_take log k (omega (arith, two_bytes (length sheet.shapes) log (done_only form b log room d).1.fitting))

  -- they are accepted as a log of their own
  first_accepted : (k : ℕ) → k ≤ length ss → LogAccepted b (first k)
  first_accepted k l =
      let a = (done_only form b log room d).1 in
      rw (first_taken k l) (record { some = a.some; few = omega (arith, a.few, length-take-le k ss l); fitting = fit_take _ ss k a.fitting })

  first_replay : (k : ℕ) → k ≤ length ss → replay form b (first k) room ≡ run (take k ss)
  first_replay k l =
      let p = done_only form b log room d in
      done_replay form b (first k) room (done_when form b (first k) room p.0 (first_accepted k l) p.2) ∙ ap run (first_taken k l)

  -- The replay of the first k steps comes to cue k, for as many as are carried out of the whole log.
  pub cue_pose : (k : ℕ) → k ≤ (replay form b log room).steps → AtCue (said b) (steps_of log) k (replay form b (take (2 * k) log) room)
  cue_pose k l =
      let e = ap (λ (o : Replayed). o.steps) (done_replay form b log room d) in
      let r = first_steps sheet ss (sheet_value sheet 0) 0 k (omega arith) in
      rw (first_replay k (omega (arith, (steps_counted sheet ss (sheet_value sheet 0) 0).within)))
      (record { pose = r.pose ∙ from_first sheet ss k; steps = omega (arith, r.steps); stopped = r.stopped })

  -- The pose that a replay gives is that at its last cue.
  pub last_pose : (replay form b log room).pose ≡ pose_at (said b) (steps_of log) (replay form b log room).steps
  last_pose = rw (done_replay form b log room d) (last_steps sheet ss (sheet_value sheet 0) 0 (run ss).steps (omega arith) ∙ from_first sheet ss (run ss).steps)

  -- Where the replay of the first k steps neither stopped nor halted, that of the whole log goes on from cue k.
  pub from_cue : (k : ℕ) → k ≤ length (steps_of log) → (replay form b (take (2 * k) log) room).stopped ≡ 0 → (replay form b (take (2 * k) log) room).halted ≡ false
      → replay form b log room ≡ carried_out (said b) (drop k (steps_of log)) (pose_at (said b) (steps_of log) k) k
  from_cue k l z f =
      let c = first_replay k l in
      let z' : (run (take k ss)).stopped ≡ 0 = rw c at z in
      let f' : (run (take k ss)).halted ≡ false = rw c at f in
      let whole = done_replay form b log room d ∙ ap run (sym (take-append-drop k ss)) ∙ in_two sheet (take k ss) (drop k ss) (sheet_value sheet 0) 0 z' f' in
      let n : (run (take k ss)).steps ≡ k = omega (arith, (steps_counted sheet (take k ss) (sheet_value sheet 0) 0).all z' f', length-take-le k ss l) in
      let m = (steps_counted sheet (drop k ss) (run (take k ss)).pose (run (take k ss)).steps).from in
      let q = cue_pose k (omega (arith, ap (λ (o : Replayed). o.steps) whole)) in
      whole ∙ ap₂ (carried_out sheet (drop k ss)) (ap (λ (o : Replayed). o.pose) (sym c) ∙ q.pose) n
