-- The number that a replay is given, exactly when: 9, else 10, else 3, else 0; and that a refused call writes nothing. Assumes nothing.
use mathlib.Core.Path.{◌≡◌, refl, sym, ap, ap₂, ◌∙◌}
use mathlib.Core.Bool.{Bool, true, false, not, ◌&&◌, false≢true}
use mathlib.Core.List.{List, [], ◌∷◌, ◌++◌}
use mathlib.Core.Logic.{◌⊎◌, inl, inr}
use Prim.Native.Nat.{ℕ, zero, suc, ◌≤◌, ◌<◌}
use native.Mathlib.Omega.{arith}
use lib.Dec.{eqb}
use lib.Ieee.{Float}
use lib.ListN.{length}
use borrow.Author.Tests.{lt-ltb, le-ltb, eq-eqb, ne_eqb, eqb-true}
use Rattle.std.specs.Prelude.{Option, Result, Err}
use Rattle.masks.specs.declared.outcome.Refusal.{Refusal}
use Rattle.masks.specs.Outcome.{Test, number_of, refusal, no_room, laid}
use Rattle.masks.proofs.ListLaws.{split, both_true}
use Rattle.masks.proofs.OutcomeLaws.{refuses, unless_number, unless_refused, unless_done, refused_first, refused_later, refused_already}
use Rattle.arithmetic.proofs.PowerLaws.{not_both}
use Rattle.sheets.specs.Read.{said, is_sheet_bytes}
use Rattle.replay.specs.declared.log.Step.{Step}
use Rattle.replay.specs.declared.outcome.Replay.{Replay}
use Rattle.replay.specs.Log.{steps_of, log_tests}
use Rattle.replay.specs.Step.{sheet_value}
use Rattle.replay.specs.Replay.{Replayed, carried_out, malformed_in, replay_tests, refused_replay, replay, Replays}
use Rattle.replay.proofs.LogLaws.{Accepted, Refusable, accepted, accepted_done, refused_ten, log_ten_why}
use Rattle.replay.proofs.CarriedLaws.{pose_done}

-- ---- the conditions

-- The form is 1, and the bytes are a sheet's.
pub record Readable (form : ℕ) (b : List ℕ) : Type 0 where
  pub first : form ≡ 1
  pub bytes : is_sheet_bytes b ≡ true

-- The log is accepted over the values of the sheet.
abbrev pub LogAccepted : List ℕ → List ℕ → Type 0
LogAccepted b log = Accepted (length (said b).shapes) (steps_of log)

-- Each number, with all that it rests on: the sheet is looked at first, then the log, then the room.
pub data Verdict (form : ℕ) (b log : List ℕ) (room : ℕ) : ℕ → Type 0 where
  malformed : (Readable form b → ⊥) → Verdict form b log room 9
  bad_log : Readable form b → (LogAccepted b log → ⊥) → Verdict form b log room 10
  no_room_lem : Readable form b → LogAccepted b log → room < 512 → Verdict form b log room 3
  done : Readable form b → LogAccepted b log → 512 ≤ room → Verdict form b log room 0

-- ---- the tests

readable_true : (form : ℕ) (b : List ℕ) → Readable form b → (eqb form 1 && is_sheet_bytes b) ≡ true
readable_true form b r = ap₂ ◌&&◌ (eq-eqb form 1 r.first) r.bytes

-- where the log is accepted, the tests after its own count
accepted_passes : (n : ℕ) (ss : List (Option Step)) (us : List Test) → Accepted n ss → refusal (log_tests n ss ++ us) ≡ refusal us
unfolding refusal
accepted_passes n ss us a = rw (ne_eqb n 0 (λ z. omega (arith, a.some)), le-ltb 200 (length ss) a.few, a.fitting)

-- either condition holds or does not
readable_or : (form : ℕ) (b : List ℕ) → Readable form b ⊎ (Readable form b → ⊥)
readable_or form b = go (eqb form 1 && is_sheet_bytes b) refl
  where
    go : (t : Bool) → (eqb form 1 && is_sheet_bytes b) ≡ t → Readable form b ⊎ (Readable form b → ⊥)
    go true e =
        let p = both_true (eqb form 1) (is_sheet_bytes b) e in
        inl (record { first = eqb-true form 1 p.0; bytes = p.1 })
    go false e = inr (λ r. false≢true (sym e ∙ readable_true form b r))

accepted_or : (n : ℕ) (ss : List (Option Step)) → Accepted n ss ⊎ (Accepted n ss → ⊥)
accepted_or n ss = go (refusal (log_tests n ss)) refl
  where
    go : (k : ℕ) → refusal (log_tests n ss) ≡ k → Accepted n ss ⊎ (Accepted n ss → ⊥)
    go zero e = inl (accepted n ss e)
    go (suc k) e = inr (λ a. omega (arith, accepted_done n ss a))

-- ---- the number that a replay is given, exactly when

module _ (form : ℕ) (b log : List ℕ) (room : ℕ) where
  abbrev log_tests_lem : List Test
  log_tests_lem = log_tests (length (said b).shapes) (steps_of log)

  -- a call's number is that of its tests
  number_given : (replay form b log room).pose.number ≡ refusal (replay_tests form b log room)
  unfolding replay sheet_value
  number_given =
      unless_number (λ (o : Replayed). o.pose.number) refused_replay (refusal (replay_tests form b log room)) _ refl
      (pose_done (said b) (steps_of log) (sheet_value (said b) 0) 0 refl)

  -- where the sheet is read, the tests of the log and the room count
  number_read : Readable form b → (replay form b log room).pose.number ≡ refusal (log_tests_lem ++ (no_room room 512 ∷ []))
  number_read r = number_given ∙ refused_later (malformed_in form b) _ (ap not (readable_true form b r))

  -- where the log is accepted too, that of the room
  number_logged : Readable form b → LogAccepted b log → (replay form b log room).pose.number ≡ refusal (no_room room 512 ∷ [])
  number_logged r a = number_read r ∙ accepted_passes _ _ _ a

  -- 9: the form is not 1, or the bytes are no sheet's.
  pub nine_when : (Readable form b → ⊥) → (replay form b log room).pose.number ≡ 9
  nine_when h = number_given ∙ refused_first (malformed_in form b) _ (ap not (not_both (eqb form 1) (is_sheet_bytes b) (λ e f. h (record { first = eqb-true form 1 e; bytes = f }))))

  -- 10: they are, but the log is not accepted.
  pub ten_when : Readable form b → (LogAccepted b log → ⊥) → (replay form b log room).pose.number ≡ 10
  ten_when r h =
      let e = refused_ten _ _ h in
      number_read r ∙ refused_already log_tests_lem _ (λ z. omega arith) ∙ e

  -- 3: it is, but the output has no room for any value.
  pub three_when : Readable form b → LogAccepted b log → room < 512 → (replay form b log room).pose.number ≡ 3
  unfolding refusal
  three_when r a l = number_logged r a ∙ rw (lt-ltb room 512 l)

  -- 0: otherwise.
  pub done_when : Readable form b → LogAccepted b log → 512 ≤ room → (replay form b log room).pose.number ≡ 0
  unfolding refusal
  done_when r a l = number_logged r a ∙ rw (le-ltb room 512 l)

  -- One of the four is always so.
  pub verdict : Verdict form b log room (replay form b log room).pose.number
  verdict = sheet (readable_or form b)
    where
      roomy : Readable form b → LogAccepted b log → (room < 512) ⊎ (512 ≤ room) → Verdict form b log room (replay form b log room).pose.number
      roomy r a (inl l) = rw (three_when r a l) (no_room_lem r a l)
      roomy r a (inr l) = rw (done_when r a l) (done r a l)

      logged : Readable form b → LogAccepted b log ⊎ (LogAccepted b log → ⊥) → Verdict form b log room (replay form b log room).pose.number
      logged r (inl a) = roomy r a (split room 512)
      logged r (inr h) = rw (ten_when r h) (bad_log r h)

      sheet : Readable form b ⊎ (Readable form b → ⊥) → Verdict form b log room (replay form b log room).pose.number
      sheet (inl r) = logged r (accepted_or _ _)
      sheet (inr h) = rw (nine_when h) (malformed h)

  -- So each number is given only then.
  pub nine_only : (replay form b log room).pose.number ≡ 9 → Readable form b → ⊥
  nine_only e = go (rw e at verdict)
    where
      go : Verdict form b log room 9 → Readable form b → ⊥
      go (malformed n) = n

  pub ten_only : (replay form b log room).pose.number ≡ 10 → Readable form b × (LogAccepted b log → ⊥)
  ten_only e = go (rw e at verdict)
    where
      go : Verdict form b log room 10 → Readable form b × (LogAccepted b log → ⊥)
      go (bad_log r h) = (r, h)

  -- and then for one of the log's reasons
  pub ten_why : (replay form b log room).pose.number ≡ 10 → Refusable (length (said b).shapes) (steps_of log)
  ten_why e = log_ten_why _ _ (refused_ten _ _ (ten_only e).1)

  pub three_only : (replay form b log room).pose.number ≡ 3 → Readable form b × LogAccepted b log × (room < 512)
  three_only e = go (rw e at verdict)
    where
      go : Verdict form b log room 3 → Readable form b × LogAccepted b log × (room < 512)
      go (no_room_lem r a l) = (r, a, l)

  pub done_only : (replay form b log room).pose.number ≡ 0 → Readable form b × LogAccepted b log × (512 ≤ room)
  done_only e = go (rw e at verdict)
    where
      go : Verdict form b log room 0 → Readable form b × LogAccepted b log × (512 ≤ room)
      go (done r a l) = (r, a, l)

  -- ---- what a refused call gives, and what one that is done

  -- A refusal has shape 0 Vanilla and no steps.
  pub refused_replay_lem : ((replay form b log room).pose.number ≡ 0 → ⊥) → replay form b log room ≡ refused_replay (replay form b log room).pose.number
  unfolding replay
  refused_replay_lem h = unless_refused refused_replay (refusal (replay_tests form b log room)) (replay form b log room).pose.number _ number_given h

  -- and leaves the output
  pub refused_answers : {out : List Float} (e : Refusal) → (replay form b log room).pose.number ≡ number_of e → Replays (replay form b log room) (Err e) out out
  refused_answers e h = rw (refused_replay_lem (λ z. refuses e (sym h ∙ z)), h) (record { answered = refl; left = refl })

  -- A call that is done carries out the steps of its log, from value 0 of the sheet on.
  pub done_replay : (replay form b log room).pose.number ≡ 0 → replay form b log room ≡ carried_out (said b) (steps_of log) (sheet_value (said b) 0) 0
  unfolding replay
  done_replay e = unless_done refused_replay (refusal (replay_tests form b log room)) 0 _ (sym (sym number_given ∙ e)) refl

  -- A refused call leaves the output as it was.
  pub refused_writes_nothing : {r : Result Replay Refusal} {before after : List Float} → ((replay form b log room).pose.number ≡ 0 → ⊥) → Replays (replay form b log room) r before after → after ≡ before
  refused_writes_nothing {before = before} h g = g.left ∙ ap (λ (o : Replayed). laid o.pose.coefs before) (refused_replay_lem h)

  -- What holds of either holds of every call.
  pub call_cases : (P : Replayed → Type 0) → ((k : ℕ) → P (refused_replay k))
      → (Readable form b → LogAccepted b log → P (carried_out (said b) (steps_of log) (sheet_value (said b) 0) 0)) → P (replay form b log room)
  call_cases P refuse carry = go (replay form b log room).pose.number refl
    where
      go : (k : ℕ) → (replay form b log room).pose.number ≡ k → P (replay form b log room)
      go zero e = let p = done_only e in rw (done_replay e) (carry p.0 p.1)
      go (suc k) e = rw (refused_replay_lem (λ z. omega arith)) (refuse (replay form b log room).pose.number)
