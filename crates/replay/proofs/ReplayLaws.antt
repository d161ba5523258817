-- The contract of a replay leaves nothing open; and the three ends of a step. Assumes nothing.
use mathlib.Core.Path.{◌≡◌, refl, sym, ap, ◌∙◌}
use mathlib.Core.Bool.{true, false}
use mathlib.Core.List.{List, ◌∷◌}
use Prim.Native.Nat.{ℕ, ◌+◌}
use lib.Ieee.{Float}
use Rattle.std.specs.Prelude.{Option, None, Some, Result, Ok, Err, MatchResult}
use Rattle.masks.specs.declared.outcome.Refusal.{Refusal}
use Rattle.masks.specs.declared.shape.Shape.{Shape}
use Rattle.masks.specs.Outcome.{number_of, Outcome}
use Rattle.masks.proofs.OutcomeLaws.{refuses, number_one, unless_refused, unless_done}
use Rattle.sheets.specs.Format.{Sheet}
use Rattle.replay.specs.declared.log.Step.{Step}
use Rattle.replay.specs.declared.outcome.Replay.{Replay}
use Rattle.replay.specs.Step.{sheet_value, named, stepped, fires}
use Rattle.replay.specs.Replay.{Replayed, carried_out, IsStop, IsReplay, Replays}

-- ---- nothing is left open

-- the refusal at which a replay stopped
stop_one : (k : ℕ) (s t : Option Refusal) → IsStop k s → IsStop k t → s ≡ t
stop_one k None None p q = refl
stop_one k None (Some e) p q = absurd (refuses e (sym q ∙ p))
stop_one k (Some e) None p q = absurd (refuses e (sym p ∙ q))
stop_one k (Some e) (Some f) p q = ap (λ x. Some x) (number_one e f (sym p ∙ q))

-- a replay that is done
replay_one : (o : Replayed) (x y : Replay) → IsReplay o x → IsReplay o y → x ≡ y
replay_one o x y p q =
    let made : (s s' : Shape) (k k' : ℕ) (t t' : Option Refusal) → s ≡ s' → k ≡ k' → t ≡ t' → ◌≡◌ {A = Replay} (record { shape = s; steps = k; stopped = t }) (record { shape = s'; steps = k'; stopped = t' }) = λ s s' k k' t t' e f g. rw (e, f, g) refl in
    made x.shape y.shape x.steps y.steps x.stopped y.stopped (p.shape ∙ sym q.shape) (p.steps ∙ sym q.steps) (stop_one o.stopped x.stopped y.stopped p.stopped q.stopped)

answer_same : (o : Replayed) (r q : Result Replay Refusal) → MatchResult r (IsReplay o) (λ e. o.pose.number ≡ number_of e) → MatchResult q (IsReplay o) (λ e. o.pose.number ≡ number_of e) → r ≡ q
answer_same o (Ok x) (Ok y) p q = ap (λ z. Ok z) (replay_one o x y p q)
answer_same o (Ok x) (Err e) p q = absurd (refuses e (sym q ∙ p.done))
answer_same o (Err e) (Ok y) p q = absurd (refuses e (sym p ∙ q.done))
answer_same o (Err e) (Err f) p q = ap (λ z. Err z) (number_one e f (sym p ∙ q))

pub replays_one : {o : Replayed} {r r' : Result Replay Refusal} {before after after' : List Float} → Replays o r before after → Replays o r' before after' → (r ≡ r') × (after ≡ after')
replays_one {o} g h = (answer_same o _ _ g.answered h.answered, g.left ∙ sym h.left)

-- ---- one step

module _ (sheet : Sheet) (s : Option Step) (ss : List (Option Step)) (p : Outcome) (n : ℕ) where
  abbrev named_value : Outcome
  named_value = sheet_value sheet (named s)

  -- it is refused
  pub step_stops : ((stepped s p named_value).number ≡ 0 → ⊥) → carried_out sheet (s ∷ ss) p n ≡ record { pose = p; steps = n; stopped = (stepped s p named_value).number; halted = false }
  unfolding carried_out
  step_stops h = unless_refused _ _ _ _ refl h

  -- it halts
  pub step_halts : (stepped s p named_value).number ≡ 0 → fires s p named_value ≡ true → carried_out sheet (s ∷ ss) p n ≡ record { pose = stepped s p named_value; steps = n + 1; stopped = 0; halted = true }
  unfolding carried_out
  step_halts e f = unless_done _ _ _ _ refl e ∙ rw f

  -- it is carried out
  pub step_goes_on : (stepped s p named_value).number ≡ 0 → fires s p named_value ≡ false → carried_out sheet (s ∷ ss) p n ≡ carried_out sheet ss (stepped s p named_value) (n + 1)
  unfolding carried_out
  step_goes_on e f = unless_done _ _ _ _ refl e ∙ rw f
