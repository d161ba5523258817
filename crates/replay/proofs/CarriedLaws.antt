-- Steps carried out one after the other: in two parts, how many they are, and that their pose is no refusal. Assumes nothing.
use mathlib.Core.Path.{◌≡◌, refl, sym, ◌∙◌}
use mathlib.Core.Bool.{Bool, true, false, false≢true}
use mathlib.Core.List.{List, [], ◌∷◌, ◌++◌}
use mathlib.Core.Logic.{◌⊎◌, ⊎_elim}
use Prim.Native.Nat.{ℕ, zero, suc, ◌+◌, ◌≤◌, ◌<◌}
use native.Mathlib.Omega.{arith}
use lib.ListN.{length}
use Rattle.std.specs.Prelude.{Option}
use Rattle.masks.specs.Outcome.{Outcome}
use Rattle.sheets.specs.Format.{Sheet}
use Rattle.replay.specs.declared.log.Step.{Step}
use Rattle.replay.specs.Step.{sheet_value, named, stepped, fires}
use Rattle.replay.specs.Replay.{Replayed, carried_out}
use Rattle.replay.proofs.ReplayLaws.{step_stops, step_halts, step_goes_on}

-- ---- one step

-- the pose after it, and whether it is a halting step that fires
abbrev pub after : Sheet → Option Step → Outcome → Outcome
after sheet s p = stepped s p (sheet_value sheet (named s))

abbrev pub halts : Sheet → Option Step → Outcome → Bool
halts sheet s p = fires s p (sheet_value sheet (named s))

module _ (sheet : Sheet) (s : Option Step) (ss : List (Option Step)) (p : Outcome) (n : ℕ) where
  abbrev q : Outcome
  q = after sheet s p

  -- What holds where it is refused, where it halts and where the others follow it holds of all of them.
  pub step_cases : (P : Replayed → Type 0)
      → ((q.number ≡ 0 → ⊥) → P (record { pose = p; steps = n; stopped = q.number; halted = false }))
      → (q.number ≡ 0 → halts sheet s p ≡ true → P (record { pose = q; steps = n + 1; stopped = 0; halted = true }))
      → (q.number ≡ 0 → halts sheet s p ≡ false → P (carried_out sheet ss q (n + 1)))
      → P (carried_out sheet (s ∷ ss) p n)
  step_cases P stop halt go_on = go q.number (halts sheet s p) refl refl
    where
      go : (k : ℕ) (t : Bool) → q.number ≡ k → halts sheet s p ≡ t → P (carried_out sheet (s ∷ ss) p n)
      go zero true e f = rw (step_halts sheet s ss p n e f) (halt e f)
      go zero false e f = rw (step_goes_on sheet s ss p n e f) (go_on e f)
      go (suc k) t e f =
          let h : q.number ≡ 0 → ⊥ = λ z. omega arith in
          rw (step_stops sheet s ss p n h) (stop h)

-- ---- steps in two parts

-- Where the first part neither stopped nor halted, the second goes on from its pose.
pub in_two : (sheet : Sheet) (xs ys : List (Option Step)) (p : Outcome) (n : ℕ) → (carried_out sheet xs p n).stopped ≡ 0 → (carried_out sheet xs p n).halted ≡ false
    → carried_out sheet (xs ++ ys) p n ≡ carried_out sheet ys (carried_out sheet xs p n).pose (carried_out sheet xs p n).steps
unfolding carried_out
in_two sheet [] ys p n = λ z f. refl
in_two sheet (s ∷ xs) ys p n =
    step_cases sheet s xs p n (λ o. o.stopped ≡ 0 → o.halted ≡ false → carried_out sheet (s ∷ xs ++ ys) p n ≡ carried_out sheet ys o.pose o.steps)
    (λ h z f. absurd (h z))
    (λ e t z f. absurd (false≢true (sym f)))
    (λ e t z f. step_goes_on sheet s (xs ++ ys) p n e t ∙ in_two sheet xs ys _ (n + 1) z f)

-- Where the first part stopped or halted, the second is not begun.
pub in_one : (sheet : Sheet) (xs ys : List (Option Step)) (p : Outcome) (n : ℕ) → ((carried_out sheet xs p n).stopped ≡ 0 → ⊥) ⊎ ((carried_out sheet xs p n).halted ≡ true)
    → carried_out sheet (xs ++ ys) p n ≡ carried_out sheet xs p n
unfolding carried_out
in_one sheet [] ys p n = ⊎_elim (λ h. absurd (h refl)) (λ t. absurd (false≢true t))
in_one sheet (s ∷ xs) ys p n =
    step_cases sheet s xs p n (λ o. (o.stopped ≡ 0 → ⊥) ⊎ (o.halted ≡ true) → carried_out sheet (s ∷ xs ++ ys) p n ≡ o)
    (λ h _. step_stops sheet s (xs ++ ys) p n h)
    (λ e t _. step_halts sheet s (xs ++ ys) p n e t)
    (λ e t w. step_goes_on sheet s (xs ++ ys) p n e t ∙ in_one sheet xs ys _ (n + 1) w)

-- ---- how many steps

-- How many steps are carried out, after n others, of `count` that follow: no more than all; fewer where one was refused; all where it neither stopped nor halted.
pub record StepsCounted (n count : ℕ) (o : Replayed) : Type 0 where
  pub from : n ≤ o.steps
  pub within : o.steps ≤ n + count
  pub fewer : (o.stopped ≡ 0 → ⊥) → o.steps < n + count
  pub all : o.stopped ≡ 0 → o.halted ≡ false → o.steps ≡ n + count

pub steps_counted : (sheet : Sheet) (ss : List (Option Step)) (p : Outcome) (n : ℕ) → StepsCounted n (length ss) (carried_out sheet ss p n)
unfolding carried_out
steps_counted sheet [] p n = record { from = omega arith; within = omega arith; fewer = λ h. absurd (h refl); all = λ z f. omega arith }
steps_counted sheet (s ∷ ss) p n =
    step_cases sheet s ss p n (StepsCounted n (suc (length ss)))
    (λ h. record { from = omega arith; within = omega arith; fewer = λ _. omega arith; all = λ z _. absurd (h z) })
    (λ e t. record { from = omega arith; within = omega arith; fewer = λ g. absurd (g refl); all = λ z f. absurd (false≢true (sym f)) })
    (λ e t.
    let r = steps_counted sheet ss (after sheet s p) (n + 1) in
    record { from = omega (arith, r.from); within = omega (arith, r.within); fewer = λ g. omega (arith, r.fewer g); all = λ z f. omega (arith, r.all z f) })

-- ---- the pose

-- The pose that steps lead to is no refusal, if the one that they start from is none.
pub pose_done : (sheet : Sheet) (ss : List (Option Step)) (p : Outcome) (n : ℕ) → p.number ≡ 0 → (carried_out sheet ss p n).pose.number ≡ 0
unfolding carried_out
pose_done sheet [] p n z = z
pose_done sheet (s ∷ ss) p n z =
    step_cases sheet s ss p n (λ o. o.pose.number ≡ 0) (λ h. z) (λ e t. e) (λ e t. pose_done sheet ss _ (n + 1) e)
