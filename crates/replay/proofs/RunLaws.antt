-- A run: where the pose and a named value are held, and what a turn leaves of the log. Assumes nothing.
use mathlib.Core.Path.{◌≡◌, refl, sym, ap, ap₂, ◌∙◌, subst}
use mathlib.Core.Bool.{Bool, true, false}
use mathlib.Core.List.{List, ◌∷◌}
use Prim.Native.Nat.{ℕ, ◌+◌, ◌*◌, ◌^◌, ◌≤◌, ◌<◌}
use native.Mathlib.Numerals.{add-one}
use native.Mathlib.Omega.{arith}
use lib.Ieee.{Float}
use lib.ListN.{length, get_or, take, drop}
use lib.Seq.{length-take-le, drop-cons, drop-length}
use Rattle.std.proofs.lemmas.Result.{MatchResult-at_ok, MatchResult-at_err}
use Rattle.std.specs.Prelude.{Option, None, Some, is_some, Result, Ok, Err, MatchResult}
use Rattle.masks.specs.declared.outcome.Refusal.{Refusal}
use Rattle.masks.specs.declared.shape.Shape.{Shape}
use Rattle.masks.specs.Outcome.{number_of, Outcome, value, laid}
use Rattle.masks.proofs.ListLaws.{take_laid}
use Rattle.masks.proofs.OrderLaws.{blades_le}
use Rattle.masks.proofs.OutcomeLaws.{refuses}
use Rattle.sheets.specs.Format.{Sheet}
use Rattle.sheets.specs.Read.{said, is_sheet_bytes}
use Rattle.sheets.specs.Values.{start_of}
use Rattle.replay.specs.declared.log.Step.{Step}
use Rattle.replay.specs.declared.outcome.Replay.{Replay}
use Rattle.replay.specs.declared.step.Tried.{Tried}
use Rattle.replay.specs.Log.{names}
use Rattle.replay.specs.Step.{sheet_value, named, stepped, fires}
use Rattle.replay.specs.Replay.{Replayed, carried_out, IsStop, IsReplay}
use Rattle.replay.specs.inner.Turns.{held_value, numbers_at, IsTried, Tries}
use Rattle.replay.proofs.StepLaws.{IsValue, stepped_value, unnamed}
use Rattle.replay.proofs.ValueLaws.{shape_at, value_shape, shape_small, value_few, value_inside, value_lies, value_is}
use Rattle.replay.proofs.ReplayLaws.{step_stops, step_halts, step_goes_on}

-- ---- a value at the front of an array

-- a value is made of its parts
of_parts : (o : Outcome) (s : Shape) (xs : List Float) → o.number ≡ 0 → s ≡ o.shape → xs ≡ o.coefs → value s xs ≡ o
of_parts o s xs d p q = rw (p, q, ← d)

-- one that was laid there
pub laid_held : (o : Outcome) (s : Shape) (before after : List Float) → IsValue o → s ≡ o.shape → after ≡ laid o.coefs before → held_value s after ≡ o
laid_held o s before after v p e =
    of_parts o s (take (2 ^ s.dims) after) v.done p
    (ap (take (2 ^ s.dims)) e ∙ take_laid (2 ^ s.dims) o.coefs before (v.counted ∙ ap (λ (u : Shape). 2 ^ u.dims) (sym p)))

-- the front of an array of 512 is one
pub held_value_lem : (s : Shape) (xs : List Float) → s.dims ≤ 9 → length xs ≡ 512 → IsValue (held_value s xs)
held_value_lem s xs h l = record { done = refl; small = h; counted = length-take-le (2 ^ s.dims) xs (omega (arith, blades_le s.dims h)) }

-- ---- the values of a sheet

module _ (b : List ℕ) (e : is_sheet_bytes b ≡ true) (listed : List Shape) (q : listed ≡ (said b).shapes) (i : ℕ) (h : i < length (said b).shapes) where
  pub held_dims : (shape_at listed i).dims ≤ 9
  held_dims = rw q (shape_small b e i h)

  -- its patterns end within those that a sheet has at most, and within the bytes
  pub held_few : start_of listed i + 2 ^ (shape_at listed i).dims ≤ 4096
  held_few = rw q (value_few b e i h)

  pub held_inside : 6 + 5 * length listed + 8 * (start_of listed i + 2 ^ (shape_at listed i).dims) ≤ length b
  held_inside = rw q (value_inside b e i h)

  -- the numbers that are read from where they lie are the value's
  pub held_read : (k : ℕ) (before after : List Float) → k ≡ start_of listed i → after ≡ laid (numbers_at b (length listed) k (2 ^ (shape_at listed i).dims)) before → held_value (shape_at listed i) after ≡ sheet_value (said b) i
  held_read k before after f g =
      laid_held (sheet_value (said b) i) _ before after (value_is b e i h) (ap (λ (ss : List Shape). shape_at ss i) q ∙ sym (value_shape (said b) i))
      (g ∙ rw (f, q, value_lies b e i h))

-- what is tried is the value that a step names, where it names one
pub tried_named : {s : Step} {p v w : Outcome} {r : Result Tried Refusal} {before after : List Float} → (is_some (names s) ≡ true → w ≡ v) → Tries s p w r before after → Tries s p v r before after
tried_named {s} {p} {v} {w} {r} {before} {after} e g = go (is_some (names s)) refl
  where
    go : (t : Bool) → is_some (names s) ≡ t → Tries s p v r before after
    go true m = rw (e m) at g
    go false m =
        let u = unnamed s p w v m in
        record {
          answered = subst (λ (o : Outcome × Bool). MatchResult r (IsTried o.0 o.1) (λ refused. o.0.number ≡ number_of refused)) (ap₂ (λ (o : Outcome) (f : Bool). (o, f)) u.0 u.1) g.answered;
          left = rw u.0 at g.left;
        }

-- ---- a turn

-- The replay that is wanted is what is left of the log, from the pose that n steps led to.
pub record Posed (sheet : Sheet) (ss : List (Option Step)) (shape : Shape) (xs : List Float) (n : ℕ) : Type 0 where
  pub small : shape.dims ≤ 9
  pub wide : length xs ≡ 512
  pub few : n ≤ length ss
  pub same : carried_out sheet ss (sheet_value sheet 0) 0 ≡ carried_out sheet (drop n ss) (held_value shape xs) n

-- The next step was tried, from one array to the other.
pub record Turned (sheet : Sheet) (ss : List (Option Step)) (shape : Shape) (xs ys : List Float) (n : ℕ) (r : Result Tried Refusal) (ys' : List Float) : Type 0 where
  pub posed : Posed sheet ss shape xs n
  pub next : n < length ss
  pub step : Step
  pub there : get_or ss n None ≡ Some step
  pub meant : IsValue (sheet_value sheet (named (Some step)))
  pub tried : Tries step (held_value shape xs) (sheet_value sheet (named (Some step))) r ys ys'
  pub wide : length ys' ≡ 512

-- It ends here.
pub record Ended (sheet : Sheet) (ss : List (Option Step)) (shape : Shape) (xs : List Float) (n stopped : ℕ) : Type 0 where
  pub small : shape.dims ≤ 9
  pub wide : length xs ≡ 512
  pub halted : Bool
  pub same : carried_out sheet ss (sheet_value sheet 0) 0 ≡ record { pose = held_value shape xs; steps = n; stopped = stopped; halted = halted }

-- at the start it is value 0
pub begins : {sheet : Sheet} {ss : List (Option Step)} {shape : Shape} {xs : List Float} → shape.dims ≤ 9 → length xs ≡ 512 → held_value shape xs ≡ sheet_value sheet 0 → Posed sheet ss shape xs 0
begins h l v = record { small = h; wide = l; few = omega arith; same = rw v }

module _ {sheet : Sheet} {ss : List (Option Step)} {shape : Shape} {xs : List Float} {n : ℕ} where
  -- the answer, and the output
  pub ended : {stopped : ℕ} {o : Option Refusal} {r : Replay} {before out after : List Float} → IsStop stopped o → Ended sheet ss shape xs n stopped → out ≡ before
      → (r ≡ record { shape = shape; steps = n; stopped = o }) × (after ≡ laid (take (2 ^ shape.dims) xs) out)
      → IsReplay (carried_out sheet ss (sheet_value sheet 0) 0) r × (after ≡ laid (carried_out sheet ss (sheet_value sheet 0) 0).pose.coefs before)
  ended {stopped} i t e f =
      let whole : Replayed = record { pose = held_value shape xs; steps = n; stopped = stopped; halted = t.halted } in
      rw (t.same, ← e) (subst (IsReplay whole) (sym f.0) (record { done = refl; shape = refl; steps = refl; stopped = i }), f.1)

  -- what the end of a replay asks for
  pub ended_wide : {stopped : ℕ} (out : List Float) → Ended sheet ss shape xs n stopped → 512 ≤ length out → (shape.dims ≤ 9) × (length xs ≡ 512) × (512 ≤ length out)
  ended_wide out t h = (t.small, t.wide, h)

  -- no step is left
  pub log_ends : Posed sheet ss shape xs n → length ss ≤ n → Ended sheet ss shape xs n 0
  unfolding carried_out
  log_ends t h =
      let m : n ≡ length ss = omega (arith, t.few) in
      record {
        small = t.small;
        wide = t.wide;
        halted = false;
        same = t.same ∙ ap (λ (rest : List (Option Step)). carried_out sheet rest (held_value shape xs) n) (ap (λ (k : ℕ). drop k ss) m ∙ drop-length ss);
      }

  module _ {ys : List Float} {r : Result Tried Refusal} {ys' : List Float} (t : Turned sheet ss shape xs ys n r ys') where
    abbrev s : Option Step
    s = Some t.step

    abbrev pose : Outcome
    pose = held_value shape xs

    abbrev meant : Outcome
    meant = sheet_value sheet (named s)

    abbrev after : Outcome
    after = stepped s pose meant

    begun : carried_out sheet ss (sheet_value sheet 0) 0 ≡ carried_out sheet (s ∷ drop (n + 1) ss) pose n
    begun = t.posed.same ∙ ap (λ (rest : List (Option Step)). carried_out sheet rest pose n) (drop-cons ss n None t.next ∙ rw (t.there, add-one))

    -- it stops with a number
    abbrev stop : ℕ → Replayed
    stop k = record { pose = pose; steps = n; stopped = k; halted = false }

    -- the step is refused: the pose stays
    pub refused_ends : (e : Refusal) → r ≡ Err e → Ended sheet ss shape xs n (number_of e)
    refused_ends e q =
        let m : after.number ≡ number_of e = MatchResult-at_err (IsTried after (fires s pose meant)) (λ refused. after.number ≡ number_of refused) e q t.tried.answered in
        record {
          small = t.posed.small;
          wide = t.posed.wide;
          halted = false;
          same = begun ∙ step_stops sheet s (drop (n + 1) ss) pose n (λ d. refuses e (sym m ∙ d)) ∙ ap stop m;
        }

    module _ (w : Tried) (q : r ≡ Ok w) where
      told : IsTried after (fires s pose meant) w
      told = MatchResult-at_ok (IsTried after (fires s pose meant)) (λ refused. after.number ≡ number_of refused) w q t.tried.answered

      after_is : IsValue after
      after_is = stepped_value s pose meant (held_value_lem shape xs t.posed.small t.posed.wide) t.meant told.done

      -- the pose that it leads to is in the other array
      after_held : held_value w.shape ys' ≡ after
      after_held = laid_held after w.shape ys ys' after_is told.shape t.tried.left

      -- it halts
      pub halted_ends : w.halts ≡ true → Ended sheet ss w.shape ys' (n + 1) 0
      halted_ends z =
          record {
            small = rw told.shape after_is.small;
            wide = t.wide;
            halted = true;
            same = begun ∙ step_halts sheet s (drop (n + 1) ss) pose n told.done (sym told.halts ∙ z) ∙ rw after_held;
          }

      -- it is carried out
      pub goes_on : w.halts ≡ false → Posed sheet ss w.shape ys' (n + 1)
      goes_on z =
          record {
            small = rw told.shape after_is.small;
            wide = t.wide;
            few = omega (arith, t.next);
            same = begun ∙ step_goes_on sheet s (drop (n + 1) ss) pose n told.done (sym told.halts ∙ z) ∙ rw after_held;
          }
