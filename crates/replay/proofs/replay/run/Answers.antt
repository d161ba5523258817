use mathlib.Core.Path.{◌≡◌, refl, sym, ap, ap₂, ◌∙◌}
use mathlib.Core.Bool.{true, false}
use mathlib.Core.List.{List, []}
use Prim.Native.Nat.{ℕ, ◌+◌, ◌*◌, ◌/◌, ◌≤◌, ◌<◌}
use native.Mathlib.Omega.{arith}
use lib.Ieee.{Float}
use lib.ListN.{length, get_or}
use denote.Ref.{MutBor}
use Rattle.std.specs.Prelude.{Option, None, Some, is_some, unwrap_or}
use Rattle.masks.specs.declared.shape.Shape.{Shape}
use Rattle.masks.specs.Outcome.{refusal}
use Rattle.masks.proofs.OrderLaws.{blades_le, none_counted}
use Rattle.sheets.specs.Bytes.{parts}
use Rattle.sheets.specs.Format.{any_above_nine, blade_total}
use Rattle.sheets.specs.Read.{said, is_sheet_bytes}
use Rattle.sheets.specs.Values.{start_of}
use Rattle.sheets.proofs.BytesLaws.{chunks_are}
use Rattle.replay.specs.declared.log.Step.{Step}
use Rattle.replay.specs.Log.{step_of, steps_of, names, log_tests}
use Rattle.replay.specs.Step.{sheet_value, named}
use Rattle.replay.specs.inner.Turns.{held_value}
use Rattle.replay.proofs.LogLaws.{Accepted, accepted, two_bytes, step_at, fit_at, fits_known, named_lt, pair_at}
use Rattle.replay.proofs.ValueLaws.{shape_at, sheet_few, all_listed, none_above, value_is}
use Rattle.replay.proofs.RunLaws.{held_dims, held_few, held_inside, held_read, tried_named, Turned, begins, ended, ended_wide, log_ends, refused_ends, halted_ends, goes_on}
use Rattle.replay.proofs.replay.run.Goals.{After-listed-listed, After-step_of, After-from-k, After-take_turn}
use Rattle.replay.proofs.replay.run.Goals as goal

-- What is known at the start.
record Known (b log : List ℕ) (listed : List Shape) : Type 0 where
  sheet : is_sheet_bytes b ≡ true
  same : listed ≡ (said b).shapes
  done : refusal (log_tests (length (said b).shapes) (steps_of log)) ≡ 0

-- The step that has its turn, and the value that it names.
record Naming (log : List ℕ) (n : ℕ) (step : Step) (index : ℕ) : Type 0 where
  left : n < length log / 2
  which : Some step ≡ step_of (get_or log (2 * n) 0) (get_or log (2 * n + 1) 0)
  names_it : index ≡ named (Some step)

-- a pair's step is that of the log's bytes
which_is : (log : List ℕ) (cs : List (List ℕ)) (n : ℕ) → cs ≡ parts 2 (length log / 2) log → n < length log / 2 → step_of (get_or (get_or cs n []) 0 0) (get_or (get_or cs n []) 1 0) ≡ step_of (get_or log (2 * n) 0) (get_or log (2 * n + 1) 0)
which_is log cs n e h =
    let z : 2 * n + 0 ≡ 2 * n = omega arith in
    rw e (ap₂ step_of (pair_at log n 0 h (omega arith) ∙ ap (λ (k : ℕ). get_or log k 0) z) (pair_at log n 1 h (omega arith)))

module _ {b log : List ℕ} {listed : List Shape} (w : Known b log listed) where
  fit : Accepted (length (said b).shapes) (steps_of log)
  fit = accepted (length (said b).shapes) (steps_of log) w.done

  counted : length listed ≡ length (said b).shapes
  counted = ap length w.same

  few : length listed ≤ 64
  few = omega (arith, counted, sheet_few b w.sheet)

  none : any_above_nine listed ≡ false
  none = ap any_above_nine w.same ∙ none_above b w.sheet

  -- two bytes to a step
  bytes : length log ≡ 2 * length (steps_of log)
  bytes = two_bytes (length (said b).shapes) log fit.fitting

  -- the step at n is known
  known_at : (n : ℕ) → n < length log / 2 → is_some (step_of (get_or log (2 * n) 0) (get_or log (2 * n + 1) 0)) ≡ true
  known_at n h =
      rw (step_at log n (omega (arith, bytes))) at (fits_known (length (said b).shapes) _ (fit_at (length (said b).shapes) (steps_of log) n (omega (arith, bytes)) fit.fitting))

  module _ {n : ℕ} {step : Step} {index : ℕ} (m : Naming log n step index) where
    next : n < length (steps_of log)
    next = omega (arith, m.left, bytes)

    step_is : get_or (steps_of log) n None ≡ Some step
    step_is = step_at log n (omega (arith, next, bytes)) ∙ sym m.which

    inside : named (Some step) < length (said b).shapes
    inside =
        let fits-it = fit_at (length (said b).shapes) (steps_of log) n next fit.fitting in
        named_lt (length (said b).shapes) (Some step) fit.some (rw step_is at fits-it)

    index_inside : index < length (said b).shapes
    index_inside = omega (arith, m.names_it, inside)

    index_listed : index < length listed
    index_listed = omega (arith, index_inside, counted)

known : (c : After-listed-listed) → Known c.args.sheet.now c.args.log.now c.listed-listed.result.now
known c =
    record {
      sheet = c.requires.0;
      same = all_listed c.args.sheet.now c.requires.0 c.args.shapes.now c.listed-listed.result.now c.requires.1 c.listed-listed.ensures;
      done = c.requires.2;
    }

-- A step, and the value that it names.
naming : (c : After-from-k) → Naming c.args.log.now c.loop-steps.steps c.unwrap-step.result c.from-k.result
unfolding named
naming c =
    let log = c.args.log.now in
    let h : c.loop-steps.steps < length log / 2 = omega (arith, c.loop-steps-test.true, c.as_chunks.ensures.front_len) in
    record {
      left = h;
      which = sym c.unwrap-step.ensures ∙ c.step_of.ensures ∙ which_is log c.as_chunks.result.0.now c.loop-steps.steps (c.as_chunks.ensures.front ∙ chunks_are 2 _ log) h;
      names_it = c.from-k.ensures ∙ c.unwrap_or.ensures ∙ ap (λ (o : Option ℕ). unwrap_or o 0) c.names.ensures;
    }

-- The step was tried of the pose and the value that it names.
module _ (c : After-take_turn) (w : Known c.args.sheet.now c.args.log.now c.listed-listed.result.now) (m : Naming c.args.log.now c.loop-steps.steps c.unwrap-step.result c.from-k.result) where
  abbrev b : List ℕ
  b = c.args.sheet.now

  abbrev step : Step
  step = c.unwrap-step.result

  -- it was read where it is needed
  read_is : is_some (names step) ≡ true → held_value (shape_at c.listed-listed.result.now c.from-k.result) c.put_named.new.out ≡ sheet_value (said b) (named (Some step))
  read_is t =
      held_read b w.sheet c.listed-listed.result.now w.same c.from-k.result (index_inside w m) _ c.loop-steps.held c.put_named.new.out (c.put_starts.ensures c.from-k.result (index_listed w m)) (rw t at c.put_named.ensures)
      ∙ ap (sheet_value (said b)) m.names_it

  turned : Turned (said b) (steps_of c.args.log.now) c.loop-steps.shape c.loop-steps.pose.now c.loop-steps.next.now c.loop-steps.steps c.take_turn.result c.take_turn.new.next
  turned =
      record {
        posed = c.loop-steps.invariant.0;
        next = next w m;
        step = step;
        there = step_is w m;
        meant = value_is b w.sheet (named (Some step)) (inside w m);
        tried = tried_named read_is c.take_turn.ensures;
        wide = c.take_turn.auto.next ∙ c.loop-steps.invariant.1;
      }

-- value 0's patterns are the first
first_start : (ss : List Shape) → start_of ss 0 ≡ 0
unfolding blade_total
first_start ss = refl

pub put_starts-requires : goal.put_starts-requires
put_starts-requires c =
    let w = known (goal.at.put_starts-requires c).After-listed-listed in
    (few w, none w, few w)

pub bounds-listed-0 : goal.bounds-listed-0
bounds-listed-0 c =
    let w = known (goal.at.bounds-listed-0 c).After-listed-listed in
    omega (arith, (fit w).some, counted w)

pub put_value-requires : goal.put_value-requires
put_value-requires c =
    let w = known (goal.at.put_value-requires c).After-listed-listed in
    let b = c.args.sheet.now in
    let ss = c.listed-listed.result.now in
    let small = held_dims b w.sheet ss w.same 0 (fit w).some in
    let n = none_counted c.blades_or_none.ensures small in
    let z = first_start ss in
    (few w, omega (arith, n, z, held_few b w.sheet ss w.same 0 (fit w).some), omega (arith, n, z, held_inside b w.sheet ss w.same 0 (fit w).some), omega (arith, n, blades_le _ small))

pub loop-steps-init : goal.loop-steps-init
unfolding blade_total
loop-steps-init c =
    let w = known (goal.at.loop-steps-init c).After-listed-listed in
    let b = c.args.sheet.now in
    let ss = c.listed-listed.result.now in
    let v = c.put_value in
    let small = held_dims b w.sheet ss w.same 0 (fit w).some in
    let r = held_read b w.sheet ss w.same 0 (fit w).some 0 _ v.new.out refl (rw (none_counted c.blades_or_none.ensures small) at v.ensures) in
    (begins small v.auto.out r, refl, refl, refl)

pub unwrap-step-requires : goal.unwrap-step-requires
unwrap-step-requires c =
    let w = known (goal.at.unwrap-step-requires c).After-listed-listed in
    let log = c.args.log.now in
    let h : c.loop-steps.steps < length log / 2 = omega (arith, c.loop-steps-test.true, c.as_chunks.ensures.front_len) in
    ap is_some (c.step_of.ensures ∙ which_is log c.as_chunks.result.0.now c.loop-steps.steps (c.as_chunks.ensures.front ∙ chunks_are 2 _ log) h) ∙ known_at w c.loop-steps.steps h

pub bounds-listed-k : goal.bounds-listed-k
bounds-listed-k c = index_listed (known (goal.at.bounds-listed-k c).After-listed-listed) (naming c)

pub bounds-starts-k : goal.bounds-starts-k
bounds-starts-k c =
    let at = goal.at.bounds-starts-k c in
    let w = known at.After-listed-listed in
    omega (arith, few w, index_listed w (naming at.After-from-k))

pub put_named-requires : goal.put_named-requires
put_named-requires c =
    let at = goal.at.put_named-requires c in
    let w = known at.After-listed-listed in
    let m = naming at.After-from-k in
    let b = c.args.sheet.now in
    let ss = c.listed-listed.result.now in
    let k = c.from-k.result in
    let small = held_dims b w.sheet ss w.same k (index_inside w m) in
    let start = c.put_starts.ensures k (index_listed w m) in (
      small,
      few w,
      rw start (held_few b w.sheet ss w.same k (index_inside w m)),
      rw start (held_inside b w.sheet ss w.same k (index_inside w m)),
      omega (arith, c.loop-steps.invariant.2, blades_le _ small),
    )

pub take_turn-requires : goal.take_turn-requires
take_turn-requires c =
    let at = goal.at.take_turn-requires c in
    let w = known at.After-listed-listed in
    let i = c.loop-steps.invariant in
    let small = held_dims c.args.sheet.now w.sheet c.listed-listed.result.now w.same c.from-k.result (index_inside w (naming at.After-from-k)) in
    (i.0.small, small, i.0.wide, c.put_named.auto.out ∙ i.2, i.1)

pub returns-in-Err : goal.returns-in-Err
returns-in-Err c =
    let at = goal.at.returns-in-Err c in
    let t = turned at.After-take_turn (known at.After-listed-listed) (naming at.After-from-k) in
    ended refl (refused_ends t c.in-Err.refusal c.in-Err.is) c.loop-steps.invariant.3 c.finish.ensures

pub finish-requires-then-tried : goal.finish-requires-then-tried
finish-requires-then-tried c =
    let at = goal.at.finish-requires-then-tried c in
    let t = turned at.After-take_turn (known at.After-listed-listed) (naming at.After-from-k) in
    let s : c.swap.new.x.now ≡ c.take_turn.new.next = ap (λ (b : MutBor (List Float)). b.now) c.swap.ensures.x_after in
    rw s (ended_wide c.loop-steps.out (halted_ends t c.in-Ok.tried c.in-Ok.is c.if-tried.true) (omega (arith, c.requires.3, ap length c.loop-steps.invariant.3)))

pub returns-then-tried : goal.returns-then-tried
returns-then-tried c =
    let at = goal.at.returns-then-tried c in
    let t = turned at.After-take_turn (known at.After-listed-listed) (naming at.After-from-k) in
    let s : c.swap.new.x.now ≡ c.take_turn.new.next = ap (λ (b : MutBor (List Float)). b.now) c.swap.ensures.x_after in
    ended refl (halted_ends t c.in-Ok.tried c.in-Ok.is c.if-tried.true) c.loop-steps.invariant.3 (rw s at c.finish-then-tried.ensures)

pub loop-steps-preserved : goal.loop-steps-preserved
loop-steps-preserved c =
    let at = goal.at.loop-steps-preserved c in
    let t = turned at.After-take_turn (known at.After-listed-listed) (naming at.After-from-k) in
    let i = c.loop-steps.invariant in
    let s : c.swap.new.x.now ≡ c.take_turn.new.next = ap (λ (b : MutBor (List Float)). b.now) c.swap.ensures.x_after in
    (rw s (goes_on t c.in-Ok.tried c.in-Ok.is c.if-tried.false), ap (λ (b : MutBor (List Float)). length b.now) c.swap.ensures.y_after ∙ i.0.wide, c.put_named.auto.out ∙ i.2, i.3)

pub returns : goal.returns
returns c =
    let w = known (goal.at.returns c).After-listed-listed in
    let n : length c.as_chunks.result.0.now ≡ c.loop-steps.steps = omega (arith, c.loop-steps-test.false) in
    ended refl (log_ends c.loop-steps.invariant.0 (omega (arith, c.loop-steps-test.false, c.as_chunks.ensures.front_len, bytes w))) c.loop-steps.invariant.3 (rw n at c.finish-2.ensures)
