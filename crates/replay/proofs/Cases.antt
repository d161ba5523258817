-- Worked cases of replay, computed: over the sheet of one Vanilla 1.0, a log that is carried out, one that stops, one that halts, and each refusal. Assumes nothing.
use mathlib.Core.Path.{◌≡◌, refl, ap}
use mathlib.Core.Bool.{Bool, true, false}
use mathlib.Core.List.{List, [], ◌∷◌, map}
use Prim.Native.Nat.{ℕ}
use native.Mathlib.Omega.{arith}
use lib.Count.{ones, ones_in}
use lib.Ieee.{Float, nan, inf, fin, neg, of_bits, eq}
use lib.ListN.{replicate}
use Rattle.masks.specs.declared.flavor.Flavor.TheVariants.{Vanilla}
use Rattle.std.specs.Prelude.{Some}
use Rattle.masks.specs.Order.{order, grades_below, grade, index_of, place, start, size}
use Rattle.masks.specs.Outcome.{Outcome, shape_of, value, unless, refusal}
use Rattle.masks.specs.Shape.{coef, set_dims}
use Rattle.masks.specs.ShapeBytes.{shape_from}
use Rattle.masks.specs.Text.{same}
use Rattle.arithmetic.specs.Scale.{unity}
use Rattle.arithmetic.specs.Scalar.{all_zero, is_scalar, test_of, if_scalar}
use Rattle.arithmetic.specs.Compare.{answers_agree, equals}
use Rattle.arithmetic.specs.Kept.{kept}
use Rattle.arithmetic.specs.Reverse.{reverse, inv_reversed}
use Rattle.arithmetic.proofs.ReverseLaws.{inv_reversed_lem}
use Rattle.sheets.specs.Bytes.{little_endian, from_little_endian, all_bytes, section, parts}
use Rattle.sheets.specs.Format.{sheet_bytes, any_above_nine, blade_total}
use Rattle.sheets.specs.Read.{said, is_sheet_bytes}
use Rattle.replay.specs.declared.log.Step.TheVariants.{Dims}
use Rattle.replay.specs.Log.{step_of, steps_of, names, fits, all_fit}
use Rattle.replay.specs.Step.{sheet_value, named, stepped, fires}
use Rattle.replay.specs.Replay.{Replayed, carried_out, pose_at, refused_replay, replay}
use Rattle.replay.proofs.RefusedLaws.{LogAccepted}
use Rattle.replay.proofs.CuesLaws.{AtCue, cue_pose, from_cue}

-- one Vanilla 1.0
abbrev bytes : List ℕ
bytes = 1 ∷ 0 ∷ 0 ∷ 0 ∷ 0 ∷ 0 ∷ 0 ∷ 1 ∷ 0 ∷ 0 ∷ 0 ∷ 0 ∷ 0 ∷ 0 ∷ 0 ∷ 0 ∷ 0 ∷ 240 ∷ 63 ∷ []

-- that value as the pose
abbrev at_one : ℕ → ℕ → Bool → Replayed
at_one steps stopped halted = record { pose = value (shape_of 0 Vanilla) (unity ∷ []); steps = steps; stopped = stopped; halted = halted }

-- it is its own reverse
same_one : (xs : List Float) → neg unity ∷ [] ≡ map neg xs → xs ≡ unity ∷ []
unfolding neg
same_one [] e = cc
same_one (nan ∷ xs) e = cc
same_one (inf s ∷ xs) e = cc
same_one (fin true m k ∷ xs) e = cc
same_one (fin false m k ∷ []) e = cc
same_one (fin false m k ∷ y ∷ xs) e = cc

reverse_one : reverse (shape_of 0 Vanilla) (unity ∷ []) 512 ≡ value (shape_of 0 Vanilla) (unity ∷ [])
unfolding kept unless refusal inv_reversed order grades_below grade index_of place start size ones ones_in coef
reverse_one = ap (value (shape_of 0 Vanilla)) (same_one _ (inv_reversed_lem 0 (unity ∷ [])))

pub record Cases : Type 0 where
  -- An empty log: the pose is value 0.
  pub empty : replay 1 bytes [] 512 ≡ at_one 0 0 false
  -- Reverse.
  pub goes_on : replay 1 bytes (2 ∷ 0 ∷ []) 512 ≡ at_one 1 0 false
  -- Reverse, then a change to 10 dimensions, which is refused with 1.
  pub stops : replay 1 bytes (2 ∷ 0 ∷ 3 ∷ 10 ∷ []) 512 ≡ at_one 1 1 false
  -- Halt if equal to value 0, which it is; the reverse behind it is not carried out.
  pub halts : replay 1 bytes (4 ∷ 0 ∷ 2 ∷ 0 ∷ []) 512 ≡ at_one 1 0 true
  -- 9 is given before 10 and 3: half a sheet, and a form that is not 1.
  pub no_sheet : replay 1 (1 ∷ []) (7 ∷ 0 ∷ []) 0 ≡ refused_replay 9
  pub other_form : replay 2 bytes (7 ∷ 0 ∷ []) 0 ≡ refused_replay 9
  -- 10 is given before 3: a sheet of no values.
  pub no_values : replay 1 (replicate 6 0) [] 0 ≡ refused_replay 10
  -- 201 reverses.
  pub too_long : replay 1 bytes (replicate 402 2) 512 ≡ refused_replay 10
  -- A step of no known kind, behind one that halts; a byte that is left over; a value that is not in the sheet.
  pub unknown : replay 1 bytes (4 ∷ 0 ∷ 7 ∷ 0 ∷ []) 512 ≡ refused_replay 10
  pub left_over : replay 1 bytes (2 ∷ []) 512 ≡ refused_replay 10
  pub not_there : replay 1 bytes (0 ∷ 1 ∷ []) 512 ≡ refused_replay 10
  -- 3: Room for 511 numbers.
  pub small_room : replay 1 bytes [] 511 ≡ refused_replay 3

pub cases : Cases
unfolding unless refusal set_dims shape_from same all_zero is_scalar test_of if_scalar answers_agree equals kept little_endian from_little_endian all_bytes section parts sheet_bytes any_above_nine blade_total said is_sheet_bytes step_of steps_of names fits all_fit sheet_value named stepped fires carried_out replay of_bits eq
cases =
    record {
      empty = refl;
      goes_on = ap (λ (o : Outcome). record { pose = o; steps = 1; stopped = 0; halted = false }) reverse_one;
      stops = ap (λ (o : Outcome). record { pose = o; steps = 1; stopped = 1; halted = false }) reverse_one;
      halts = refl;
      no_sheet = refl;
      other_form = refl;
      no_values = refl;
      too_long = refl;
      unknown = refl;
      left_over = refl;
      not_there = refl;
      small_room = refl;
    }

-- ---- what the laws ask for is met

-- 200 reverses are accepted.
pub longest : LogAccepted bytes (replicate 400 2)
unfolding said steps_of step_of all_fit fits names from_little_endian parts
longest = record { some = omega arith; few = omega arith; fitting = refl }

-- The log that stops, at cue 1 and from there on.
abbrev log : List ℕ
log = 2 ∷ 0 ∷ 3 ∷ 10 ∷ []

not_refused : (replay 1 bytes log 512).pose.number ≡ 0
not_refused = ap (λ (o : Replayed). o.pose.number) cases.stops

pub first_cue : AtCue (said bytes) (steps_of log) 1 (replay 1 bytes (2 ∷ 0 ∷ []) 512)
first_cue = cue_pose 1 bytes log 512 not_refused 1 (omega (arith, ap (λ (o : Replayed). o.steps) cases.stops))

pub from_first_cue : replay 1 bytes log 512 ≡ carried_out (said bytes) (Some (Dims 10) ∷ []) (pose_at (said bytes) (steps_of log) 1) 1
unfolding steps_of step_of
from_first_cue = from_cue 1 bytes log 512 not_refused 1 (omega arith) first_cue.stopped (ap (λ (o : Replayed). o.halted) cases.goes_on)
