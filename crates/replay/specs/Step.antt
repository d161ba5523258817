-- One step: what the named operation does to a pose. Assumes nothing.
use Rattle.std.specs.Prelude.{Bool, false, map, ℕ, ◌^◌, take, drop, Option, None, Some, unwrap_or}
use Rattle.std.specs.Float.{binary64}
use Rattle.std.specs.Float.Ieee.{of_bits}
use Rattle.masks.specs.Outcome.{Outcome, unless, value, refused_value}
use Rattle.masks.specs.Shape.{set_dims}
use Rattle.arithmetic.specs.Operators.{multiplication}
use Rattle.arithmetic.specs.Reverse.{reverse}
use Rattle.arithmetic.specs.Compare.{YesNo, equals}
use Rattle.sheets.specs.Format.{Sheet}
use Rattle.sheets.specs.Values.{placed_at}
use Rattle.replay.specs.declared.log.Step.{Step}
use Rattle.replay.specs.declared.log.Step.TheVariants.{Right, Left, Reverse, Dims, Halt}
use Rattle.replay.specs.Log.{names}

-- ---- the value that a step names

-- The value at an index of a sheet: its shape, and the numbers of its patterns.
unfoldable pub sheet_value : Sheet → ℕ → Outcome
sheet_value sheet i =
    let placed = placed_at sheet.shapes i in
    value placed.shape (map (of_bits binary64) (take (2 ^ placed.shape.dims) (drop placed.start sheet.patterns)))

-- The index of the value that a step names, and 0 where it names none.
unfoldable pub named : Option Step → ℕ
named None = 0
named (Some s) = unwrap_or (names s) 0

-- ---- what it does, in room for any value

-- `*` of two values.
abbrev pub pose_times : Outcome → Outcome → Outcome
pose_times p v = multiplication p.shape v.shape p.coefs v.coefs 512

-- The reference's `==` of two values.
abbrev pub is_equal : Outcome → Outcome → YesNo
is_equal p v = equals p.shape v.shape p.coefs v.coefs

-- The pose p after a step, v being the value that the step names; halting leaves the pose.
unfoldable pub stepped : Option Step → Outcome → Outcome → Outcome
stepped (Some (Right k)) p v = pose_times p v
stepped (Some (Left k)) p v = pose_times v p
stepped (Some Reverse) p v = reverse p.shape p.coefs 512
stepped (Some (Dims m)) p v = set_dims p.shape m p.coefs 512
stepped (Some (Halt k)) p v = unless refused_value (is_equal p v).number p
stepped None p v = p

-- A halting step fires where the pose is equal to the value.
unfoldable pub fires : Option Step → Outcome → Outcome → Bool
fires (Some (Right k)) p v = false
fires (Some (Left k)) p v = false
fires (Some Reverse) p v = false
fires (Some (Dims m)) p v = false
fires (Some (Halt k)) p v = (is_equal p v).yes
fires None p v = false
