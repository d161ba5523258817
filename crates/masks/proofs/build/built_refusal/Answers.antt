use mathlib.Core.Path.{refl}
use native.Mathlib.Omega.{arith}
use Rattle.masks.proofs.BuildLaws.{built_wide, built_short, built_done}
use Rattle.masks.proofs.build.built_refusal.Goals as goal

pub returns-then-dims : goal.returns-then-dims
returns-then-dims c = let a = c.args in built_wide a.dims a.room (omega arith)

pub returns-then-room-blades : goal.returns-then-room-blades
returns-then-room-blades c = let a = c.args in built_short a.dims a.room (omega arith) (omega arith)

pub returns : goal.returns
returns c = let a = c.args in (built_done a.dims a.room (omega arith) (omega arith), refl)
