use mathlib.Core.Path.{sym, ◌∙◌}
use Prim.Native.Nat.{◌<◌}
use native.Mathlib.Omega.{arith}
use lib.ListN.{length}
use Rattle.masks.specs.Text.{blank}
use Rattle.masks.proofs.TextScan.{front_on, front_off, front_end}
use Rattle.masks.proofs.text.trim_start.Goals as goal

pub loop-t-preserved : goal.loop-t-preserved
loop-t-preserved c = front_on blank _ c.in-len1-up.len_at_least (sym c.is_blank.ensures ∙ c.if-is_blank.true) ∙ c.loop-t.invariant

pub returns-then-t-lt1 : goal.returns-then-t-lt1
returns-then-t-lt1 c = let h : length c.loop-t.t.now < 1 = grind arith in front_end blank _ h ∙ c.loop-t.invariant

pub returns-else-is_blank : goal.returns-else-is_blank
returns-else-is_blank c = front_off blank _ c.in-len1-up.len_at_least (sym c.is_blank.ensures ∙ c.if-is_blank.false) ∙ c.loop-t.invariant
