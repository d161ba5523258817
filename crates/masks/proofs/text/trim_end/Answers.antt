use mathlib.Core.Path.{sym, ap, ◌∙◌}
use mathlib.Core.List.{reverse}
use Prim.Native.Nat.{◌<◌}
use native.Mathlib.Omega.{arith}
use lib.ListN.{length}
use Rattle.masks.specs.Text.{blank}
use Rattle.masks.proofs.TextScan.{back_on, back_off, back_end}
use Rattle.masks.proofs.text.trim_end.Goals as goal

pub loop-t-preserved : goal.loop-t-preserved
loop-t-preserved c = back_on blank _ c.in-len1-up.len_at_least (sym c.is_blank.ensures ∙ c.if-is_blank.true) ∙ c.loop-t.invariant

pub returns-then-t-lt1 : goal.returns-then-t-lt1
returns-then-t-lt1 c = let h : length c.loop-t.t.now < 1 = grind arith in back_end blank _ h ∙ ap reverse c.loop-t.invariant

pub returns-else-is_blank : goal.returns-else-is_blank
returns-else-is_blank c = back_off blank _ c.in-len1-up.len_at_least (sym c.is_blank.ensures ∙ c.if-is_blank.false) ∙ ap reverse c.loop-t.invariant
