use mathlib.Core.Path.{sym, ◌∙◌}
use Prim.Native.Nat.{◌<◌}
use native.Mathlib.Omega.{arith}
use lib.ListN.{length}
use Rattle.masks.specs.Text.{separator}
use Rattle.masks.proofs.TextScan.{front_on, front_off, front_end}
use Rattle.masks.proofs.text.skip_separators.Goals as goal

pub loop-t-preserved : goal.loop-t-preserved
loop-t-preserved c = front_on separator _ c.in-len1-up.len_at_least (sym c.is_separator.ensures ∙ c.if-is_separator.true) ∙ c.loop-t.invariant

pub returns-then-t-lt1 : goal.returns-then-t-lt1
returns-then-t-lt1 c = let h : length c.loop-t.t.now < 1 = grind arith in front_end separator _ h ∙ c.loop-t.invariant

pub returns-else-is_separator : goal.returns-else-is_separator
returns-else-is_separator c = front_off separator _ c.in-len1-up.len_at_least (sym c.is_separator.ensures ∙ c.if-is_separator.false) ∙ c.loop-t.invariant
