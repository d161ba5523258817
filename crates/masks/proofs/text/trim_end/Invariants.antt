use Rattle.std.proofs.Common.{◌≡◌, length, reverse}
use Rattle.masks.specs.Text.{blank, drop_while}
use Rattle.masks.proofs.text.trim_end.Given as goal

abbrev pub invariant-loop-t : goal.invariant-loop-t
invariant-loop-t l = drop_while blank (reverse l.t) ≡ drop_while blank (reverse l.fn.t)

abbrev pub decreases-loop-t : goal.decreases-loop-t
decreases-loop-t l = length l.t
