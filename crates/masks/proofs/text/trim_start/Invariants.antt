use Rattle.std.proofs.Common.{◌≡◌, length}
use Rattle.masks.specs.Text.{blank, drop_while}
use Rattle.masks.proofs.text.trim_start.Given as goal

abbrev pub invariant-loop-t : goal.invariant-loop-t
invariant-loop-t l = drop_while blank l.t ≡ drop_while blank l.fn.t

abbrev pub decreases-loop-t : goal.decreases-loop-t
decreases-loop-t l = length l.t
