use Rattle.std.proofs.Common.{◌≡◌, length}
use Rattle.masks.specs.Text.{separator, drop_while}
use Rattle.masks.proofs.text.skip_separators.Given as goal

abbrev pub invariant-loop-t : goal.invariant-loop-t
invariant-loop-t l = drop_while separator l.t ≡ drop_while separator l.fn.t

abbrev pub decreases-loop-t : goal.decreases-loop-t
decreases-loop-t l = length l.t
