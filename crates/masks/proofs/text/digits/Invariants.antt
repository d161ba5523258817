use Rattle.masks.proofs.TextLaws.{Digits}
use Rattle.masks.proofs.text.digits.Given as goal

abbrev pub invariant-loop-c : goal.invariant-loop-c
invariant-loop-c l = Digits l.t l.v l.c-index
