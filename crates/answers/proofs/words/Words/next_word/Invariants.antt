use Rattle.std.proofs.Common.{length}
use Rattle.answers.proofs.words.Words.next_word.Given as goal

abbrev pub decreases-loop-c : goal.decreases-loop-c
decreases-loop-c l = length l.self.rest.now
