use mathlib.Core.Path.{sym}
use Rattle.replay.proofs.LogLaws.{steps_length}
use Rattle.replay.proofs.log.step_count.Goals as goal

pub returns : goal.returns
returns c = sym (steps_length c.args.log.now)
