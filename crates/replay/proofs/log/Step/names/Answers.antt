use Rattle.replay.specs.Log.{names}
use Rattle.replay.proofs.log.Step.names.Goals as goal

pub returns-in-Right : goal.returns-in-Right
unfolding names
returns-in-Right c = rw c.in-Right.is

pub returns-in-Left : goal.returns-in-Left
unfolding names
returns-in-Left c = rw c.in-Left.is

pub returns-in-Reverse : goal.returns-in-Reverse
unfolding names
returns-in-Reverse c = rw c.in-Reverse.is

pub returns-in-Dims : goal.returns-in-Dims
unfolding names
returns-in-Dims c = rw c.in-Dims.is

pub returns-in-Halt : goal.returns-in-Halt
unfolding names
returns-in-Halt c = rw c.in-Halt.is
