use mathlib.Core.Path.{◌∙◌}
use Rattle.masks.specs.Text.{trimmed}
use Rattle.masks.proofs.text.trim.Goals as goal

pub returns : goal.returns
unfolding trimmed
returns c = c.trim_end.ensures ∙ (rw c.trim_start.ensures)
