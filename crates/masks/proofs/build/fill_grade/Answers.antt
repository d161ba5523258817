use mathlib.Core.Path.{◌∙◌}
use Rattle.masks.specs.Build.{at_grade}
use Rattle.masks.proofs.build.fill_grade.Goals as goal

pub returns : goal.returns
unfolding at_grade
returns c =
    c.pad.ensures
    ∙ rw (c.start_of.ensures, c.blades.ensures)
