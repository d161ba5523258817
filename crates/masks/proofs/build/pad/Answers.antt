use mathlib.Core.Path.{◌∙◌}
use lib.Seq.{take-length}
use Rattle.masks.proofs.BuildLaws.{padded_over}
use Rattle.masks.proofs.build.pad.Goals as goal

pub returns : goal.returns
returns c =
    c.copy_part.ensures
    ∙ rw (c.clear_part.ensures, take-length c.args.v.now) (padded_over c.args.first c.args.v.now c.args.n c.args.out.now c.requires.0 c.requires.1)
