use mathlib.Core.Path.{ap, ◌∙◌}
use mathlib.Core.List.{List, ◌++◌}
use lib.Ieee.{Float}
use lib.ListN.{drop}
use lib.Seq.{length-take-le}
use Rattle.masks.proofs.ListLaws.{lay_part}
use Rattle.replay.proofs.replay.put_first.Goals as goal

pub returns : goal.returns
returns c =
    let a = c.args in
    rw (length-take-le a.n a.a.now c.requires.0) (ap (λ (xs : List Float). xs ++ drop a.n a.out.now) (c.lay.ensures ∙ lay_part a.n a.a.now a.out.now c.requires.0 c.requires.1))
