use mathlib.Core.Path.{ap, ◌∙◌}
use mathlib.Core.List.{List, ◌++◌}
use lib.Ieee.{Float}
use lib.ListN.{length, drop}
use Rattle.masks.proofs.ListLaws.{lay_front}
use Rattle.masks.proofs.gather.copy_all.Goals as goal

pub returns : goal.returns
returns c =
    let a = c.args in
    ap (λ (xs : List Float). xs ++ drop (length a.a.now) a.out.now) (c.lay.ensures ∙ lay_front a.a.now a.out.now c.requires)
