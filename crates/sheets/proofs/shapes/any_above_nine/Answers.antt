use mathlib.Core.Path.{◌∙◌}
use lib.Dec.{ltb}
use Rattle.std.proofs.Common.{rules, tests}
use Rattle.std.proofs.lemmas.Iterator.{YieldsList-from_slice}
use Rattle.std.proofs.lemmas.Iterator.Search.{any_from_yields_List}
use Rattle.sheets.proofs.FormatLaws.{above_any}
use Rattle.sheets.proofs.shapes.any_above_nine.Goals as goal

pub returns : goal.returns
returns c =
    any_from_yields_List (λ s. ltb 9 s.dims) _ _ c.any.result c.any.ensures.ran (YieldsList-from_slice c.args.shapes.now cc) (λ x b q k. search (rules, tests))
    ∙ above_any c.args.shapes.now
