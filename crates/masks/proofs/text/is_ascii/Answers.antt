use mathlib.Core.Path.{◌∙◌}
use borrow.Author.Tests.{tests}
use lib.Dec.{leb}
use Rattle.std.proofs.Common.{rules}
use Rattle.std.proofs.lemmas.Iterator.{YieldsList-from_slice}
use Rattle.std.proofs.lemmas.Iterator.Search.{all_from_yields_List}
use Rattle.masks.proofs.TextScan.{every_all}
use Rattle.masks.proofs.text.is_ascii.Goals as goal

pub returns : goal.returns
returns c =
    all_from_yields_List (λ x. leb x 127) _ _ _ c.all.ensures.ran (YieldsList-from_slice c.args.t.now cc) (λ x b q k. search (rules, tests))
    ∙ every_all (λ x. leb x 127) c.args.t.now
