use mathlib.Core.Path.{ap, ◌∙◌}
use Rattle.std.proofs.Common.{rules, tests}
use Rattle.std.proofs.lemmas.Iterator.{YieldsList-from_slice}
use Rattle.std.proofs.lemmas.Iterator.Search.{all_from_yields_List}
use Rattle.sheets.specs.inner.Checks.{is_shape, are_shapes}
use Rattle.sheets.proofs.BytesLaws.{chunks_are}
use Rattle.sheets.proofs.ReadLaws.{shapes_every}
use Rattle.sheets.proofs.read.are_shapes.Goals as goal

pub returns : goal.returns
returns c =
    all_from_yields_List is_shape _ _ c.all.result c.all.ensures.ran (YieldsList-from_slice c.as_chunks.result.0.now cc) (λ x b q k. search (rules, tests))
    ∙ shapes_every c.as_chunks.result.0.now
    ∙ ap are_shapes (c.as_chunks.ensures.front ∙ chunks_are 5 _ c.args.bytes.now)
