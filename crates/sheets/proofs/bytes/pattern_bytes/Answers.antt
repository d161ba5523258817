use mathlib.Core.Path.{◌∙◌}
use Rattle.sheets.proofs.BytesLaws.{to_eight}
use Rattle.sheets.proofs.bytes.pattern_bytes.Goals as goal

pub returns : goal.returns
returns c = c.to_le_bytes.ensures ∙ to_eight c.args.pattern
