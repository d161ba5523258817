use mathlib.Core.Path.{◌∙◌}
use native.Mathlib.Omega.{arith}
use Rattle.sheets.proofs.BytesLaws.{from_eight}
use Rattle.sheets.proofs.bytes.pattern_from.Goals as goal

pub returns : goal.returns
returns c = c.from_le_bytes.ensures ∙ from_eight c.args.bytes (omega arith)
