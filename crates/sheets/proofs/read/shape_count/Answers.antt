use mathlib.Core.Path.{sym, ap, ◌∙◌}
use native.Mathlib.Omega.{arith}
use lib.ListN.{length}
use lib.Seq.{take_all}
use Rattle.sheets.specs.Bytes.{from_little_endian}
use Rattle.sheets.proofs.ReadLaws.{shapes_count}
use Rattle.sheets.proofs.read.shape_count.Goals as goal

pub returns-then-bytes-lt2 : goal.returns-then-bytes-lt2
returns-then-bytes-lt2 c =
    let b = c.args.bytes.now in
    c.number_at.ensures
    ∙ ap from_little_endian (take_all (length b) b (omega arith) ∙ sym (take_all 2 b (omega arith)))
    ∙ sym (shapes_count b)

pub returns : goal.returns
returns c = c.number_at-2.ensures ∙ sym (shapes_count c.args.bytes.now)
