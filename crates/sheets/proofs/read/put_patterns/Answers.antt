use mathlib.Core.Path.{ap, ◌∙◌}
use mathlib.Core.List.{List, map}
use Prim.Native.Nat.{ℕ}
use Rattle.std.proofs.Common.{rules}
use Rattle.masks.specs.Outcome.{laid}
use Rattle.sheets.specs.Bytes.{from_little_endian}
use Rattle.sheets.proofs.BytesLaws.{chunks_are}
use Rattle.sheets.proofs.read.put_patterns.Goals as goal

pub returns : goal.returns
returns c =
    let out = c.args.out.now in
    c.put_made.ensures from_little_endian (λ i d y h r. search rules)
    ∙ ap (λ (cs : List (List ℕ)). laid (map from_little_endian cs) out) (c.as_chunks.ensures.front ∙ chunks_are 8 _ c.args.bytes.now)
