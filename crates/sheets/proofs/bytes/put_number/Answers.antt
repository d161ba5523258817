use mathlib.Core.Path.{◌≡◌, ap, ◌∙◌}
use Prim.Native.Nat.{◌+◌, ◌-◌}
use native.Mathlib.Omega.{arith}
use lib.ListN.{length, take}
use lib.Seq.{sets}
use Rattle.sheets.specs.Bytes.{little_endian}
use Rattle.sheets.proofs.BytesLaws.{little_endian-length, to_eight, fewer_bytes, put_mid_sets}
use Rattle.sheets.proofs.bytes.put_number.Goals as goal

pub returns : goal.returns
returns c =
    let a = c.args in
    let n : a.at + a.count - a.at ≡ a.count = omega arith in
    let part : c.copy_from_slice.new.self ≡ little_endian a.count a.number =
    c.copy_from_slice.ensures.after ∙ ap (take a.count) (c.to_le_bytes.ensures ∙ to_eight a.number) ∙ fewer_bytes a.count 8 a.number c.requires.0 in
    let long : length c.copy_from_slice.new.self ≡ a.count = ap length part ∙ little_endian-length a.count a.number in
    rw n (put_mid_sets a.at a.count a.out.now c.copy_from_slice.new.self long c.requires.1) ∙ ap (sets a.out.now a.at) part
