use mathlib.Core.Path.{◌≡◌, ap, ◌∙◌}
use Prim.Native.Nat.{ℕ, ◌+◌, ◌-◌}
use native.Mathlib.Omega.{arith}
use lib.ListN.{length, take, drop, length-drop}
use lib.Seq.{length-take-le}
use Rattle.sheets.specs.Bytes.{from_little_endian}
use Rattle.sheets.proofs.BytesLaws.{from_padded}
use Rattle.sheets.proofs.bytes.number_at.Goals as goal

pub returns : goal.returns
returns c =
    let a = c.args in
    let b = drop a.at a.bytes.now in
    let n : a.at + a.count - a.at ≡ a.count = omega arith in
    let part : c.copy_from_slice.new.self ≡ take a.count b = c.copy_from_slice.ensures.after ∙ ap (λ (k : ℕ). take k b) n in
    let long : length c.copy_from_slice.new.self ≡ a.count = ap length part ∙ length-take-le a.count b (omega (arith, length-drop a.at a.bytes.now)) in
    c.from_le_bytes.ensures ∙ from_padded c.copy_from_slice.new.self a.count c.requires.0 long ∙ ap from_little_endian part
