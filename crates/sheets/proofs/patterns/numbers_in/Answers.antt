use mathlib.Core.Path.{◌≡◌}
use Prim.Native.Nat.{◌%◌}
use native.Mathlib.Omega.{arith}
use lib.Ieee.{binary64, of_bits}
use lib.ListN.{length}
use Rattle.std.proofs.Common.{rules, tests}
use Rattle.sheets.specs.Bytes.{from_little_endian}
use Rattle.sheets.proofs.PatternsLaws.{in_refused, in_done}
use Rattle.sheets.proofs.patterns.numbers_in.Goals as goal

pub returns-then-not-is_empty : goal.returns-then-not-is_empty
returns-then-not-is_empty c =
    let ne : length c.as_chunks.result.1.now ≡ 0 → ⊥ = search (rules, tests) in
    in_refused c.args.bytes.now c.args.out.now (λ e. ne (omega (arith, c.as_chunks.ensures.back_len)))

pub returns : goal.returns
returns c =
    let b = c.args.bytes.now in
    let whole : length b % 8 ≡ 0 = search (rules, tests) in
    in_done b c.as_chunks.result.0.now c.args.out.now _ _ whole c.as_chunks.ensures.front
    (c.convert.ensures (λ x. of_bits binary64 (from_little_endian x)) (λ i d y h r. search rules))
