use mathlib.Core.Path.{◌≡◌, ap, ◌∙◌}
use mathlib.Core.List.{List, [], ◌∷◌, ◌++◌}
use Prim.Native.Nat.{ℕ, ◌-◌, ◌^◌, ◌≤◌}
use native.Mathlib.Omega.{arith}
use lib.Ieee.{Float, nan, of_bits, of_fields, div}
use lib.ListN.{length, set, take, drop, replicate, length-replicate, length-take}
use lib.Pow.{pow_pos}
use Rattle.masks.specs.Outcome.{laid, nought}
use Rattle.arithmetic.specs.Inverse.{nanified}
use borrow.Rule.Slice.PartMut.{put_mid}
use Rattle.arithmetic.proofs.inverse.put_nan.Goals as goal

-- NaN before zeros up to place n.
written : (d n : ℕ) (out zeros : List Float) → n ≡ 2 ^ d → n ≤ length out → zeros ≡ replicate (length (take (n - 1) (drop 1 out))) nought → set (put_mid 1 (n - 1) out zeros) 0 nan ≡ laid (nanified d) out
unfolding nanified
written d n [] zeros e h q = absurd (omega (arith, pow_pos d))
written d n (x ∷ out) zeros e h q =
    let l : length (take (n - 1) out) ≡ 2 ^ d - 1 = omega (arith, length-take (n - 1) out) in
    let k : n - 1 ≡ length (replicate (2 ^ d - 1) nought) = omega (arith, length-replicate (2 ^ d - 1) nought) in
    ap (λ (zs : List Float). nan ∷ (zs ++ drop (n - 1) out)) (q ∙ ap (λ (m : ℕ). replicate m nought) l)
    ∙ ap (λ (m : ℕ). nan ∷ (replicate (2 ^ d - 1) nought ++ drop m out)) k

pub returns : goal.returns
unfolding of_bits of_fields div
returns c =
    let a = c.args in
    written a.dims a.n a.out.now c.fill.new.self c.requires.0 c.requires.1 (c.fill.ensures.after (λ y e. e))
