use mathlib.Core.Path.{◌≡◌, ap, ◌∙◌}
use mathlib.Core.List.{List, [], ◌∷◌, append-nil}
use Prim.Native.Nat.{ℕ, suc, ◌-◌, ◌<◌}
use native.Mathlib.Nat.{not-suc-le-zero}
use native.Mathlib.Omega.{arith}
use borrow.Rule.Slice.PartMut.{put_mid}
use lib.Ieee.{Float, of_bits, of_fields}
use lib.ListN.{length, take, drop, replicate}
use lib.Seq.{take-length, drop-length}
use Rattle.masks.specs.Outcome.{nought}
use Rattle.arithmetic.specs.Kept.{scalar_only}
use Rattle.arithmetic.proofs.kept.clear_rest.Goals as goal

-- Place 0 is as it was.
cleared : (xs ys : List Float) → 0 < length xs → ys ≡ replicate (length (take (length xs - 1) (drop 1 xs))) nought → put_mid 1 (length xs - 1) xs ys ≡ scalar_only xs
unfolding scalar_only
cleared [] ys l e = absurd (not-suc-le-zero l)
cleared (x ∷ xs) ys l e =
    let s : suc (length xs) - 1 ≡ length xs = omega arith in
    let y : ys ≡ replicate (length xs) nought = e ∙ ap (λ (j : ℕ). replicate (length (take j xs)) nought) s ∙ ap (λ zs. replicate (length zs) nought) (take-length xs) in
    rw (y, s, drop-length xs) (ap (λ zs. x ∷ zs) (append-nil (replicate (length xs) nought)))

pub returns : goal.returns
unfolding of_bits of_fields
returns c = cleared c.args.xs.now c.fill.new.self c.requires (c.fill.ensures.after (λ y e. e))
