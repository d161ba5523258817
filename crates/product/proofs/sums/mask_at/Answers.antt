use mathlib.Core.Path.{ap, ◌∙◌}
use Prim.Native.Nat.{ℕ, ◌-◌}
use native.Mathlib.Nat.{one-mul}
use native.Mathlib.Omega.{arith}
use lib.Bits.{bit_and, and_mask}
use lib.ListN.{get_or}
use lib.Pow.{shl_exact}
use Rattle.product.proofs.sums.mask_at.Goals as goal

pub returns : goal.returns
returns c =
    let p = c.args.plan in
    let x = get_or p.given.now c.args.i 0 in
    ap (λ (n : ℕ). bit_and x (n - 1)) (shl_exact 1 p.shape.dims 32 (omega arith) (omega (arith, p.small)) ∙ one-mul _) ∙ and_mask x p.shape.dims
