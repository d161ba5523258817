use mathlib.Core.Path.{ap₂}
use Prim.Native.Nat.{ℕ, ◌*◌, ◌^◌, ◌≤◌}
use native.Mathlib.Omega.{arith}
use Rattle.product.proofs.PairsBounds.{powers_grow}
use Rattle.product.proofs.pairs.choices.Goals.{After-power-2}
use Rattle.product.proofs.pairs.choices.Goals as goal

-- No more than four choices for each of nine vectors.
few : (c : After-power-2) → c.power.result * c.power-2.result ≤ 4 ^ 9
few c =
    let a = c.args in
    rw (c.power.ensures, c.power-2.ensures) (powers_grow a.full a.null_ones 4 a.dims a.null 9 (omega arith) c.requires.0 c.requires.1 c.requires.2 c.requires.3)

pub overflow_mul-result : goal.overflow_mul-result
overflow_mul-result c = omega (arith, few c)

pub returns : goal.returns
returns c = (ap₂ (λ (x y : ℕ). x * y) c.power.ensures c.power-2.ensures, omega (arith, few c))
