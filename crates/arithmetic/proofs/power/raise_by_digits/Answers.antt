use Prim.Native.Nat.{ℕ, suc, ◌+◌, ◌^◌, ◌≤◌}
use native.Mathlib.Nat.{pow-suc}
use native.Mathlib.Omega.{arith}
use lib.Pow.{pow_mono}
use Rattle.masks.specs.Flavor.{added_dims}
use Rattle.masks.proofs.OrderLaws.{blades_le}
use Rattle.arithmetic.proofs.PowerLaws.{added_le}
use Rattle.arithmetic.proofs.power.raise_by_digits.Goals as goal

-- At most one dimension is added, so there are at most twice as many numbers.
twice : (d a : ℕ) → a ≤ 1 → 2 ^ d ≤ 32 → 2 ^ (d + a) ≤ 64
twice d a h l = let m : 2 ^ (d + a) ≤ 2 ^ suc d = pow_mono (omega arith) in omega (arith, m, pow-suc 2 d)

pub raise_wide-requires-clause-flavor_bound : goal.raise_wide-requires-clause-flavor_bound
raise_wide-requires-clause-flavor_bound c =
    let p = c.requires in
    let f = c.args.value.shape.flavor in
    (p.flavor_bound.0, p.flavor_bound.1, omega (arith, twice c.args.value.shape.dims (added_dims f) (added_le f) (omega (arith, c.if-value-le32.true, c.args.value.counted))))

pub raise_wide-requires-else-value-le32-clause-flavor_bound : goal.raise_wide-requires-else-value-le32-clause-flavor_bound
raise_wide-requires-else-value-le32-clause-flavor_bound c = let f = c.requires.flavor_bound in (f.0, f.1, omega (arith, blades_le _ f.0))

pub raise_wide-requires-else-value-le32-clause-in_bounds : goal.raise_wide-requires-else-value-le32-clause-in_bounds
raise_wide-requires-else-value-le32-clause-in_bounds c = (omega (arith, c.args.value.counted, blades_le _ c.args.value.small), omega arith, omega arith)
