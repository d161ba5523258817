-- The bounds that keep a count of pairs from wrapping: of the number of null vectors, and of powers of small bases. Assumes nothing.
use mathlib.Core.Path.{sym}
use Prim.Native.Nat.{ℕ, ◌-◌, ◌*◌, ◌^◌, ◌<◌, ◌≤◌}
use native.Mathlib.Nat.{le_trans, le_of_eq, mul-le-mul, pow-le-pow_left, pow-le-pow_right}
use native.Mathlib.Omega.{arith}
use lib.IntN.{ℤ}
use lib.Pow.{pow-add}
use Rattle.clifford.specs.Pairs.{nulls}
use Rattle.clifford.proofs.CountLaws.{count_le}

pub nulls_le : (g : ℕ → ℤ) (d : ℕ) → nulls g d ≤ d
unfolding nulls
nulls_le g d = count_le d _

-- A power grows with its base and with its exponent.
pub power_grows : (p m i n : ℕ) → 0 < m → p ≤ m → i ≤ n → p ^ i ≤ m ^ n
power_grows p m i n z h l = le_trans (pow-le-pow_left h i) (pow-le-pow_right z l)

-- The product of d factors, each at most m, of which k are q and the others p.
pub powers_grow : (p q m d k n : ℕ) → 0 < m → p ≤ m → q ≤ m → k ≤ d → d ≤ n → p ^ (d - k) * q ^ k ≤ m ^ n
powers_grow p q m d k n z h g l e =
    le_trans (mul-le-mul (pow-le-pow_left h (d - k)) (pow-le-pow_left g k))
    (le_trans (le_of_eq (sym (pow-add m (d - k) k))) (pow-le-pow_right z (omega arith)))
