use Prim.Native.Nat.{◌<◌}
use native.Mathlib.Omega.{arith}
use lib.Bits.{bit_xor, xor_lt}
use lib.ListN.{length}
use Rattle.product.proofs.sums.add_pair.Goals.{Start}
use Rattle.product.proofs.sums.add_pair.Goals as goal

-- The sum's mask is one of the masks.
low : (c : Start) → bit_xor c.args.m c.args.blade.mask < length c.args.acc.now
low c = omega (arith, c.requires.3, xor_lt c.args.left.dims c.args.m c.args.blade.mask c.requires.0 c.requires.1)

pub bounds-acc-c : goal.bounds-acc-c
bounds-acc-c c = low (goal.at.bounds-acc-c c).Start

pub bounds-acc-c-2 : goal.bounds-acc-c-2
bounds-acc-c-2 c = low (goal.at.bounds-acc-c-2 c).Start
