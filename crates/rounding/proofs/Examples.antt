-- The definitions, worked out on examples. Assumes nothing.
use mathlib.Core.Path.{◌≡◌, refl}
use Prim.Native.Nat.{ℕ, zero, suc}
use mathlib.Core.Bool.{true, false}
use lib.IntN.{pos, negsuc}
use lib.Ieee.{nan, inf, fin, binary64, size, add, mul, of_bits, round}
use Rattle.rounding.specs.Round.{rnd}
use Rattle.rounding.specs.Terms.{Term, run, live_count, ups, downs}
use Rattle.rounding.specs.Snap.{snap}

-- ---- Three digits are kept of 19 (10011), 21 (10101) and 18 (10010), which lies between 16 and 20 and goes to the even one.
rnd_up : rnd 3 19 ≡ 20
unfolding size
rnd_up = refl

rnd_down : rnd 3 21 ≡ 20
unfolding size
rnd_down = refl

rnd_tie : rnd 3 18 ≡ 16
unfolding size
rnd_tie = refl

-- ---- 1.5 * 2 - 3 * 4 = -9, and a term that is not live; the exact sum is 6 - 24 halves.
terms : ℕ → Term
terms zero = record { live = true; minus = false; left = fin false 3 (negsuc 0); right = fin false 1 (pos 1) }
terms (suc zero) = record { live = true; minus = true; left = fin false 3 (pos 0); right = fin false 1 (pos 2) }
terms (suc (suc n)) = record { live = false; minus = true; left = nan; right = nan }

run_nine : run binary64 terms 3 ≡ fin true 9 (pos 0)
unfolding terms add mul
run_nine = refl

count_two : live_count terms 3 ≡ 2
unfolding terms
count_two = refl

ups_six : ups 1 0 terms 3 ≡ 6
unfolding terms
ups_six = refl

downs_24 : downs 1 0 terms 3 ≡ 24
unfolding terms
downs_24 = refl

-- ---- Snap: the float before 3, 1e-14 itself, -0.5, -2 ^ 60, an infinity; and document 01's 2 ^ -47, -2 ^ -47 and 2 ^ -46.
snap_three : snap binary64 (of_bits binary64 0x4007ffffffffffff) ≡ fin false 3 (pos 0)
unfolding snap round of_bits
snap_three = refl

snap_limit : snap binary64 (of_bits binary64 0x3d06849b86a12b9b) ≡ of_bits binary64 0x3d06849b86a12b9b
unfolding snap round of_bits
snap_limit = refl

snap_half : snap binary64 (fin true 1 (negsuc 0)) ≡ fin true 1 (negsuc 0)
unfolding snap round
snap_half = refl

snap_large : snap binary64 (fin true 1 (pos 60)) ≡ fin true 1 (pos 60)
unfolding snap round
snap_large = refl

snap_infinity : snap binary64 (inf true) ≡ inf true
unfolding snap
snap_infinity = refl

snap_47 : snap binary64 (fin false 1 (negsuc 46)) ≡ fin false 0 (pos 0)
unfolding snap round
snap_47 = refl

snap_minus_47 : snap binary64 (fin true 1 (negsuc 46)) ≡ fin true 0 (pos 0)
unfolding snap round
snap_minus_47 = refl

snap_46 : snap binary64 (fin false 1 (negsuc 45)) ≡ fin false 1 (negsuc 45)
unfolding snap round
snap_46 = refl
