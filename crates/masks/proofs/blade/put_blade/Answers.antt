use mathlib.Core.Path.{◌≡◌}
use mathlib.Core.List.{List}
use Prim.Native.Nat.{ℕ, ◌^◌, ◌<◌}
use native.Mathlib.Omega.{arith}
use lib.Ieee.{Float}
use lib.ListN.{length}
use Rattle.masks.specs.Order.{place}
use Rattle.masks.proofs.OrderLaws.{blades_le, place_lt}
use Rattle.masks.proofs.BladeLaws.{set_laid}
use Rattle.masks.proofs.blade.put_blade.Goals as goal

-- where the mask stands
low : (d m : ℕ) (a : List Float) → m < 2 ^ d → length a ≡ 2 ^ d → place d m < length a
low d m a h e = omega (arith, place_lt d m h)

pub offset_bounds-out-p : goal.offset_bounds-out-p
offset_bounds-out-p c =
    let a = c.args in
    omega (arith, low a.value.dims a.mask a.value.numbers.now c.requires.0 c.args.value.counted, blades_le a.value.dims c.args.value.small)

pub bounds-out-p : goal.bounds-out-p
bounds-out-p c =
    let a = c.args in
    omega (arith, low a.value.dims a.mask a.value.numbers.now c.requires.0 c.args.value.counted)

pub returns : goal.returns
returns c =
    let a = c.args in
    rw (c.copy_all.ensures, c.place_of-p.ensures)
    (set_laid (place a.value.dims a.mask) a.x a.value.numbers.now a.out.now (low a.value.dims a.mask a.value.numbers.now c.requires.0 c.args.value.counted))
