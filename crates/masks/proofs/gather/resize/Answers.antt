use mathlib.Core.Path.{◌≡◌, refl, sym, ap, ◌∙◌}
use mathlib.Core.Bool.{true, false}
use Prim.Native.Nat.{ℕ, ◌^◌, ◌<◌}
use native.Mathlib.Omega.{arith}
use lib.Ieee.{nan}
use lib.ListN.{length, get_or-append}
use Rattle.masks.specs.Order.{place}
use Rattle.masks.specs.Outcome.{laid}
use Rattle.masks.specs.Shape.{coef, negates}
use Rattle.masks.proofs.OrderLaws.{place_lt, blades_le}
use Rattle.masks.proofs.ShapeLaws.{ordered_length, turned_inside, as_read, resized_turned}
use Rattle.masks.proofs.BladeLaws.{set_laid}
use Rattle.masks.proofs.gather.resize.Goals.{Then-turns}
use Rattle.masks.proofs.gather.resize.Goals as goal

-- mask 101 is negated
turned : (c : Then-turns) → negates c.args.value.dims c.args.new_dims 5 ≡ true
turned c = sym c.turns.ensures ∙ c.if-turns.true

-- where it is, it has a place
low : (d n p : ℕ) → negates d n 5 ≡ true → p ≡ place n 5 → p < 2 ^ n
low d n p t e = omega (arith, place_lt n 5 (turned_inside d n t))

pub place_of-p-requires : goal.place_of-p-requires
place_of-p-requires c = (c.requires.0, turned_inside c.args.value.dims c.args.new_dims (turned c))

pub offset_bounds-out-p : goal.offset_bounds-out-p
offset_bounds-out-p c =
    omega (arith, low c.args.value.dims c.args.new_dims c.place_of-p.result (turned (goal.at.offset_bounds-out-p c).Then-turns) c.place_of-p.ensures, blades_le c.args.new_dims c.requires.0)

-- its place is in the output
pub bounds-out-p : goal.bounds-out-p
bounds-out-p c =
    omega (arith, low c.args.value.dims c.args.new_dims c.place_of-p.result (turned (goal.at.bounds-out-p c).Then-turns) c.place_of-p.ensures, c.requires.1, c.read_all.auto.out)

pub offset_bounds-out-p-then-turns : goal.offset_bounds-out-p-then-turns
offset_bounds-out-p-then-turns c =
    omega (arith, low c.args.value.dims c.args.new_dims c.place_of-p.result (turned (goal.at.offset_bounds-out-p-then-turns c).Then-turns) c.place_of-p.ensures, blades_le c.args.new_dims c.requires.0)

pub bounds-out-p-then-turns : goal.bounds-out-p-then-turns
bounds-out-p-then-turns c =
    omega (arith, low c.args.value.dims c.args.new_dims c.place_of-p.result (turned (goal.at.bounds-out-p-then-turns c).Then-turns) c.place_of-p.ensures, c.requires.1, c.read_all.auto.out)

pub returns-then-turns : goal.returns-then-turns
returns-then-turns c =
    let a = c.args in
    let t = turned (goal.at.returns-then-turns c).Then-turns in
    let xs = as_read a.value.dims a.new_dims a.value.numbers.now in
    let p = place a.new_dims 5 in
    let l : p < length xs = omega (arith, low a.value.dims a.new_dims p t refl, ordered_length (coef a.value.dims a.value.numbers.now) a.new_dims) in
    rw (c.read_all.ensures, c.place_of-p.ensures, get_or-append xs _ nan p l)
    (set_laid p _ xs a.out.now l ∙ ap (λ ys. laid ys a.out.now) (resized_turned a.value.dims a.new_dims a.value.numbers.now true t))

pub returns-else-turns : goal.returns-else-turns
returns-else-turns c =
    let a = c.args in
    c.read_all.ensures
    ∙ ap (λ ys. laid ys a.out.now) (resized_turned a.value.dims a.new_dims a.value.numbers.now false (sym c.turns.ensures ∙ c.if-turns.false))
