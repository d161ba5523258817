use mathlib.Core.Path.{◌≡◌, refl, sym, ap, ◌∙◌}
use mathlib.Core.List.{map}
use Prim.Native.Nat.{ℕ, suc, ◌+◌, ◌%◌, ◌≤◌}
use native.Mathlib.Omega.{arith}
use borrow.Author.Tests.{eqb-true, eqb-false}
use lib.ListN.{length}
use Rattle.masks.specs.Order.{grades_below, order, size, start}
use Rattle.masks.specs.Outcome.{laid}
use Rattle.masks.specs.Shape.{coef}
use Rattle.masks.specs.Build.{odd_of}
use Rattle.masks.specs.Unpack.{choose}
use Rattle.masks.proofs.OrderLaws.{part_fits, start_next}
use Rattle.masks.proofs.BuildLaws.{odd-le, counted, counted_zero, half_count}
use Rattle.masks.proofs.GradeParts.{counted_within, counted_more, counted_same, taken_more, taken_same}
use Rattle.masks.proofs.unpack.take_half.Goals.{At-loop-g, Joined-has, then-has, else-has}
use Rattle.masks.proofs.unpack.take_half.Goals as goal

-- in each turn the value has the grade's numbers, and where it has the parity there is room for them
module _ (c : At-loop-g) (n : ℕ) (e : n ≡ size c.args.value.dims c.loop-g.g) (h : c.loop-g.g ≤ c.args.value.dims) where
  part : c.loop-g.i + n ≤ length c.args.value.numbers.now
  part = omega (arith, part_fits c.args.value.dims c.loop-g.g h)

  room : c.loop-g.g % 2 ≡ odd_of c.args.parity → c.loop-g.k + n ≤ length c.args.out.now
  room p =
      let odd : ℕ = odd_of c.args.parity in
      let d : ℕ = c.args.value.dims in
      let g : ℕ = c.loop-g.g in
      let o : odd ≤ 1 = odd-le c.args.parity in
      omega (arith, counted_more odd d g p, counted_within odd d (g + 1) o c.requires.0 (omega arith), half_count odd d o c.requires.0)

pub loop-g-init : goal.loop-g-init
unfolding start grades_below choose
loop-g-init c = record { passed = refl; put = sym (counted_zero (odd_of c.args.parity) c.args.value.dims); filled = refl }

pub copy_part-requires : goal.copy_part-requires
copy_part-requires c =
    let l = (goal.at.copy_part-requires c).At-loop-g in
    let n = c.size_of-count in
    let p = eqb-true _ _ (sym c.has.ensures ∙ c.if-has.true) in
    (part l n.result n.ensures (omega arith), omega (arith, room l n.result n.ensures (omega arith) p))

pub overflow_add-k : goal.overflow_add-k
overflow_add-k c =
    let n = c.size_of-count in
    let p = eqb-true _ _ (sym c.has.ensures ∙ c.if-has.true) in
    omega (arith, room (goal.at.overflow_add-k c).At-loop-g n.result n.ensures (omega arith) p)

pub overflow_add-i : goal.overflow_add-i
overflow_add-i c =
    let n = c.size_of-count in
    omega (arith, part (goal.at.overflow_add-i c).At-loop-g n.result n.ensures (omega arith))

-- after each turn
step : (c : Joined-has) → (c.loop-g.g % 2 ≡ odd_of c.args.parity → c.loop-g.k + c.size_of-count.result ≤ length c.args.out.now) → ((c.loop-g.i + c.size_of-count.result ≡ start c.args.value.dims (c.loop-g.g + 1)) × (c.if-has.k ≡ counted (odd_of c.args.parity) c.args.value.dims (c.loop-g.g + 1)) × (c.if-has.out ≡ laid (map (coef c.args.value.dims c.args.value.numbers.now) (choose (odd_of c.args.parity) (grades_below c.args.value.dims (c.loop-g.g + 1)))) c.args.out.now))
step c enough =
    let l = c.loop-g in
    let e = c.size_of-count.ensures in
    let a = c.args in
    let odd : ℕ = odd_of a.parity in
    let h : l.g ≤ a.value.dims = omega arith in
    let i = l.invariant in
    let s : l.i + c.size_of-count.result ≡ start a.value.dims (l.g + 1) = omega (arith, e, i.passed, start_next a.value.dims l.g) in
    elim c.if-has.branch [
      | then-has w ↦
          let p : l.g % 2 ≡ odd = eqb-true _ _ (sym c.has.ensures ∙ w.if-has.true) in (
            s,
            omega (arith, i.put, e, w.k-is, counted_more odd a.value.dims l.g p),
            w.out-is ∙ w.copy_part.ensures
                ∙ rw (i.filled, i.put, i.passed, e) (taken_more odd a.value.dims l.g a.value.numbers.now a.out.now c.args.value.counted p (omega (arith, i.put, e, enough p))),
          )
      | else-has w ↦
          let p : l.g % 2 ≡ odd → ⊥ = eqb-false _ _ (sym c.has.ensures ∙ w.if-has.false) in (
            s,
            w.k-is ∙ i.put ∙ sym (counted_same odd a.value.dims l.g p),
            w.out-is ∙ i.filled ∙ taken_same odd a.value.dims l.g a.value.numbers.now a.out.now p,
          )
    ]

pub loop-g-preserved : goal.loop-g-preserved
loop-g-preserved c =
    let at = goal.at.loop-g-preserved c in
    let s = step at.Joined-has (room at.At-loop-g c.size_of-count.result c.size_of-count.ensures (omega arith)) in
    record { passed = s.0; put = s.1; filled = s.2 }

pub returns : goal.returns
unfolding order
returns c =
    let a = c.args in
    let e : c.loop-g.g ≡ suc a.value.dims = grind arith in
    c.loop-g.invariant.filled ∙ ap (λ (n : ℕ). laid (map (coef a.value.dims a.value.numbers.now) (choose (odd_of a.parity) (grades_below a.value.dims n))) a.out.now) e
