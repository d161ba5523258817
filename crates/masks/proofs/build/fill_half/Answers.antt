use mathlib.Core.Path.{◌≡◌, refl, sym, ap, ◌∙◌}
use Prim.Native.Nat.{ℕ, suc, ◌+◌, ◌%◌, ◌≤◌, ◌<◌}
use native.Mathlib.Omega.{arith}
use borrow.Author.Tests.{eqb-true, eqb-false}
use lib.ListN.{length}
use Rattle.masks.specs.Order.{grades_below, order, size, start}
use Rattle.masks.specs.Outcome.{laid}
use Rattle.masks.specs.Build.{odd_of, spread}
use Rattle.masks.proofs.OrderLaws.{part_fits, start_next}
use Rattle.masks.proofs.BuildLaws.{odd-le, counted, counted_zero, half_twice, half_some}
use Rattle.masks.proofs.GradeParts.{counted_within, counted_more, counted_same, spread_more, spread_zeros}
use Rattle.masks.proofs.build.fill_half.Goals.{At-loop-g, Joined-has, then-has, else-has}
use Rattle.masks.proofs.build.fill_half.Goals as goal

-- in each turn there is room for the grade, and where it has the parity there are numbers for it
module _ (c : At-loop-g) (n : ℕ) (e : n ≡ size c.args.dims c.loop-g.g) (h : c.loop-g.g ≤ c.args.dims) where
  room : c.loop-g.k + n ≤ length c.loop-g.out
  room = omega (arith, part_fits c.args.dims c.loop-g.g h)

  given : c.loop-g.g % 2 ≡ odd_of c.args.parity → c.loop-g.i + n ≤ length c.args.v.now
  given p =
      let odd : ℕ = odd_of c.args.parity in
      let d : ℕ = c.args.dims in
      let g : ℕ = c.loop-g.g in
      let o : odd ≤ 1 = odd-le c.args.parity in
      let some : 0 < d = half_some d (length c.args.v.now) c.requires.1 in
      omega (arith, counted_more odd d g p, counted_within odd d (g + 1) o some (omega arith), half_twice odd d o some)

pub loop-g-init : goal.loop-g-init
unfolding start grades_below spread
loop-g-init c = record { taken = sym (counted_zero (odd_of c.args.parity) c.args.dims); passed = refl; filled = refl }

pub copy_part-requires : goal.copy_part-requires
copy_part-requires c =
    let l = (goal.at.copy_part-requires c).At-loop-g in
    let n = c.size_of-count in
    (given l n.result n.ensures (omega arith) (eqb-true _ _ (sym c.has.ensures ∙ c.if-has.true)), room l n.result n.ensures (omega arith))

pub overflow_add-i : goal.overflow_add-i
overflow_add-i c =
    let n = c.size_of-count in
    omega (arith, given (goal.at.overflow_add-i c).At-loop-g n.result n.ensures (omega arith) (eqb-true _ _ (sym c.has.ensures ∙ c.if-has.true)))

pub clear_part-requires : goal.clear_part-requires
clear_part-requires c =
    let n = c.size_of-count in
    room (goal.at.clear_part-requires c).At-loop-g n.result n.ensures (omega arith)

pub overflow_add-k : goal.overflow_add-k
overflow_add-k c =
    let l = (goal.at.overflow_add-k c).At-loop-g in
    let n = c.size_of-count in
    omega (arith, room l n.result n.ensures (omega arith))

-- after each turn
step : (c : Joined-has) → (c.loop-g.g % 2 ≡ odd_of c.args.parity → c.loop-g.i + c.size_of-count.result ≤ length c.args.v.now) → ((c.if-has.i ≡ counted (odd_of c.args.parity) c.args.dims (c.loop-g.g + 1)) × (c.loop-g.k + c.size_of-count.result ≡ start c.args.dims (c.loop-g.g + 1)) × (c.if-has.out ≡ laid (spread (odd_of c.args.parity) (grades_below c.args.dims (c.loop-g.g + 1)) c.args.v.now) c.args.out.now))
step c enough =
    let l = c.loop-g in
    let e = c.size_of-count.ensures in
    let a = c.args in
    let odd : ℕ = odd_of a.parity in
    let h : l.g ≤ a.dims = omega arith in
    let i = l.invariant in
    let k : l.k + c.size_of-count.result ≡ start a.dims (l.g + 1) = omega (arith, e, i.passed, start_next a.dims l.g) in
    elim c.if-has.branch [
      | then-has w ↦
          let p : l.g % 2 ≡ odd = eqb-true _ _ (sym c.has.ensures ∙ w.if-has.true) in (
            omega (arith, i.taken, e, w.i-is, counted_more odd a.dims l.g p),
            k,
            w.out-is ∙ w.copy_part.ensures
                ∙ rw (i.filled, i.passed, i.taken, e) (spread_more odd a.dims l.g a.v.now a.out.now p (omega (arith, i.taken, e, enough p)) h c.requires.2),
          )
      | else-has w ↦
          let p : l.g % 2 ≡ odd → ⊥ = eqb-false _ _ (sym c.has.ensures ∙ w.if-has.false) in (
            w.i-is ∙ i.taken ∙ sym (counted_same odd a.dims l.g p),
            k,
            w.out-is ∙ w.clear_part.ensures
                ∙ rw (i.filled, i.passed, e) (spread_zeros odd a.dims l.g a.v.now a.out.now p h c.requires.2),
          )
    ]

pub loop-g-preserved : goal.loop-g-preserved
loop-g-preserved c =
    let at = goal.at.loop-g-preserved c in
    let s = step at.Joined-has (given at.At-loop-g c.size_of-count.result c.size_of-count.ensures (omega arith)) in
    record { taken = s.0; passed = s.1; filled = s.2 }

pub returns : goal.returns
unfolding order
returns c =
    let a = c.args in
    let e : c.loop-g.g ≡ suc a.dims = grind arith in
    c.loop-g.invariant.filled ∙ ap (λ (n : ℕ). laid (spread (odd_of a.parity) (grades_below a.dims n) a.v.now) a.out.now) e
