use mathlib.Core.Path.{◌≡◌, sym, ap, ◌∙◌}
use mathlib.Core.List.{List, map}
use Prim.Native.Nat.{ℕ, ◌+◌, ◌≤◌}
use native.Mathlib.Omega.{arith}
use lib.Ieee.{Float, nan}
use lib.ListN.{length, get_or, set, take, drop, replicate, length-map, length-set}
use lib.Pow.{pow_pos}
use lib.Seq.{sets, length-sets}
use Rattle.masks.specs.Order.{grades_below, size}
use Rattle.masks.specs.Outcome.{nought}
use Rattle.masks.specs.Shape.{promoted_coef}
use Rattle.masks.proofs.ListLaws.{laid_length}
use Rattle.masks.proofs.OrderLaws.{size_zero, start_next}
use Rattle.masks.proofs.BuildLaws.{start_one}
use Rattle.masks.proofs.GradeParts.{part_within, below_within, size_both, promoted_begun, promoted_next, promoted_all}
use Rattle.masks.proofs.gather.promote.Goals.{At-loop-g}
use Rattle.masks.proofs.gather.promote.Goals as goal

-- what each turn rests on
module _ (c : At-loop-g) where
  abbrev d : ℕ
  d = c.args.value.dims

  abbrev g : ℕ
  g = c.loop-g.g

  abbrev a : List Float
  a = c.args.value.numbers.now

  -- the output that the loop begins with
  abbrev out : List Float
  out = set c.args.out.now 0 (get_or a 0 nan)

  long : length out ≡ length c.args.out.now
  long = length-set c.args.out.now 0 (get_or a 0 nan)

  -- the output keeps its length
  kept : length c.loop-g.out ≡ length c.args.out.now
  kept =
      let xs : List ℕ = grades_below (d + 1) (g + 1) in
      ap length c.loop-g.invariant.3
      ∙ laid_length (map (promoted_coef d a) xs) out (omega (arith, long, length-map xs (promoted_coef d a), below_within (d + 1) (g + 1) (omega arith), c.requires.1)) ∙ long

  -- the numbers of the next grade, and room for them
  module _ (h : g ≤ d) where
    part : c.loop-g.i + size d (g + 1) ≤ length a
    part = omega (arith, c.loop-g.invariant.1, c.args.value.counted, part_within d (g + 1) (omega arith))

    room : c.loop-g.k + (c.loop-g.below + size d (g + 1)) ≤ length c.loop-g.out
    room =
        omega
        (arith, kept, c.loop-g.invariant.0, c.loop-g.invariant.2, c.requires.1, part_within (d + 1) (g + 1) (omega arith), size_both d g)

pub loop-g-init : goal.loop-g-init
loop-g-init c =
    let d = c.args.value.dims in (
      sym (size_zero d),
      sym (start_one d),
      sym (start_one (d + 1)),
      promoted_begun d c.args.value.numbers.now c.args.value.counted c.args.out.now (omega (arith, pow_pos (d + 1), c.requires.1)),
    )

pub clear_part-requires : goal.clear_part-requires
clear_part-requires c = omega (arith, room (goal.at.clear_part-requires c).At-loop-g (omega arith))

pub overflow_add-k : goal.overflow_add-k
overflow_add-k c = omega (arith, room (goal.at.overflow_add-k c).At-loop-g (omega arith), kept (goal.at.overflow_add-k c).At-loop-g)

pub copy_part-requires : goal.copy_part-requires
copy_part-requires c =
    let l = c.loop-g in
    (omega (arith, c.size_of-below.ensures, part (goal.at.copy_part-requires c).At-loop-g (omega arith)), omega (arith, c.size_of-below.ensures, room (goal.at.copy_part-requires c).At-loop-g (omega arith), ap length c.clear_part.ensures, length-sets l.out l.k (replicate l.below nought)))

pub overflow_add-i : goal.overflow_add-i
overflow_add-i c = omega (arith, c.size_of-below.ensures, part (goal.at.overflow_add-i c).At-loop-g (omega arith))

pub overflow_add-k-in-loop-g : goal.overflow_add-k-in-loop-g
overflow_add-k-in-loop-g c = omega (arith, c.size_of-below.ensures, room (goal.at.overflow_add-k-in-loop-g c).At-loop-g (omega arith), kept (goal.at.overflow_add-k-in-loop-g c).At-loop-g)

pub loop-g-preserved : goal.loop-g-preserved
loop-g-preserved c =
    let e = c.size_of-below.ensures in
    let l = c.loop-g in
    let h : g (goal.at.loop-g-preserved c).At-loop-g ≤ d (goal.at.loop-g-preserved c).At-loop-g = omega arith in (
      e,
      omega (arith, e, l.invariant.1, start_next (d (goal.at.loop-g-preserved c).At-loop-g) (g (goal.at.loop-g-preserved c).At-loop-g + 1)),
      omega (arith, e, l.invariant.0, l.invariant.2, start_next (d (goal.at.loop-g-preserved c).At-loop-g + 1) (g (goal.at.loop-g-preserved c).At-loop-g + 1), size_both (d (goal.at.loop-g-preserved c).At-loop-g) (g (goal.at.loop-g-preserved c).At-loop-g)),
      c.copy_part.ensures
          ∙ ap (λ xs. sets xs (l.k + l.below) (take c.size_of-below.result (drop l.i (a (goal.at.loop-g-preserved c).At-loop-g))))
          (c.clear_part.ensures ∙ ap (λ xs. sets xs l.k (replicate l.below nought)) l.invariant.3)
          ∙ promoted_next (d (goal.at.loop-g-preserved c).At-loop-g) (a (goal.at.loop-g-preserved c).At-loop-g) c.args.value.counted (g (goal.at.loop-g-preserved c).At-loop-g) (out (goal.at.loop-g-preserved c).At-loop-g) l.invariant.0 l.invariant.1 l.invariant.2 e h (omega (arith, long (goal.at.loop-g-preserved c).At-loop-g, c.requires.1)),
    )

pub returns : goal.returns
returns c = c.loop-g.invariant.3 ∙ promoted_all (d (goal.at.returns c).At-loop-g) (a (goal.at.returns c).At-loop-g) (g (goal.at.returns c).At-loop-g) c.args.out.now (get_or (a (goal.at.returns c).At-loop-g) 0 nan) (omega arith)
