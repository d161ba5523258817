use mathlib.Core.Path.{◌≡◌, refl, sym, ap, ◌∙◌}
use mathlib.Core.Bool.{Bool, true, false, not, beq, cond}
use mathlib.Core.List.{List, [], ◌∷◌, ◌++◌, map}
use Prim.Native.Nat.{ℕ, ◌+◌, ◌%◌, ◌^◌, ◌≤◌, ◌<◌}
use native.Mathlib.Numerals.{add-one}
use native.Mathlib.Omega.{arith}
use lib.Count.{ones}
use lib.Dec.{ltb}
use lib.Ieee.{Float, nan}
use lib.ListN.{length, get_or, take, drop, length-drop, take-append-drop}
use lib.Seq.{length-take-le, get_or-take, get_or-drop, take-add, drop-drop, take_at, drop_at, ext_get_or}
use Rattle.masks.specs.Order.{size, start}
use Rattle.masks.specs.Shape.{negated_if}
use Rattle.masks.proofs.ListLaws.{front, front_all}
use Rattle.masks.proofs.OrderLaws.{none_sized, part_fits, start_next, start_all, order_ones}
use Rattle.masks.proofs.ShapeLaws.{part_length, part_at}
use Rattle.product.specs.Pairwise.{mask_at}
use Rattle.product.proofs.ReverseLaws.{reversed_at}
use Rattle.arithmetic.proofs.ReverseLaws.{reversed_length, inv_reversed_length, inv_reversed_at}
use Rattle.arithmetic.proofs.reverse.turn_grades.Goals.{After-size_or_none-size, then-g-rest, else-g-rest}
use Rattle.arithmetic.proofs.reverse.turn_grades.Invariants.{turned}
use Rattle.arithmetic.proofs.reverse.turn_grades.Goals as goal

-- ---- one grade turned
-- Whether a grade is negated.
abbrev turns : Bool → ℕ → Bool
turns rest g = beq (ltb (g % 4) 2) rest

-- An output whose n numbers from s on are negated, or stay.
abbrev parted : Bool → ℕ → ℕ → List Float → List Float
parted b s n out = take s out ++ map (negated_if b) (take n (drop s out)) ++ drop (s + n) out

-- What is not negated stays.
parted_same : (s n : ℕ) (out : List Float) → out ≡ parted false s n out
parted_same s n out = sym (ap (λ xs. take s out ++ xs ++ drop (s + n) out) (map_id (take n (drop s out))) ∙ rw (← take-add s n out) (take-append-drop (s + n) out))
  where
    map_id : (xs : List Float) → map (negated_if false) xs ≡ xs
    map_id [] = refl
    map_id (x ∷ xs) = ap (λ ys. x ∷ ys) (map_id xs)

module _ (d : ℕ) (xs : List Float) where
  turned_length : (rest : Bool) → length (turned rest d xs) ≡ 2 ^ d
  turned_length true = inv_reversed_length d (take (2 ^ d) xs)
  turned_length false = reversed_length d (take (2 ^ d) xs)

  -- The grade of the mask at a place says whether its number is negated.
  turned_at_lem : (rest : Bool) (k : ℕ) → k < 2 ^ d → get_or (turned rest d xs) k nan ≡ negated_if (turns rest (ones (mask_at d k))) (get_or xs k nan)
  turned_at_lem rest k h = go rest ∙ ap (negated_if (turns rest (ones (mask_at d k)))) (get_or-take (2 ^ d) xs k nan h)
    where
      by : (b rest : Bool) → cond rest b (not b) ≡ beq b rest
      by true true = refl
      by true false = refl
      by false true = refl
      by false false = refl

      x : Float
      x = get_or (take (2 ^ d) xs) k nan

      low : Bool
      low = ltb (ones (mask_at d k) % 4) 2

      go : (rest : Bool) → get_or (turned rest d xs) k nan ≡ negated_if (beq low rest) x
      go true = inv_reversed_at d (take (2 ^ d) xs) k h ∙ ap (λ (b : Bool). negated_if b x) (by low true)
      go false = reversed_at d (take (2 ^ d) xs) k h ∙ ap (λ (b : Bool). negated_if b x) (by low false)

-- Grade g has the n numbers from s on.
module _ (rest : Bool) (d : ℕ) (xs : List Float) (g s n : ℕ) (roomy : 2 ^ d ≤ length xs) (h : g ≤ d) (es : s ≡ start d g) (en : n ≡ size d g) where
  abbrev target : List Float
  target = turned rest d xs

  within : s + n ≤ 2 ^ d
  within = omega (arith, part_fits d g h)

  long : length target ≡ 2 ^ d
  long = turned_length d xs rest

  -- The grade is negated or not as a whole.
  part : take n (drop s target) ≡ map (negated_if (turns rest g)) (take n (drop s xs))
  part =
      ext_get_or nan (take n (drop s target)) (map (negated_if (turns rest g)) (take n (drop s xs)))
      (l ∙ sym (part_length (negated_if (turns rest g)) s n xs (omega (arith, within))))
      (λ k q.
      let q' : k < n = omega (arith, l) in
      get_or-take n (drop s target) k nan q' ∙ get_or-drop s target k nan ∙ turned_at_lem d xs rest (s + k) (omega (arith, within))
      ∙ ap (λ (m : ℕ). negated_if (turns rest m) (get_or xs (s + k) nan)) (graded k q')
      ∙ sym (part_at (negated_if (turns rest g)) s n xs k nan nan q' (omega (arith, within))))
    where
      l : length (take n (drop s target)) ≡ n
      l = length-take-le n (drop s target) (omega (arith, length-drop s target, long, within))

      graded : (k : ℕ) → k < n → ones (mask_at d (s + k)) ≡ g
      graded k q = rw es (order_ones d g k h (omega arith))

  -- Where the numbers below s are turned, one grade more is.
  turned_more : (b : Bool) (out : List Float) → turns rest g ≡ b → out ≡ front s target xs → parted b s n out ≡ front (s + n) target xs
  turned_more b out eb eo =
      let l : length (take s target) ≡ s = length-take-le s target (omega (arith, long, within)) in
      let before : take s out ≡ take s target = ap (take s) eo ∙ take_at (take s target) (drop s xs) s l in
      let after : drop s out ≡ drop s xs = ap (drop s) eo ∙ drop_at (take s target) (drop s xs) s l in
      rw (before, after, ← drop-drop n s out, after, drop-drop n s xs, ← eb, ← part, ← take-add s n target)

-- ---- what each turn rests on
module _ (c : After-size_or_none-size) where
  abbrev n : ℕ
  n = c.size_or_none-size.result

  counted : n ≡ size c.args.dims c.loop-g.g
  counted = none_sized c.loop-g.g c.size_or_none-size.ensures c.requires.0

  fits : c.loop-g.first + n ≤ 2 ^ c.args.dims
  fits = omega (arith, counted, part_fits c.args.dims c.loop-g.g (omega arith))

  -- The output once this grade is turned.
  more : (b : Bool) → turns c.args.rest c.loop-g.g ≡ b → parted b c.loop-g.first n c.loop-g.out ≡ front (c.loop-g.first + n) (turned c.args.rest c.args.dims c.args.out.now) c.args.out.now
  more b e =
      let l = c.loop-g in
      let a = c.args in
      turned_more a.rest a.dims a.out.now l.g l.first n c.requires.1 (omega arith) l.invariant.0 counted b l.out e l.invariant.2

pub loop-g-init : goal.loop-g-init
unfolding start
loop-g-init c = (refl, omega arith, refl)

pub negate_part-requires : goal.negate_part-requires
negate_part-requires c = omega (arith, fits (goal.at.negate_part-requires c).After-size_or_none-size, c.requires.1)

pub overflow_add-first : goal.overflow_add-first
overflow_add-first c = omega (arith, fits (goal.at.overflow_add-first c).After-size_or_none-size, c.requires.1)

pub loop-g-preserved : goal.loop-g-preserved
loop-g-preserved c =
    let r = (goal.at.loop-g-preserved c).After-size_or_none-size in
    let l = c.loop-g in (
      omega (arith, counted r, l.invariant.0, start_next c.args.dims l.g),
      fits r,
      elim c.if-g-rest.branch [
        | then-g-rest w ↦ w.out-is ∙ w.negate_part.ensures ∙ more r true w.if-g-rest.true
        | else-g-rest w ↦ w.out-is ∙ parted_same l.first (n r) l.out ∙ more r false w.if-g-rest.false
      ],
    )

pub returns : goal.returns
returns c =
    let l = c.loop-g in
    let a = c.args in
    let d = a.dims in
    let e : l.g ≡ d + 1 = omega arith in
    let f : l.first ≡ 2 ^ d = l.invariant.0 ∙ ap (start d) (e ∙ add-one d) ∙ start_all d in
    l.invariant.2 ∙ front_all l.first (turned a.rest d a.out.now) a.out.now (turned_length d a.out.now a.rest ∙ sym f)
