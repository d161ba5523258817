use mathlib.Core.Path.{◌≡◌, sym, ap, ap₂, ◌∙◌}
use mathlib.Core.Bool.{Bool, true, true≢false}
use mathlib.Core.List.{List, map}
use Prim.Native.Nat.{ℕ, ◌+◌, ◌-◌, ◌*◌, ◌/◌, ◌≤◌}
use native.Mathlib.Omega.{arith}
use lib.ListN.{length, take, drop, length-drop, length-map}
use Rattle.std.proofs.Common.{rules}
use Rattle.std.specs.Simd.{first_chunks}
use Rattle.masks.specs.declared.shape.Shape.{Shape}
use Rattle.masks.specs.ShapeBytes.{shape_from}
use Rattle.sheets.specs.declared.shapes.Shapes.{Shapes}
use Rattle.sheets.specs.declared.read.SheetRead.{SheetRead}
use Rattle.sheets.specs.Bytes.{from_little_endian, parts, items_in}
use Rattle.sheets.specs.Format.{blade_total, any_above_nine}
use Rattle.sheets.specs.Shapes.{shapes_of, listed_shapes}
use Rattle.sheets.specs.Read.{said, ReadOutcome, checked, read_of}
use Rattle.sheets.specs.inner.Checks.{are_shapes}
use Rattle.sheets.proofs.BytesLaws.{parts_length, parts_front, chunks_are}
use Rattle.sheets.proofs.ShapesLaws.{listed-shapes_of}
use Rattle.sheets.proofs.ReadLaws.{shapes_said, patterns_said, patterns_count, WellFormed, shapes_small, checked_refused, checked_done}
use Rattle.sheets.proofs.read.check.Goals.{After-number_at, After-listed, Else-not-are_shapes}
use Rattle.sheets.proofs.read.check.Goals as goal

-- ---- the answer
refused : (b : List ℕ) → (WellFormed b → ⊥) → (checked b).number ≡ 9
refused b h = ap (λ (o : ReadOutcome). o.number) (checked_refused b h)

-- the shapes that bytes say
abbrev shapes : List ℕ → List Shape
shapes b = map shape_from (items_in 2 5 b)

abbrev answer : Shapes → ℕ → SheetRead
answer ss n = record { shapes = ss; count = n }

answered : (b : List ℕ) → read_of (said b) ≡ answer (shapes_of (shapes b)) (patterns_said b)
unfolding said
answered b = ap (answer (shapes_of (shapes b))) (patterns_count b)

-- ---- what the calls gave, n being the shapes that are said

module _ (b : List ℕ) (n : ℕ) (counted : n ≡ shapes_said b) where
  -- the bytes of the shapes
  abbrev part : List ℕ
  part = take (2 + 5 * n - 2) (drop 2 b)

  items : 2 + 5 * n + 4 ≤ length b → parts 5 (length part / 5) part ≡ items_in 2 5 b
  items l =
      let c = drop 2 b in
      let m : 2 + 5 * n - 2 ≡ 5 * n = omega arith in
      ap (λ (k : ℕ). parts 5 (length (take k c) / 5) (take k c)) m
      ∙ parts_front 5 n c (omega arith) (omega (arith, length-drop 2 b))
      ∙ ap (λ (k : ℕ). parts 5 k c) counted

  -- how many coefficients are said
  said_count : (k : ℕ) → k ≡ from_little_endian (take 4 (drop (2 + 5 * n) b)) → k ≡ patterns_said b
  said_count k e = e ∙ ap (λ (m : ℕ). from_little_endian (take 4 (drop (2 + 5 * m) b))) counted

-- 64 shapes are all listed
all_listed : (b : List ℕ) (ss : Shapes) (xs : List Shape) → shapes_said b ≤ 64 → ss ≡ shapes_of (shapes b) → xs ≡ listed_shapes ss → xs ≡ shapes b
all_listed b ss xs few e h =
    h ∙ ap listed_shapes e
    ∙ listed-shapes_of (shapes b) (omega (arith, length-map (items_in 2 5 b) shape_from, parts_length 5 (shapes_said b) (drop 2 b)))

pub returns-then-bytes-lt2 : goal.returns-then-bytes-lt2
returns-then-bytes-lt2 c = refused c.args.bytes.now (λ w. omega (arith, w.counted, c.if-bytes-lt2.true))

pub returns-then-n-gt-MAX_SHAPES : goal.returns-then-n-gt-MAX_SHAPES
returns-then-n-gt-MAX_SHAPES c = refused c.args.bytes.now (λ w. omega (arith, w.few, c.number_at-n.ensures, c.if-n-gt-MAX_SHAPES.true))

pub returns-then-bytes-at : goal.returns-then-bytes-at
returns-then-bytes-at c = refused c.args.bytes.now (λ w. omega (arith, w.shaped, c.number_at-n.ensures, c.if-bytes-at.true))

pub returns-then-not-are_shapes : goal.returns-then-not-are_shapes
returns-then-not-are_shapes c =
    let b = c.args.bytes.now in
    let t = c.are_shapes.ensures ∙ ap are_shapes (items b c.number_at-n.result c.number_at-n.ensures c.if-bytes-at.false) in
    refused b (λ w. true≢false (sym w.shapes ∙ sym t ∙ c.if-not-are_shapes.true))

-- they pass
pass : (c : Else-not-are_shapes) → are_shapes (items_in 2 5 c.args.bytes.now) ≡ true
pass c =
    sym (c.are_shapes.ensures ∙ ap are_shapes (items c.args.bytes.now c.number_at-n.result c.number_at-n.ensures c.if-bytes-at.false))
    ∙ c.if-not-are_shapes.false

-- which they are
are : (c : After-listed) → c.shapes_by-shapes.result ≡ shapes_of (shapes c.args.bytes.now)
are c =
    let b = c.args.bytes.now in
    let n = c.number_at-n.result in
    c.shapes_by-shapes.ensures shape_from (λ i d y h r. search rules)
    ∙ ap (λ (cs : List (List ℕ)). shapes_of (map shape_from cs)) (c.as_chunks.ensures.front ∙ chunks_are 5 _ (part b n c.number_at-n.ensures) ∙ items b n c.number_at-n.ensures c.if-bytes-at.false)

listed : (c : After-listed) → c.listed.result.now ≡ shapes c.args.bytes.now
listed c =
    all_listed c.args.bytes.now c.shapes_by-shapes.result c.listed.result.now (omega (arith, c.number_at-n.ensures, c.if-n-gt-MAX_SHAPES.false)) (are c) c.listed.ensures

pub blade_total-count-requires : goal.blade_total-count-requires
blade_total-count-requires c =
    let b = c.args.bytes.now in
    let at = goal.at.blade_total-count-requires c in
    let l = listed at.After-listed in (
      omega (arith, ap length l, length-map (items_in 2 5 b) shape_from, parts_length 5 (shapes_said b) (drop 2 b), c.number_at-n.ensures, c.if-n-gt-MAX_SHAPES.false),
      ap any_above_nine l ∙ shapes_small (items_in 2 5 b) (pass at.Else-not-are_shapes),
    )

-- how many coefficients are said
said_by : (c : After-number_at) → c.number_at.result ≡ patterns_said c.args.bytes.now
said_by c = said_count c.args.bytes.now c.number_at-n.result c.number_at-n.ensures c.number_at.result c.number_at.ensures

pub returns-then-number_at-count : goal.returns-then-number_at-count
returns-then-number_at-count c =
    let at = goal.at.returns-then-number_at-count c in
    let summed = c.blade_total-count.ensures ∙ ap blade_total (listed at.After-listed) in
    refused c.args.bytes.now (λ w. c.if-number_at-count.true (said_by at.After-number_at ∙ w.matched ∙ sym summed))

pub returns-then-count-gt-MAX_COEFFICIENTS : goal.returns-then-count-gt-MAX_COEFFICIENTS
returns-then-count-gt-MAX_COEFFICIENTS c =
    refused c.args.bytes.now (λ w. omega (arith, w.limited, said_by (goal.at.returns-then-count-gt-MAX_COEFFICIENTS c).After-number_at, c.if-number_at-count.false, c.if-count-gt-MAX_COEFFICIENTS.true))

pub returns-then-bytes-at-2 : goal.returns-then-bytes-at-2
returns-then-bytes-at-2 c =
    refused c.args.bytes.now (λ w. omega (arith, c.if-bytes-at-2.true, w.whole, said_by (goal.at.returns-then-bytes-at-2 c).After-number_at, c.if-number_at-count.false, c.number_at-n.ensures))

pub returns : goal.returns
returns c =
    let b = c.args.bytes.now in
    let at = goal.at.returns c in
    let s = said_by at.After-number_at in
    let n = c.number_at-n.ensures in
    let well : WellFormed b = record {
      counted = c.if-bytes-lt2.false;
      few = omega (arith, n, c.if-n-gt-MAX_SHAPES.false);
      shaped = omega (arith, n, c.if-bytes-at.false);
      shapes = pass at.Else-not-are_shapes;
      matched = sym s ∙ c.if-number_at-count.false ∙ c.blade_total-count.ensures ∙ ap blade_total (listed at.After-listed);
      limited = omega (arith, s, c.if-number_at-count.false, c.if-count-gt-MAX_COEFFICIENTS.false);
      whole = omega (arith, n, s, c.if-number_at-count.false, c.if-bytes-at-2.false);
    } in
    let done = checked_done b (λ i. omega (arith, c.type_inv.bytes i)) well in (
      ap (λ (o : ReadOutcome). o.number) done,
      ap₂ answer (are at.After-listed) (sym c.if-number_at-count.false ∙ s) ∙ sym (answered b) ∙ sym (ap (λ (o : ReadOutcome). read_of o.sheet) done),
    )
