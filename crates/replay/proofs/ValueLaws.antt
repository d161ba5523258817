-- Where the values of a sheet lie in its bytes: its patterns are the parts of eight bytes after its shapes, and a value's are some of them. Assumes nothing.
use mathlib.Core.Path.{◌≡◌, refl, sym, ap, ◌∙◌}
use mathlib.Core.Bool.{true, false}
use mathlib.Core.List.{List, [], ◌∷◌, map}
use Prim.Native.Nat.{ℕ, zero, suc, ◌+◌, ◌*◌, ◌/◌, ◌^◌, ◌≤◌, ◌<◌}
use native.Mathlib.Omega.{arith}
use lib.Ieee.{binary64, of_bits}
use lib.ListN.{length, get_or, take, drop, length-map}
use lib.Seq.{take-nil, length-take-le, drop-drop}
use borrow.Author.Tests.{le-ltb}
use Rattle.masks.specs.declared.flavor.Flavor.TheVariants.{Vanilla}
use Rattle.masks.specs.declared.shape.Shape.{Shape}
use Rattle.masks.specs.Outcome.{refusal, unless, listed, shape_of}
use Rattle.sheets.specs.Bytes.{from_little_endian, parts, after_section}
use Rattle.sheets.specs.Format.{Sheet, any_above_nine}
use Rattle.sheets.specs.Patterns.{converted, patterns_in, numbers_in}
use Rattle.sheets.specs.Read.{said, is_sheet_bytes}
use Rattle.sheets.specs.declared.shapes.Shapes.{Shapes}
use Rattle.sheets.specs.Shapes.{shapes_of, listed_shapes}
use Rattle.sheets.specs.Values.{start_of}
use Rattle.sheets.proofs.BytesLaws.{parts_length, parts_take, parts_inside}
use Rattle.sheets.proofs.FormatLaws.{Within, sheet_within, sheet_bytes-length, dims_at}
use Rattle.sheets.proofs.PatternsLaws.{in_eights}
use Rattle.sheets.proofs.ReadLaws.{shapes_said, patterns_said, shapes_count, patterns_count, said_sheet}
use Rattle.sheets.proofs.ShapesLaws.{listed-shapes_of}
use Rattle.sheets.proofs.ValuesLaws.{value_within}
use Rattle.replay.specs.Step.{sheet_value}
use Rattle.replay.specs.inner.Turns.{numbers_at}
use Rattle.replay.proofs.StepLaws.{IsValue}

-- the shape at an index
abbrev pub shape_at : List Shape → ℕ → Shape
shape_at ss i = get_or ss i (shape_of 0 Vanilla)

pub value_shape : (sheet : Sheet) (i : ℕ) → (sheet_value sheet i).shape ≡ shape_at sheet.shapes i
unfolding sheet_value
value_shape sheet i = refl

-- ---- numbers in bytes

-- n patterns are n
patterns_length : (n : ℕ) (b : List ℕ) → length (map from_little_endian (parts 8 n b)) ≡ n
patterns_length n b = length-map (parts 8 n b) from_little_endian ∙ parts_length 8 n b

pub numbers_at-length : (b : List ℕ) (count start n : ℕ) → length (numbers_at b count start n) ≡ n
numbers_at-length b count start n =
    let c = drop (6 + 5 * count + 8 * start) b in
    length-map (map from_little_endian (parts 8 n c)) (of_bits binary64) ∙ patterns_length n c

-- the bytes of n patterns are read as n numbers
pub part_numbers : (b : List ℕ) (n room : ℕ) → 8 * n ≤ length b → n ≤ room → numbers_in (take (8 * n) b) room ≡ listed (map (of_bits binary64) (map from_little_endian (parts 8 n b)))
unfolding converted refusal unless
part_numbers b n room l h =
    let a = take (8 * n) b in
    let m = length-take-le (8 * n) b l in
    let k : length a / 8 ≡ n = omega arith in
    let p : patterns_in a ≡ map from_little_endian (parts 8 n b) = ap (map from_little_endian) (ap (λ (j : ℕ). parts 8 j a) k ∙ parts_take 8 n b l) in
    in_eights a room (omega arith)
    ∙ rw (p, le-ltb room (length (map from_little_endian (parts 8 n b))) (omega (arith, patterns_length n b)))

-- what is done to all is done to a part
map_part : {A B : Type 0} (f : A → B) (s n : ℕ) (l : List A) → map f (take n (drop s l)) ≡ take n (drop s (map f l))
map_part f zero zero l = refl
map_part f zero (suc n) [] = refl
map_part f zero (suc n) (x ∷ l) = ap (λ t. f x ∷ t) (map_part f zero n l)
map_part f (suc s) n [] = simp take-nil
map_part f (suc s) n (x ∷ l) = map_part f s n l

-- the numbers of some of the patterns that bytes say
numbers_lie : (b : List ℕ) (s n : ℕ) → s + n ≤ length (said b).patterns → numbers_at b (length (said b).shapes) s n ≡ map (of_bits binary64) (take n (drop s (said b).patterns))
unfolding said
numbers_lie b s n h =
    let m = patterns_said b in
    let a = after_section 2 5 b in
    let at = 6 + 5 * length (said b).shapes + 8 * s in
    let k : 2 + 5 * shapes_said b + (4 + 8 * s) ≡ at = omega (arith, shapes_count b) in
    let d : drop (8 * s) (drop 4 a) ≡ drop at b = drop-drop (8 * s) 4 a ∙ drop-drop (4 + 8 * s) (2 + 5 * shapes_said b) b ∙ ap (λ (j : ℕ). drop j b) k in
    let p : take n (drop s (parts 8 m (drop 4 a))) ≡ parts 8 n (drop at b) = parts_inside 8 m s n (drop 4 a) (omega (arith, patterns_count b)) ∙ ap (parts 8 n) d in
    ap (map (of_bits binary64)) (ap (map from_little_endian) (sym p) ∙ map_part from_little_endian s n (parts 8 m (drop 4 a)))

-- ---- bytes that are a sheet's

module _ (b : List ℕ) (e : is_sheet_bytes b ≡ true) where
  -- the sheet is within its limits
  limits_held : Within (length (said b).shapes) (said b).shapes (length (said b).patterns)
  limits_held = sheet_within (said b) (said_sheet b e).0

  pub sheet_few : length (said b).shapes ≤ 64
  sheet_few = limits_held.few

  -- so its record lists all its shapes
  pub all_listed : (shapes : Shapes) (listed : List Shape) → shapes ≡ shapes_of (said b).shapes → listed ≡ listed_shapes shapes → listed ≡ (said b).shapes
  all_listed shapes listed q l = l ∙ ap listed_shapes q ∙ listed-shapes_of (said b).shapes sheet_few

  pub none_above : any_above_nine (said b).shapes ≡ false
  none_above = limits_held.small

  module _ (i : ℕ) (h : i < length (said b).shapes) where
    pub shape_small : (shape_at (said b).shapes i).dims ≤ 9
    shape_small = dims_at i (said b).shapes h limits_held.small

    -- its patterns end within the sheet's
    value_ends : start_of (said b).shapes i + 2 ^ (shape_at (said b).shapes i).dims ≤ length (said b).patterns
    value_ends = omega (arith, value_within (said b).shapes i h, limits_held.matched)

    -- so within those that a sheet has at most, and within the bytes
    pub value_few : start_of (said b).shapes i + 2 ^ (shape_at (said b).shapes i).dims ≤ 4096
    value_few = omega (arith, value_ends, limits_held.limited)

    pub value_inside : 6 + 5 * length (said b).shapes + 8 * (start_of (said b).shapes i + 2 ^ (shape_at (said b).shapes i).dims) ≤ length b
    value_inside = omega (arith, value_ends, ap length (said_sheet b e).1 ∙ sheet_bytes-length (said b))

    -- its numbers are read where they lie
    pub value_lies : numbers_at b (length (said b).shapes) (start_of (said b).shapes i) (2 ^ (shape_at (said b).shapes i).dims) ≡ (sheet_value (said b) i).coefs
    unfolding sheet_value
    value_lies = numbers_lie b (start_of (said b).shapes i) (2 ^ (shape_at (said b).shapes i).dims) value_ends

    pub value_is : IsValue (sheet_value (said b) i)
    unfolding sheet_value
    value_is =
        record {
          done = refl;
          small = shape_small;
          counted = ap length (sym value_lies) ∙ numbers_at-length b (length (said b).shapes) (start_of (said b).shapes i) (2 ^ (shape_at (said b).shapes i).dims);
        }
