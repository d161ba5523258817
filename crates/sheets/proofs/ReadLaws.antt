-- What bytes say, and when they are a sheet's: each section of bytes is read back by its count and written back from its parts. Assumes nothing.
use mathlib.Core.Path.{◌≡◌, refl, sym, ap, ap₂, ◌∙◌}
use mathlib.Core.Bool.{Bool, true, false, not, ◌&&◌, ◌||◌}
use mathlib.Core.List.{List, [], ◌∷◌, ◌++◌, map}
use Prim.Native.Nat.{ℕ, zero, suc, ◌+◌, ◌*◌, ◌^◌, ◌≤◌, ◌<◌, suc-le-suc}
use native.Mathlib.Nat.{le_of_suc-le-suc, not-suc-le-zero, zero-lt-suc}
use native.Mathlib.Omega.{arith}
use lib.Dec.{ltb}
use lib.ListN.{length, get_or, take, drop, length-map, length-drop, take-append-drop}
use lib.Seq.{length-take-le, take_all, take-add}
use borrow.Author.Tests.{lt-ltb, le-ltb, not-true}
use Rattle.std.specs.Prelude.{Result}
use Rattle.std.specs.List.{list_all}
use Rattle.masks.specs.declared.flavor.Flavor.TheVariants.{Vanilla}
use Rattle.masks.specs.declared.outcome.Refusal.{Refusal}
use Rattle.masks.specs.declared.shape.Shape.{Shape}
use Rattle.masks.specs.Outcome.{refusal, unless, shape_of}
use Rattle.masks.specs.ShapeBytes.{shape_from}
use Rattle.masks.specs.Text.{same}
use Rattle.masks.proofs.ListLaws.{get_d_map, both_true}
use Rattle.masks.proofs.OutcomeLaws.{answer_one}
use Rattle.sheets.specs.declared.read.SheetRead.{SheetRead}
use Rattle.sheets.specs.Bytes.{little_endian, from_little_endian, section, parts, count_in, items_in, after_section}
use Rattle.sheets.specs.Format.{Sheet, shape_in, pattern_bytes, sheet_bytes, blade_total, any_above_nine}
use Rattle.sheets.specs.Read.{said, is_sheet, is_sheet_bytes, ReadOutcome, refused_sheet, a_sheet, read_sheet, checked, read_of, Reads}
use Rattle.sheets.specs.inner.Checks.{is_shape, are_shapes}
use Rattle.sheets.proofs.BytesLaws.{AreBytes, little_endian-number, take_bytes, drop_bytes, items_section, parts_length, get_d-parts, all_bytes-parts}
use Rattle.sheets.proofs.FormatLaws.{five_length, five_back, sheet_bytes-length, same_true, same_refl, dims_at, sheet_within, within_sheet}

-- how many shapes and coefficients bytes say that they have
abbrev pub shapes_said : List ℕ → ℕ
shapes_said b = count_in 2 b

abbrev pub patterns_said : List ℕ → ℕ
patterns_said b = count_in 4 (after_section 2 5 b)

pub shapes_count : (b : List ℕ) → length (said b).shapes ≡ shapes_said b
unfolding said
shapes_count b = length-map (items_in 2 5 b) shape_from ∙ parts_length 5 (shapes_said b) (drop 2 b)

pub patterns_count : (b : List ℕ) → length (said b).patterns ≡ patterns_said b
unfolding said
patterns_count b = length-map (items_in 4 8 (after_section 2 5 b)) from_little_endian ∙ parts_length 8 (patterns_said b) (drop 4 (after_section 2 5 b))

-- ---- the checks

-- what is checked, one thing after the other
pub record WellFormed (b : List ℕ) : Type 0 where
  pub counted : 2 ≤ length b
  pub few : shapes_said b ≤ 64
  pub shaped : 2 + 5 * shapes_said b + 4 ≤ length b
  pub shapes : are_shapes (items_in 2 5 b) ≡ true
  pub matched : patterns_said b ≡ blade_total (map shape_from (items_in 2 5 b))
  pub limited : patterns_said b ≤ 4096
  pub whole : length b ≡ 2 + 5 * shapes_said b + 4 + 8 * patterns_said b

-- ---- tests

truly : (t : Bool) → (t ≡ false → ⊥) → t ≡ true
truly true h = refl
truly false h = absurd (h refl)

falsely : (t : Bool) → (t ≡ true → ⊥) → t ≡ false
falsely true h = absurd (h refl)
falsely false h = refl

-- ---- one shape after the other

-- the test of the library's `all`
pub shapes_every : (cs : List (List ℕ)) → list_all is_shape cs ≡ are_shapes cs
unfolding are_shapes
shapes_every [] = refl
shapes_every (c ∷ cs) = ap (λ (b : Bool). is_shape c && b) (shapes_every cs)

-- the shapes pass where each does
pub shapes_all : (cs : List (List ℕ)) → ((i : ℕ) → i < length cs → is_shape (get_or cs i []) ≡ true) → are_shapes cs ≡ true
unfolding are_shapes
shapes_all [] h = refl
shapes_all (c ∷ cs) h = ap₂ ◌&&◌ (h 0 (zero-lt-suc (length cs))) (shapes_all cs (λ i l. h (suc i) (suc-le-suc l)))

shapes_at : (cs : List (List ℕ)) (i : ℕ) → i < length cs → are_shapes cs ≡ true → is_shape (get_or cs i []) ≡ true
unfolding are_shapes
shapes_at [] i l e = absurd (not-suc-le-zero l)
shapes_at (c ∷ cs) zero l e = (both_true (is_shape c) (are_shapes cs) e).0
shapes_at (c ∷ cs) (suc i) l e = shapes_at cs i (le_of_suc-le-suc l) (both_true (is_shape c) (are_shapes cs) e).1

-- shapes that pass have at most nine dimensions
pub shapes_small : (cs : List (List ℕ)) → are_shapes cs ≡ true → any_above_nine (map shape_from cs) ≡ false
unfolding are_shapes is_shape any_above_nine shape_from
shapes_small [] e = refl
shapes_small (c ∷ cs) e =
    let p = both_true (is_shape c) (are_shapes cs) e in
    let q = both_true (not (ltb 9 (get_or c 0 0))) (same c (shape_in 5 (shape_from c))) p.0 in
    ap₂ ◌||◌ (not-true (ltb 9 (get_or c 0 0)) q.0) (shapes_small cs p.1)

-- the bytes of shapes of at most nine dimensions pass
shape_passes : (s : Shape) → s.dims ≤ 9 → is_shape (shape_in 5 s) ≡ true
unfolding is_shape
shape_passes s h = rw (le-ltb 9 s.dims h, five_back s, same_refl (shape_in 5 s))

small_shapes : (ss : List Shape) → any_above_nine ss ≡ false → are_shapes (map (shape_in 5) ss) ≡ true
small_shapes ss e =
    shapes_all (map (shape_in 5) ss) (λ i l. let k : i < length ss = omega (arith, length-map ss (shape_in 5)) in ap is_shape (get_d_map (shape_in 5) ss i (shape_of 0 Vanilla) [] k) ∙ shape_passes (get_or ss i (shape_of 0 Vanilla)) (dims_at i ss k e))

-- ---- The checks pass just where the bytes are those of the sheet that they say.

-- a sheet's shapes, as they stand in its bytes
pub sheet_items : (s : Sheet) → length s.shapes < 256 ^ 2 → items_in 2 5 (sheet_bytes s) ≡ map (shape_in 5) s.shapes
unfolding sheet_bytes
sheet_items s h = items_section (shape_in 5) 5 five_length 2 s.shapes (section 4 pattern_bytes s.patterns) h

-- what is said of bytes that pass
pub said_sheet : (b : List ℕ) → is_sheet_bytes b ≡ true → (is_sheet (said b) ≡ true) × (b ≡ sheet_bytes (said b))
unfolding is_sheet_bytes
said_sheet b e =
    let p = both_true (is_sheet (said b)) (same b (sheet_bytes (said b))) e in
    (p.0, same_true b (sheet_bytes (said b)) p.1)

pub well_formed : (b : List ℕ) → is_sheet_bytes b ≡ true → WellFormed b
unfolding said
well_formed b e =
    let q : b ≡ sheet_bytes (said b) = (said_sheet b e).1 in
    let w = sheet_within (said b) (said_sheet b e).0 in
    let n = shapes_count b in
    let m = patterns_count b in
    let l = ap length q ∙ sheet_bytes-length (said b) in
    record {
      counted = omega arith;
      few = omega (arith, w.few);
      shaped = omega arith;
      shapes = ap are_shapes (ap (items_in 2 5) q ∙ sheet_items (said b) (omega (arith, w.few))) ∙ small_shapes (said b).shapes w.small;
      matched = sym m ∙ w.matched;
      limited = omega (arith, w.limited);
      whole = omega arith;
    }

-- the first w bytes come back from their number
number_taken : (w : ℕ) (b : List ℕ) → AreBytes b → w ≤ length b → little_endian w (from_little_endian (take w b)) ≡ take w b
number_taken w b h l = rw (length-take-le w b l) at (little_endian-number (take w b) (take_bytes w b h))

-- a section comes back from its items, where each comes back from its bytes
section_taken {ℓ} : {A : Type ℓ} (f : A → List ℕ) (g : List ℕ → A) (w k : ℕ) (b : List ℕ) → AreBytes b → w + k * count_in w b ≤ length b → ((i : ℕ) → i < count_in w b → f (g (take k (drop (k * i) (drop w b)))) ≡ take k (drop (k * i) (drop w b))) → section w f (map g (items_in w k b)) ≡ take (w + k * count_in w b) b
unfolding section
section_taken f g w k b h l e =
    ap₂ ◌++◌
    (ap (little_endian w) (length-map (items_in w k b) g ∙ parts_length k (count_in w b) (drop w b)) ∙ number_taken w b h (omega arith))
    (all_bytes-parts f g k (count_in w b) (drop w b) e)
    ∙ sym (take-add w (k * count_in w b) b)

-- a part that passes comes back from its shape
shape_taken : (n : ℕ) (b : List ℕ) (i : ℕ) → are_shapes (parts 5 n b) ≡ true → i < n → shape_in 5 (shape_from (take 5 (drop (5 * i) b))) ≡ take 5 (drop (5 * i) b)
unfolding is_shape
shape_taken n b i e h =
    let c = take 5 (drop (5 * i) b) in
    let p : is_shape c ≡ true = rw (get_d-parts 5 n b i h) at (shapes_at (parts 5 n b) i (omega (arith, parts_length 5 n b)) e) in
    sym (same_true c (shape_in 5 (shape_from c)) (both_true (not (ltb 9 (get_or c 0 0))) (same c (shape_in 5 (shape_from c))) p).1)

-- so does one of eight bytes from its number
pattern_taken : (n : ℕ) (b : List ℕ) (i : ℕ) → AreBytes b → 8 * n ≤ length b → i < n → pattern_bytes (from_little_endian (take 8 (drop (8 * i) b))) ≡ take 8 (drop (8 * i) b)
pattern_taken n b i h l k = number_taken 8 (drop (8 * i) b) (drop_bytes (8 * i) b h) (omega (arith, length-drop (8 * i) b))

sheet_taken : (b : List ℕ) → AreBytes b → WellFormed b → sheet_bytes (said b) ≡ b
unfolding said sheet_bytes
sheet_taken b h w =
    let n = 2 + 5 * shapes_said b in
    let a = after_section 2 5 b in
    let k = drop_bytes n b h in
    let l = length-drop n b in
    let m : 8 * patterns_said b ≤ length (drop 4 a) = omega (arith, w.whole, length-drop 4 a) in
    ap₂ ◌++◌ (section_taken (shape_in 5) shape_from 2 5 b h (omega (arith, w.shaped)) (λ i. shape_taken (shapes_said b) (drop 2 b) i w.shapes))
    (section_taken pattern_bytes from_little_endian 4 8 a k (omega (arith, w.whole)) (λ i. pattern_taken (patterns_said b) (drop 4 a) i (drop_bytes 4 a k) m)
    ∙ take_all (4 + 8 * patterns_said b) a (omega (arith, w.whole)))
    ∙ take-append-drop n b

pub accepted : (b : List ℕ) → AreBytes b → WellFormed b → is_sheet_bytes b ≡ true
unfolding is_sheet_bytes said
accepted b h w =
    let n = shapes_count b in
    let m = patterns_count b in
    ap₂ ◌&&◌
    (within_sheet (said b) (record { small = shapes_small (items_in 2 5 b) w.shapes; few = omega (arith, w.few); limited = omega (arith, w.limited); matched = m ∙ w.matched }))
    (ap (same b) (sheet_taken b h w) ∙ same_refl b)

-- ---- where the reader's answer is a refusal, and where it is a sheet

refuses : (b : List ℕ) → is_sheet_bytes b ≡ false → checked b ≡ refused_sheet 9
unfolding checked refusal unless
refuses b e = rw e

pub accepts : (b : List ℕ) → is_sheet_bytes b ≡ true → checked b ≡ a_sheet (said b)
unfolding checked refusal unless
accepts b e = rw e

-- by the number that a check gives
pub checked_true : (b : List ℕ) → (checked b).number ≡ 0 → is_sheet_bytes b ≡ true
checked_true b e =
    truly (is_sheet_bytes b) (λ f. omega (arith, sym (ap (λ (o : ReadOutcome). o.number) (refuses b f)) ∙ e))

checked_false : (b : List ℕ) → ((checked b).number ≡ 0 → ⊥) → is_sheet_bytes b ≡ false
checked_false b h = falsely (is_sheet_bytes b) (λ t. h (ap (λ (o : ReadOutcome). o.number) (accepts b t)))

pub checked_refused : (b : List ℕ) → (WellFormed b → ⊥) → checked b ≡ refused_sheet 9
checked_refused b h = refuses b (falsely (is_sheet_bytes b) (λ t. h (well_formed b t)))

pub checked_done : (b : List ℕ) → AreBytes b → WellFormed b → checked b ≡ a_sheet (said b)
checked_done b h w = accepts b (accepted b h w)

-- the numbers that a check can give
pub checked_cases : (b : List ℕ) → ((checked b).number ≡ 0 → ⊥) → checked b ≡ refused_sheet 9
checked_cases b h = refuses b (checked_false b h)

pub checked_well : (b : List ℕ) → (checked b).number ≡ 0 → WellFormed b
checked_well b e = well_formed b (checked_true b e)

pub read_malformed : (b : List ℕ) (room : ℕ) → ((checked b).number ≡ 0 → ⊥) → read_sheet b room ≡ refused_sheet 9
unfolding read_sheet refusal unless
read_malformed b room h = rw (checked_false b h)

pub read_no_room : (b : List ℕ) (room : ℕ) → (checked b).number ≡ 0 → room < length (said b).patterns → read_sheet b room ≡ refused_sheet 3
unfolding read_sheet refusal unless
read_no_room b room e h = rw (checked_true b e, lt-ltb room (length (said b).patterns) h)

pub read_done : (b : List ℕ) (room : ℕ) → (checked b).number ≡ 0 → length (said b).patterns ≤ room → read_sheet b room ≡ a_sheet (said b)
unfolding read_sheet refusal unless
read_done b room e h = rw (checked_true b e, le-ltb room (length (said b).patterns) h)

-- ---- nothing is left open

pub reads_one : {o : ReadOutcome} {r r' : Result SheetRead Refusal} {before after after' : List ℕ} → Reads o r before after → Reads o r' before after' → (r ≡ r') × (after ≡ after')
reads_one {o = o} g h = (answer_one o.number (read_of o.sheet) _ _ g.answered h.answered, g.left ∙ sym h.left)
