-- The reader accepts just what the format describes; what was written is read back, and what was read is written back. Each goes by what the bytes of a sheet say: that sheet. Assumes nothing.
use mathlib.Core.Path.{◌≡◌, refl, sym, ap, ap₂, ◌∙◌}
use mathlib.Core.Bool.{true, ◌&&◌}
use mathlib.Core.Logic.{⊎_elim}
use mathlib.Core.List.{List, [], map, append-nil}
use Prim.Native.Nat.{ℕ, zero, suc, ◌+◌, ◌*◌, ◌/◌, ◌^◌, ◌≤◌, ◌<◌}
use native.Mathlib.Nat.{zero-lt-suc, le_trans, one-le-pow, pow-le-pow_right}
use native.Mathlib.Omega.{arith}
use lib.ListN.{length, get_or, take, drop, length-take}
use borrow.Author.Tests.{le-ltb, eq-eqb, not-false}
use Rattle.masks.specs.declared.flavor.Flavor.TheVariants.{Vanilla}
use Rattle.masks.specs.declared.shape.Shape.{Shape}
use Rattle.std.specs.Prelude.{Ok}
use Rattle.masks.specs.Outcome.{refusal, unless, shape_of, laid, Written, refused_list, listed, Writes}
use Rattle.masks.specs.ShapeBytes.{shape_bytes, shape_from}
use Rattle.masks.specs.Text.{same}
use Rattle.sheets.specs.declared.read.SheetRead.{SheetRead}
use Rattle.masks.proofs.ListLaws.{split, take_laid}
use Rattle.masks.proofs.OutcomeLaws.{past, unless_done, unless_number}
use Rattle.masks.proofs.ShapeBytesLaws.{shape_bytes-length, shape_back}
use Rattle.sheets.specs.declared.shapes.Shapes.{Shapes}
use Rattle.sheets.specs.Bytes.{from_little_endian, all_bytes, section, parts, items_in, after_section}
use Rattle.sheets.specs.Format.{Sheet, shape_in, pattern_bytes, sheet_bytes, blade_total}
use Rattle.sheets.specs.Shapes.{shapes_of, said_shapes}
use Rattle.sheets.specs.Read.{said, is_sheet, is_sheet_bytes, malformed, ReadOutcome, read_sheet_tests, read_sheet, checked, a_sheet, refused_sheet, Reads}
use Rattle.sheets.specs.Write.{sheet_of, write_sheet_tests, write_sheet}
use Rattle.sheets.proofs.BytesLaws.{AreBytes, little_endian-length, number-little_endian, number_lt, take_bytes, drop_bytes, all_bytes-length, parts-all_bytes, items_section, after_section_lem}
use Rattle.sheets.proofs.FormatLaws.{five_length, five_back, same_refl, sheet_within, within_sheet}
use Rattle.sheets.proofs.PatternsLaws.{map_back}
use Rattle.sheets.proofs.ReadLaws.{shapes_said, patterns_said, said_sheet, sheet_items, accepts, checked_true, read_malformed, read_no_room, read_done}
use Rattle.sheets.proofs.ShapesLaws.{listed_length, listed-shapes_of}
use Rattle.sheets.proofs.WriteLaws.{room_same, writable}

-- every pattern has 64 bits
abbrev pub ArePatterns : List ℕ → Type 0
ArePatterns xs = (i : ℕ) → get_or xs i 0 < 2 ^ 64

-- ---- the numbers that are given

-- equal outcomes have one number
number_same : {o p : ReadOutcome} {n : ℕ} → o ≡ p → o.number ≡ n → p.number ≡ n
number_same q e = sym (ap (λ (o : ReadOutcome). o.number) q) ∙ e

-- where the reader does not refuse
taken : (b : List ℕ) (room : ℕ) → (read_sheet b room).number ≡ 0 → (is_sheet_bytes b ≡ true) × (read_sheet b room ≡ a_sheet (said b))
unfolding read_sheet
taken b room e =
    let k = sym (unless_number (λ (o : ReadOutcome). o.number) refused_sheet (refusal (read_sheet_tests b room)) (a_sheet (said b)) refl refl) ∙ e in
    (not-false _ (past (malformed b) _ (λ q. omega arith) k).0, unless_done refused_sheet _ 0 _ (sym k) refl)

-- Sound: what is read is a sheet within its limits, and the bytes are its bytes.
pub sound : (b : List ℕ) (room : ℕ) → (read_sheet b room).number ≡ 0 → (is_sheet (read_sheet b room).sheet ≡ true) × (b ≡ sheet_bytes (read_sheet b room).sheet)
sound b room e = let t = taken b room e in rw t.1 (said_sheet b t.0)

-- ---- what the bytes of a sheet say

-- a sheet's patterns, as they stand in its bytes
sheet_patterns : (s : Sheet) → length s.shapes < 256 ^ 2 → length s.patterns < 256 ^ 4 → items_in 4 8 (after_section 2 5 (sheet_bytes s)) ≡ map pattern_bytes s.patterns
unfolding sheet_bytes
sheet_patterns s g h =
    let r = section 4 pattern_bytes s.patterns in
    ap (items_in 4 8) (after_section_lem (shape_in 5) 5 five_length 2 s.shapes r g ∙ sym (append-nil r))
    ∙ items_section pattern_bytes 8 (little_endian-length 8) 4 s.patterns [] h

module _ (s : Sheet) (e : is_sheet s ≡ true) (h : ArePatterns s.patterns) where
  said_back : said (sheet_bytes s) ≡ s
  unfolding said
  said_back =
      let w = sheet_within s e in
      let g : length s.shapes < 256 ^ 2 = omega (arith, w.few) in
      let d = shape_of 0 Vanilla in
      ap₂ (λ (ss : List Shape) (xs : List ℕ). record { shapes = ss; patterns = xs })
      (ap (map shape_from) (sheet_items s g) ∙ map_back (shape_in 5) shape_from d s.shapes (λ i l. five_back (get_or s.shapes i d)))
      (ap (map from_little_endian) (sheet_patterns s g (omega (arith, w.limited))) ∙ map_back pattern_bytes from_little_endian 0 s.patterns (λ i l. number-little_endian 8 (get_or s.patterns i 0) (h i)))

  bytes_pass : is_sheet_bytes (sheet_bytes s) ≡ true
  unfolding is_sheet_bytes
  bytes_pass = ap₂ ◌&&◌ (ap is_sheet said_back ∙ e) (ap (λ (t : Sheet). same (sheet_bytes s) (sheet_bytes t)) said_back ∙ same_refl (sheet_bytes s))

  checked_zero : (checked (sheet_bytes s)).number ≡ 0
  checked_zero = ap (λ (o : ReadOutcome). o.number) (accepts (sheet_bytes s) bytes_pass)

-- the number of each part of k bytes is below 256 ^ k
number_parts : (k n : ℕ) (b : List ℕ) → AreBytes b → (i : ℕ) → get_or (map from_little_endian (parts k n b)) i 0 < 256 ^ k
unfolding parts
number_parts k zero b h i = one-le-pow k 256 (zero-lt-suc 255)
number_parts k (suc n) b h zero =
    le_trans (number_lt (take k b) (take_bytes k b h)) (pow-le-pow_right (zero-lt-suc 255) (omega (arith, length-take k b)))
number_parts k (suc n) b h (suc i) = number_parts k n (drop k b) (drop_bytes k b h) i

said_patterns : (b : List ℕ) → AreBytes b → ArePatterns (said b).patterns
unfolding said
said_patterns b h =
    let a = after_section 2 5 b in
    number_parts 8 (patterns_said b) (drop 4 a) (drop_bytes 4 a (drop_bytes (2 + 5 * shapes_said b) b h))

-- ---- the bytes that are read, and those that are refused

-- Complete: the bytes of a sheet within its limits are read, and as that sheet.
pub complete : (s : Sheet) (room : ℕ) → is_sheet s ≡ true → ArePatterns s.patterns → length s.patterns ≤ room → read_sheet (sheet_bytes s) room ≡ a_sheet s
complete s room e h r =
    let q = said_back s e h in
    read_done (sheet_bytes s) room (checked_zero s e h) (rw q r) ∙ ap a_sheet q

-- 9 is given just where the bytes are those of no sheet, 3 just where they are and the output is shorter than its patterns.
pub short_three : (s : Sheet) (room : ℕ) → is_sheet s ≡ true → ArePatterns s.patterns → room < length s.patterns → read_sheet (sheet_bytes s) room ≡ refused_sheet 3
short_three s room e h r = read_no_room (sheet_bytes s) room (checked_zero s e h) (rw (said_back s e h) r)

pub no_sheet_nine : (b : List ℕ) (room : ℕ) → AreBytes b → ((s : Sheet) → is_sheet s ≡ true → ArePatterns s.patterns → b ≡ sheet_bytes s → ⊥) → read_sheet b room ≡ refused_sheet 9
no_sheet_nine b room k h =
    read_malformed b room (λ z. let p = said_sheet b (checked_true b z) in h (said b) p.0 (said_patterns b k) p.1)

pub nine_no_sheet : (b : List ℕ) (room : ℕ) → (read_sheet b room).number ≡ 9 → (s : Sheet) → is_sheet s ≡ true → ArePatterns s.patterns → b ≡ sheet_bytes s → ⊥
nine_no_sheet b room e s i p q =
    let n : (read_sheet (sheet_bytes s) room).number ≡ 9 = rw q at e in
    ⊎_elim (λ (l : room < length s.patterns). omega (arith, number_same (short_three s room i p l) n))
    (λ (l : length s.patterns ≤ room). omega (arith, number_same (complete s room i p l) n))
    (split room (length s.patterns))

pub three_short : (b : List ℕ) (room : ℕ) → (read_sheet b room).number ≡ 3 → (s : Sheet) × (is_sheet s ≡ true) × (b ≡ sheet_bytes s) × (room < length s.patterns)
three_short b room e =
    ⊎_elim (λ (l : 0 < (checked b).number). absurd (omega (arith, number_same (read_malformed b room (λ z. omega arith)) e)))
    (λ (l : (checked b).number ≤ 0).
    let z : (checked b).number ≡ 0 = omega arith in
    let p = said_sheet b (checked_true b z) in
    ⊎_elim (λ (r : room < length (said b).patterns). (said b, p.0, p.1, r))
    (λ (r : length (said b).patterns ≤ room). absurd (omega (arith, number_same (read_done b room z r) e)))
    (split room (length (said b).patterns)))
    (split 0 (checked b).number)

-- ---- written and read

-- Read of what was written gives back shapes and patterns.
pub read_of_written : (s : Shapes) (xs : List ℕ) (room room' : ℕ) → length s.held ≡ 64 → ArePatterns xs → (write_sheet s xs room).number ≡ 0 → length xs ≤ room' → read_sheet (write_sheet s xs room).items room' ≡ a_sheet (sheet_of s xs)
unfolding write_sheet
read_of_written s xs room room' e h w r =
    let k = sym (unless_number (λ (o : Written ℕ). o.number) refused_list (refusal (write_sheet_tests s xs room)) (listed (sheet_bytes (sheet_of s xs))) refl refl) ∙ w in
    let g = (writable s xs room (room_same s xs room e ∙ k)).within in
    let l = listed_length s e g.few in
    let i = within_sheet (sheet_of s xs) (record { small = g.small; few = omega (arith, g.few); limited = g.limited; matched = g.matched }) in
    rw (unless_done refused_list _ 0 (listed (sheet_bytes (sheet_of s xs))) (sym k) refl) (complete (sheet_of s xs) room' i h r)

-- a sheet within its limits is written
writes : (s : Sheet) (room : ℕ) → is_sheet s ≡ true → length (sheet_bytes s) ≤ room → write_sheet (shapes_of s.shapes) s.patterns room ≡ listed (sheet_bytes s)
unfolding write_sheet refusal unless
writes s room e r =
    let w = sheet_within s e in
    rw (listed-shapes_of s.shapes w.few, w.small, le-ltb 64 (length s.shapes) w.few, le-ltb 4096 (length s.patterns) w.limited, eq-eqb (length s.patterns) (blade_total s.shapes) w.matched, le-ltb room (length (sheet_bytes s)) r)

-- Written of what was read is the same bytes, a NaN's bits included.
pub written_of_read : (b : List ℕ) (room room' : ℕ) → (read_sheet b room).number ≡ 0 → length b ≤ room' → write_sheet (shapes_of (read_sheet b room).sheet.shapes) (read_sheet b room).sheet.patterns room' ≡ listed b
written_of_read b room room' e r =
    let p = sound b room e in
    let s = (read_sheet b room).sheet in
    writes s room' p.0 (rw p.1 at r) ∙ ap listed (sym p.1)

-- ---- as a caller meets them, by the contracts

-- what a call wrote is had back from its output by its count
left_behind : (xs before : List ℕ) {n : ℕ} {after : List ℕ} → n ≡ length xs → after ≡ laid xs before → take n after ≡ xs
left_behind xs before {n} e l = ap (take n) l ∙ take_laid n xs before (sym e)

-- the bytes are what the writer left in its output, as many as it answered

pub written_then_read : (s : Shapes) (xs : List ℕ) (room : ℕ) {n : ℕ} {before after : List ℕ} → length s.held ≡ 64 → ArePatterns xs → length xs ≤ room → Writes (write_sheet s xs (length before)) (Ok n) before after → read_sheet (take n after) room ≡ a_sheet (sheet_of s xs)
written_then_read s xs room {n} {before} {after} e h l w =
    let o = write_sheet s xs (length before) in
    ap (λ (b : List ℕ). read_sheet b room) (left_behind o.items before w.counted.1 w.left)
    ∙ read_of_written s xs (length before) room e h w.counted.0 l

-- the shapes and patterns are what the reader answered and left in its output
pub read_then_written : (b : List ℕ) (room : ℕ) {r : SheetRead} {before after : List ℕ} → Reads (read_sheet b (length before)) (Ok r) before after → length b ≤ room → write_sheet r.shapes (take r.count after) room ≡ listed b
read_then_written b room {r} {before} {after} w l =
    let o = read_sheet b (length before) in
    ap₂ (λ (s : Shapes) (xs : List ℕ). write_sheet s xs room)
    (ap (λ (a : SheetRead). a.shapes) w.answered.1)
    (left_behind o.sheet.patterns before (ap (λ (a : SheetRead). a.count) w.answered.1) w.left)
    ∙ written_of_read b (length before) room w.answered.0 l

-- ---- a list of shapes

-- shapes come back from their list
pub list_back : (ss : List Shape) → said_shapes 6 (all_bytes shape_bytes ss) ≡ ss
unfolding said_shapes
list_back ss =
    let d = shape_of 0 Vanilla in
    let b = all_bytes shape_bytes ss in
    let n : length b / 6 ≡ length ss = omega (arith, all_bytes-length shape_bytes 6 shape_bytes-length ss) in
    ap (λ (k : ℕ). map shape_from (parts 6 k b)) n
    ∙ ap (λ (l : List ℕ). map shape_from (parts 6 (length ss) l)) (sym (append-nil b))
    ∙ ap (map shape_from) (parts-all_bytes shape_bytes 6 shape_bytes-length ss [])
    ∙ map_back shape_bytes shape_from d ss (λ i l. shape_back (get_or ss i d))
