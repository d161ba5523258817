-- Laws of the calls on sheets whose shapes are bytes: what they say of the dimensions, where a list is refused by its bytes alone, what is read, and that it is written back. Assumes nothing.
use mathlib.Core.Path.{◌≡◌, refl, sym, ap, ◌∙◌, subst}
use mathlib.Core.Logic.{⊎_elim}
use mathlib.Core.Bool.{Bool, true, false, not, cond, false≢true}
use mathlib.Core.List.{List, [], ◌∷◌, ◌++◌}
use Prim.Native.Nat.{ℕ, zero, suc, ◌*◌, ◌/◌, ◌%◌, ◌≤◌, ◌<◌}
use native.Mathlib.Nat.{add-zero}
use native.Mathlib.Omega.{arith}
use borrow.Author.Tests.{lt-ltb, le-ltb, ltb-false, eq-eqb, not-false}
use lib.Dec.{ltb}
use lib.ListN.{length, get_or}
use lib.Seq.{get_or-drop}
use Rattle.masks.specs.declared.flavor.Flavor.TheVariants.{Vanilla}
use Rattle.masks.specs.declared.shape.Shape.{Shape}
use Rattle.std.specs.Prelude.{Result, Ok, Err}
use Rattle.masks.specs.declared.outcome.Refusal.{Refusal}
use Rattle.masks.specs.Outcome.{Test, Written, Writes, refusal, number_of, unless, shape_of, no_room, refused_list, listed, laid}
use Rattle.masks.specs.ShapeBytes.{shape_bytes, shape_from}
use Rattle.masks.proofs.ListLaws.{split}
use Rattle.masks.proofs.OutcomeLaws.{past, rest_same, refused_later, unless_refused, unless_err, unless_number, refuses}
use Rattle.masks.proofs.ShapeBytesLaws.{shape_bytes-length}
use Rattle.sheets.specs.declared.read.SheetRead.{SheetRead}
use Rattle.sheets.specs.Bytes.{all_bytes}
use Rattle.sheets.specs.Format.{any_above_nine, above_nine, limits, sheet_bytes}
use Rattle.sheets.specs.Read.{said, is_sheet_bytes, malformed, ReadOutcome, refused_sheet, a_sheet, read_sheet_tests, read_sheet, Reads}
use Rattle.sheets.specs.Shapes.{shapes_of, said_shapes, shape_list}
use Rattle.sheets.specs.Values.{value_at_tests, value_at, PlaceOutcome, placed_at, refused_place}
use Rattle.sheets.specs.Write.{write_sheet}
use Rattle.sheets.proofs.BytesLaws.{all_bytes-length}
use Rattle.sheets.proofs.FormatLaws.{above_take, sheet_within}
use Rattle.sheets.proofs.ShapesLaws.{listed_first, listed-shapes_of, said_shapes-at, list_whole}
use Rattle.sheets.proofs.ReadLaws.{shapes_count, well_formed}
use Rattle.sheets.proofs.RoundTrips.{sound, written_of_read, list_back}
use Rattle.exports.specs.Reports.{ReportsPlace, ReportsList}
use Rattle.exports.specs.Sheet.{not_sixes, write_from_tests, write_from, sheet_from, first_shapes, value_from_tests, value_from, read_from_tests, read_from, ReportsSheet}
use Rattle.exports.proofs.ReportsLaws.{kept_reported, refused_reported, done_reported}

-- ---- what bytes say of the dimensions

-- Those of shape i are byte 6 * i.
pub dims_said : (b : List ℕ) (i : ℕ) → i < length b / 6 → (get_or (said_shapes 6 b) i (shape_of 0 Vanilla)).dims ≡ get_or b (6 * i) 0
unfolding shape_from
dims_said b i h =
    ap (λ (s : Shape). s.dims) (said_shapes-at 6 b i (omega arith) h)
    ∙ get_or-drop (6 * i) b 0 0
    ∙ ap (λ (k : ℕ). get_or b k 0) (add-zero (6 * i))

-- ---- a list of shapes that is refused by its bytes alone

-- The tests of the bytes alone: 1, then 2.
abbrev pub list_tests : List ℕ → List Test
list_tests b = above_nine (said_shapes 6 b) ∷ not_sixes b ∷ []

-- Their number, by whether each fails.
abbrev one_or_two : Bool → Bool → ℕ
one_or_two a w = cond a 1 (cond w 2 0)

-- Where it is not 0, tests with 2 between the two change nothing.
one_or_two_lem : (a x y z w : Bool) (ts : List Test) → (one_or_two a w ≡ 0 → ⊥) → refusal (record { fails = a; number = 1 } ∷ record { fails = x; number = 2 } ∷ record { fails = y; number = 2 } ∷ record { fails = z; number = 2 } ∷ record { fails = w; number = 2 } ∷ ts) ≡ one_or_two a w
unfolding refusal
one_or_two_lem true x y z w ts h = refl
one_or_two_lem false x y z false ts h = absurd (h refl)
one_or_two_lem false true y z true ts h = refl
one_or_two_lem false false true z true ts h = refl
one_or_two_lem false false false true true ts h = refl
one_or_two_lem false false false false true ts h = refl

-- The same where the first test stands twice.
first_or_two : (a f x w : Bool) → (a ≡ false → f ≡ false) → (one_or_two a w ≡ 0 → ⊥) → refusal (record { fails = a; number = 1 } ∷ record { fails = f; number = 1 } ∷ record { fails = x; number = 2 } ∷ record { fails = w; number = 2 } ∷ []) ≡ one_or_two a w
unfolding refusal
first_or_two true f x w g h = refl
first_or_two false f x false g h = absurd (h refl)
first_or_two false true x true g h = absurd (false≢true (sym (g refl)))
first_or_two false false true true g h = refl
first_or_two false false false true g h = refl

list_number : (b : List ℕ) → refusal (list_tests b) ≡ one_or_two (any_above_nine (said_shapes 6 b)) (not_sixes b).fails
unfolding refusal
list_number b = refl

module _ (b : List ℕ) (e : Refusal) (g : refusal (list_tests b) ≡ number_of e) where
  refused : one_or_two (any_above_nine (said_shapes 6 b)) (not_sixes b).fails ≡ 0 → ⊥
  refused z = refuses e (sym g ∙ list_number b ∙ z)

  write_refused : (xs : List ℕ) (room : ℕ) → refused_list (number_of e) ≡ write_from b xs room
  unfolding write_from
  write_refused xs room =
      let s : refusal (write_from_tests b xs room) ≡ number_of e = one_or_two_lem (any_above_nine (said_shapes 6 b)) _ _ _ (not_sixes b).fails _ refused ∙ sym (list_number b) ∙ g in
      sym (unless_err refused_list (refusal (write_from_tests b xs room)) e (listed (sheet_bytes (sheet_from b xs))) s)

  value_refused : (i : ℕ) → refused_place (number_of e) ≡ value_from b i
  unfolding value_from
  value_refused i =
      let s : refusal (value_from_tests b i) ≡ number_of e = first_or_two (any_above_nine (said_shapes 6 b)) _ _ (not_sixes b).fails (above_take 64 (said_shapes 6 b)) refused ∙ sym (list_number b) ∙ g in
      sym (unless_err refused_place (refusal (value_from_tests b i)) e (record { number = 0; place = placed_at (first_shapes b) i }) s)

  -- The number is returned, and nothing is reported.
  pub write_kept : (n : ℕ) (xs out : List ℕ) (held : ℕ) → n ≡ number_of e → ReportsList (write_from b xs (length out)) n out out held held
  write_kept n xs out held q =
      subst (λ (o : Written ℕ). ReportsList o n out out held held) (write_refused xs (length out)) (record { reports = refused_reported (number_of e) e n refl q; left = refl })

  pub value_kept : (n i : ℕ) (held : List ℕ × ℕ) → n ≡ number_of e → ReportsPlace (value_from b i) n held held
  value_kept n i held q = subst (λ (o : PlaceOutcome). ReportsPlace o n held held) (value_refused i) (refused_reported (number_of e) e n refl q)

-- ---- a list that is not: the record that is made of it is handed on

module _ (b : List ℕ) (e : refusal (list_tests b) ≡ 0) where
  small : any_above_nine (said_shapes 6 b) ≡ false
  small = (past (above_nine (said_shapes 6 b)) _ (λ q. omega arith) e).0

  sixes : (not_sixes b).fails ≡ false
  sixes = (past (not_sixes b) [] (λ q. omega arith) (past (above_nine (said_shapes 6 b)) _ (λ q. omega arith) e).1).0

  pub value_done : (i : ℕ) → value_at (shapes_of (said_shapes 6 b)) i ≡ value_from b i
  unfolding value_at value_from
  value_done i =
      ap (λ (ss : List Shape). unless refused_place (refusal (value_at_tests ss i)) (record { number = 0; place = placed_at ss i })) (listed_first (said_shapes 6 b))
      ∙ ap (λ (k : ℕ). unless refused_place k (record { number = 0; place = placed_at (first_shapes b) i })) (sym (refused_later _ _ small ∙ rest_same (value_at_tests (first_shapes b) i) (not_sixes b ∷ []) [] (λ q. refused_later (not_sixes b) [] sixes)))

  -- Of no more than 64 shapes all are listed.
  few_written : (xs : List ℕ) (room : ℕ) → length (said_shapes 6 b) ≤ 64 → write_sheet (shapes_of (said_shapes 6 b)) xs room ≡ write_from b xs room
  unfolding write_sheet write_from
  few_written xs room h =
      let ss = said_shapes 6 b in
      ap (λ (l : List Shape). unless refused_list (refusal (limits (length ss) l (length xs) ++ (no_room room (length (sheet_bytes (record { shapes = l; patterns = xs }))) ∷ []))) (listed (sheet_bytes (record { shapes = l; patterns = xs })))) (listed-shapes_of ss h)
      ∙ ap (λ (k : ℕ). unless refused_list k (listed (sheet_bytes (sheet_from b xs)))) (rest_same (limits (length ss) ss (length xs)) _ _ (λ q. sym (refused_later (not_sixes b) _ sixes)))

  -- More are refused with 2.
  many_refused : (xs : List ℕ) (room : ℕ) → 64 < length (said_shapes 6 b) → write_sheet (shapes_of (said_shapes 6 b)) xs room ≡ write_from b xs room
  unfolding write_sheet write_from refusal unless
  many_refused xs room h =
      rw (listed_first (said_shapes 6 b), above_take 64 (said_shapes 6 b) small, small, lt-ltb 64 (length (said_shapes 6 b)) h)

  pub write_done : (xs : List ℕ) (room : ℕ) → write_sheet (shapes_of (said_shapes 6 b)) xs room ≡ write_from b xs room
  write_done xs room =
      ⊎_elim (many_refused xs room) (few_written xs room) (split 64 (length (said_shapes 6 b)))

-- ---- a sheet that is read

-- A refused call leaves both outputs as they were.
read_refused : (b : List ℕ) (shapes out : List ℕ) (r : ℕ) {held : List ℕ} → r ≡ refusal (read_from_tests b (length shapes) (length out)) → (r ≡ 0 → ⊥) → ReportsSheet (read_from b (length shapes) (length out)) r shapes shapes out out held held
unfolding read_from all_bytes
read_refused b shapes out r e h =
    rw (unless_refused refused_sheet (refusal (read_from_tests b (length shapes) (length out))) r (a_sheet (said b)) e h)
    (record { reports = kept_reported r h; shapes = refl; left = refl })

-- The tests where the list of shapes has no room: 9, or else 3.
abbrev pub short_tests : List ℕ → List Test
short_tests b = malformed b ∷ record { fails = true; number = 3 } ∷ []

short_number : (t : Bool) → refusal (record { fails = t; number = 9 } ∷ record { fails = true; number = 3 } ∷ []) ≡ 0 → ⊥
unfolding refusal
short_number true e = omega (arith, e)
short_number false e = omega (arith, e)

pub read_short : (b : List ℕ) (shapes out : List ℕ) (r : ℕ) {held : List ℕ} → length shapes < 6 * length (said b).shapes → r ≡ refusal (short_tests b) → ReportsSheet (read_from b (length shapes) (length out)) r shapes shapes out out held held
unfolding refusal
read_short b shapes out r h e =
    read_refused b shapes out r (e ∙ sym (rw (lt-ltb (length shapes) (6 * length (said b).shapes) h))) (λ z. short_number (not (is_sheet_bytes b)) (sym e ∙ z))

tried_number : (b : List ℕ) (room : ℕ) → (read_sheet b room).number ≡ refusal (read_sheet_tests b room)
unfolding read_sheet
tried_number b room = unless_number (λ (o : ReadOutcome). o.number) refused_sheet (refusal (read_sheet_tests b room)) (a_sheet (said b)) refl refl

-- Whether bytes are malformed is told with room for one pattern too.
told : (t u : Bool) (n : ℕ) → (n ≡ 0 → ⊥) → refusal (record { fails = not t; number = 9 } ∷ record { fails = u; number = 3 } ∷ []) ≡ n → n ≡ refusal (record { fails = not t; number = 9 } ∷ record { fails = true; number = 3 } ∷ [])
unfolding refusal
told true true n z e = sym e
told true false n z e = absurd (z (sym e))
told false u n z e = sym e

pub short_err : (b : List ℕ) (e : Refusal) → (read_sheet b 1).number ≡ number_of e → number_of e ≡ refusal (short_tests b)
short_err b e h = told (is_sheet_bytes b) (ltb 1 (length (said b).patterns)) (number_of e) (refuses e) (sym (tried_number b 1) ∙ h)

untold : (t u : Bool) → refusal (record { fails = not t; number = 9 } ∷ record { fails = u; number = 3 } ∷ []) ≡ 0 → 3 ≡ refusal (record { fails = not t; number = 9 } ∷ record { fails = true; number = 3 } ∷ [])
unfolding refusal
untold true u e = refl
untold false u e = absurd (omega (arith, e))

pub short_ok : (b : List ℕ) → (read_sheet b 1).number ≡ 0 → 3 ≡ refusal (short_tests b)
short_ok b h = untold (is_sheet_bytes b) (ltb 1 (length (said b).patterns)) (sym (tried_number b 1) ∙ h)

-- Where the list has room, only the patterns' room is left to test.
from_read : (b : List ℕ) (roomShapes room : ℕ) → 6 * length (said b).shapes ≤ roomShapes → read_sheet b room ≡ read_from b roomShapes room
unfolding read_sheet read_from refusal
from_read b roomShapes room h = rw (le-ltb roomShapes (6 * length (said b).shapes) h)

-- The shapes that are read are no more than a record holds, and have room.
few_shapes : (b : List ℕ) (roomShapes room k : ℕ) → 6 * length (said b).shapes ≤ roomShapes → k ≡ refusal (read_sheet_tests b room) → (length (unless refused_sheet k (a_sheet (said b))).sheet.shapes ≤ 64) × (6 * length (unless refused_sheet k (a_sheet (said b))).sheet.shapes ≤ roomShapes)
unfolding unless
few_shapes b roomShapes room zero h e =
    let t : is_sheet_bytes b ≡ true = not-false _ (past (malformed b) _ (λ q. omega arith) (sym e)).0 in
    (omega (arith, shapes_count b, (well_formed b t).few), h)
few_shapes b roomShapes room (suc k) h e = (omega arith, omega arith)

few_read : (b : List ℕ) (roomShapes room : ℕ) → 6 * length (said b).shapes ≤ roomShapes → (length (read_sheet b room).sheet.shapes ≤ 64) × (6 * length (read_sheet b room).sheet.shapes ≤ roomShapes)
unfolding read_sheet
few_read b roomShapes room h = few_shapes b roomShapes room (refusal (read_sheet_tests b room)) h refl

-- A refused sheet has no shapes.
no_shapes : (b : List ℕ) (room : ℕ) (e : Refusal) → (read_sheet b room).number ≡ number_of e → (read_sheet b room).sheet.shapes ≡ []
unfolding read_sheet
no_shapes b room e h = ap (λ (o : ReadOutcome). o.sheet.shapes) (unless_err refused_sheet (refusal (read_sheet_tests b room)) e (a_sheet (said b)) (sym (tried_number b room) ∙ h))

-- What is read of bytes is reported where it is refused ..
pub sheet_refused : (b : List ℕ) (e : Refusal) (n : ℕ) {beforeShapes before after held : List ℕ} → 6 * length (said b).shapes ≤ length beforeShapes → Reads (read_sheet b (length before)) (Err e) before after → n ≡ number_of e → ReportsSheet (read_from b (length beforeShapes) (length before)) n beforeShapes beforeShapes before after held held
unfolding all_bytes
sheet_refused b e n {beforeShapes} {before} {after} {held} h g q =
    subst (λ (o : ReadOutcome). ReportsSheet o n beforeShapes beforeShapes before after held held) (from_read b (length beforeShapes) (length before) h)
    (record {
      reports = refused_reported (read_sheet b (length before)).number e n g.answered q;
      shapes = rw (no_shapes b (length before) e g.answered) refl;
      left = g.left;
    })

-- .. and where it is not, and its shapes are listed.
pub sheet_reported : (b : List ℕ) (s : SheetRead) (n : Result ℕ Refusal) {beforeShapes afterShapes before after held : List ℕ} → 6 * length (said b).shapes ≤ length beforeShapes → Reads (read_sheet b (length before)) (Ok s) before after → Writes (shape_list s.shapes (length beforeShapes)) n beforeShapes afterShapes → ReportsSheet (read_from b (length beforeShapes) (length before)) 0 beforeShapes afterShapes before after held (s.shapes.count ∷ s.count ∷ [])
sheet_reported b s n {beforeShapes} {afterShapes} {before} {after} {held} h g w =
    let o = read_sheet b (length before) in
    let few = few_read b (length beforeShapes) (length before) h in
    let listing = ap (λ (a : SheetRead). shape_list a.shapes (length beforeShapes)) g.answered.1 ∙ list_whole o.sheet.shapes (length beforeShapes) few.0 few.1 in
    subst (λ (q : ReadOutcome). ReportsSheet q 0 beforeShapes afterShapes before after held (s.shapes.count ∷ s.count ∷ [])) (from_read b (length beforeShapes) (length before) h)
    (record {
      reports = done_reported o.number g.answered.0 (ap (λ (a : SheetRead). a.shapes.count ∷ a.count ∷ []) g.answered.1);
      shapes = w.left ∙ ap (λ (l : Written ℕ). laid l.items beforeShapes) listing;
      left = g.left;
    })

-- ---- what was read is written back

-- Six bytes for each shape pass, and so do dimensions of at most nine.
list_passes : (ss : List Shape) → any_above_nine ss ≡ false → refusal (list_tests (all_bytes shape_bytes ss)) ≡ 0
unfolding refusal
list_passes ss h =
    rw (list_back ss, h, eq-eqb (length (all_bytes shape_bytes ss) % 6) 0 (omega (arith, all_bytes-length shape_bytes 6 shape_bytes-length ss)))

-- Bytes that are read are written again from the list of shapes and the patterns that the reader gave.
pub written_again : (b : List ℕ) (roomShapes room room' : ℕ) → (read_from b roomShapes room).number ≡ 0 → length b ≤ room' → write_from (all_bytes shape_bytes (read_from b roomShapes room).sheet.shapes) (read_from b roomShapes room).sheet.patterns room' ≡ listed b
unfolding read_from
written_again b roomShapes room room' e h =
    let k = sym (unless_number (λ (o : ReadOutcome). o.number) refused_sheet (refusal (read_from_tests b roomShapes room)) (a_sheet (said b)) refl refl) ∙ e in
    let fits = ltb-false _ _ (past _ _ (λ q. omega arith) (past (malformed b) _ (λ q. omega arith) k).1).0 in
    let same = from_read b roomShapes room fits in
    let n : (read_sheet b room).number ≡ 0 = ap (λ (o : ReadOutcome). o.number) same ∙ e in
    rw (sym same) (back n)
  where
    back : (read_sheet b room).number ≡ 0 → write_from (all_bytes shape_bytes (read_sheet b room).sheet.shapes) (read_sheet b room).sheet.patterns room' ≡ listed b
    back n =
        let s = (read_sheet b room).sheet in
        let l = all_bytes shape_bytes s.shapes in
        sym (write_done l (list_passes s.shapes (sheet_within s (sound b room n).0).small) s.patterns room')
        ∙ ap (λ (ss : List Shape). write_sheet (shapes_of ss) s.patterns room') (list_back s.shapes)
        ∙ written_of_read b room room' n h
