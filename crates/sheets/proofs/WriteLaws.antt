-- Where the writer refuses, and that it writes the sheet's bytes: its tests one after the other, and its parts one after the other. Assumes nothing.
use mathlib.Core.Path.{◌≡◌, refl, ap, ◌∙◌}
use mathlib.Core.List.{List, [], ◌∷◌, ◌++◌}
use Prim.Native.Nat.{ℕ, ◌+◌, ◌*◌, ◌≤◌}
use native.Mathlib.Omega.{arith}
use lib.ListN.{length, length-append}
use lib.Seq.{sets}
use borrow.Author.Tests.{ltb-false}
use Rattle.masks.specs.declared.shape.Shape.{Shape}
use Rattle.masks.specs.Outcome.{laid, refusal, no_room}
use Rattle.masks.proofs.ListLaws.{sets_laid}
use Rattle.masks.proofs.OutcomeLaws.{past, fewer_pass, rest_same}
use Rattle.masks.proofs.TextLaws.{sets_more}
use Rattle.sheets.specs.declared.shapes.Shapes.{Shapes}
use Rattle.sheets.specs.Bytes.{little_endian, all_bytes, section}
use Rattle.sheets.specs.Format.{shape_in, pattern_bytes, sheet_bytes, limits}
use Rattle.sheets.specs.Shapes.{listed_shapes}
use Rattle.sheets.specs.Write.{sheet_of, write_sheet_tests}
use Rattle.sheets.proofs.BytesLaws.{little_endian-length, all_bytes-length}
use Rattle.sheets.proofs.ShapesLaws.{listed_length}
use Rattle.sheets.proofs.FormatLaws as format
use Rattle.sheets.proofs.FormatLaws.{Within, five_length, sheet_bytes-length}

-- ---- refusals

-- the count of bytes that is tested is that of the sheet's bytes, where the tests before it pass
pub room_same : (s : Shapes) (xs : List ℕ) (room : ℕ) → length s.held ≡ 64 → refusal (limits s.count (listed_shapes s) (length xs) ++ (no_room room (6 + 5 * s.count + 8 * length xs) ∷ [])) ≡ refusal (write_sheet_tests s xs room)
room_same s xs room e =
    rest_same (limits s.count (listed_shapes s) (length xs)) _ _
    (λ p. ap (λ (k : ℕ). refusal (no_room room k ∷ [])) (size (format.within s.count (listed_shapes s) (length xs) p).few))
  where
    size : s.count ≤ 64 → 6 + 5 * s.count + 8 * length xs ≡ length (sheet_bytes (sheet_of s xs))
    size h = omega (arith, listed_length s e h, sheet_bytes-length (sheet_of s xs))

-- what holds where the writer does not refuse
pub record Writable (s : Shapes) (xs : List ℕ) (room : ℕ) : Type 0 where
  pub within : Within s.count (listed_shapes s) (length xs)
  pub roomy : 6 + 5 * s.count + 8 * length xs ≤ room

pub writable : (s : Shapes) (xs : List ℕ) (room : ℕ) → refusal (limits s.count (listed_shapes s) (length xs) ++ (no_room room (6 + 5 * s.count + 8 * length xs) ∷ [])) ≡ 0 → Writable s xs room
writable s xs room e =
    let p = past _ _ (λ z. omega arith) e in
    let q = past _ _ (λ z. omega arith) p.1 in
    let r = past _ _ (λ z. omega arith) q.1 in
    let t = past _ _ (λ z. omega arith) r.1 in
    record {
      within = format.within s.count (listed_shapes s) (length xs) (fewer_pass (limits s.count (listed_shapes s) (length xs)) _ e);
      roomy = ltb-false _ _ (past _ _ (λ z. omega arith) t.1).0;
    }

-- ---- bytes

-- the four parts, written one after the other, are the sheet
pub written : (ss : List Shape) (xs out : List ℕ) → 6 + 5 * length ss + 8 * length xs ≤ length out → sets (sets (sets (sets out 0 (little_endian 2 (length ss))) 2 (all_bytes (shape_in 5) ss)) (2 + 5 * length ss) (little_endian 4 (length xs))) (6 + 5 * length ss) (all_bytes pattern_bytes xs) ≡ laid (sheet_bytes (record { shapes = ss; patterns = xs })) out
unfolding sheet_bytes section
written ss xs out h =
    let a = little_endian 2 (length ss) in
    let b = all_bytes (shape_in 5) ss in
    let c = little_endian 4 (length xs) in
    let d = all_bytes pattern_bytes xs in
    let two = little_endian-length 2 (length ss) in
    let l = sets (sets out 0 a) 2 b in
    let e : 2 + 5 * length ss ≡ 0 + length (a ++ b) = omega (arith, length-append a b, two, all_bytes-length (shape_in 5) 5 five_length ss) in
    let f : 6 + 5 * length ss ≡ 2 + 5 * length ss + length c = omega (arith, little_endian-length 4 (length xs)) in
    sets_more out (a ++ b) (c ++ d) 0 (2 + 5 * length ss) (sets_more out a b 0 2 refl (omega (arith, two)) refl) e
    (sets_more l c d (2 + 5 * length ss) (6 + 5 * length ss) refl f refl)
    ∙ sets_laid (a ++ b ++ (c ++ d)) out (omega (arith, sheet_bytes-length (record { shapes = ss; patterns = xs })))
