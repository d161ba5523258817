use mathlib.Core.Path.{◌≡◌, refl, sym, ap, ◌∙◌}
use mathlib.Core.List.{List, [], ◌∷◌, ◌++◌}
use Prim.Native.Nat.{ℕ, ◌+◌, ◌*◌, ◌≤◌}
use native.Mathlib.Omega.{arith}
use lib.ListN.{length}
use lib.Seq.{sets}
use Rattle.std.proofs.Common.{rules}
use Rattle.std.proofs.lemmas.Result.{err_from_is_err_and}
use Rattle.masks.specs.Outcome.{laid}
use Rattle.masks.specs.ShapeBytes.{shape_bytes}
use Rattle.masks.proofs.OutcomeLaws.{writes_refused, writes_done}
use Rattle.sheets.specs.declared.shapes.Shapes.{Shapes}
use Rattle.sheets.specs.Bytes.{little_endian, all_bytes}
use Rattle.sheets.specs.Format.{shape_in, pattern_bytes, sheet_bytes}
use Rattle.sheets.specs.Shapes.{listed_shapes}
use Rattle.sheets.specs.Write.{sheet_of, write_sheet}
use Rattle.sheets.proofs.BytesLaws.{little_endian-length, whole_bytes}
use Rattle.sheets.proofs.FormatLaws.{sheet_bytes-length}
use Rattle.sheets.proofs.WriteLaws.{Writable, writable, room_same, written}
use Rattle.sheets.proofs.ShapesLaws.{listed_length, padded_first, padded_length}
use Rattle.sheets.proofs.write.write.Goals.{In_ok-write_refusal}
use Rattle.sheets.proofs.write.write.Goals as goal

-- the four parts, each written on what the one before it left
parts : (s : Shapes) (xs out : List ℕ) → length (listed_shapes s) ≡ s.count → 6 + 5 * s.count + 8 * length xs ≤ length out → {a b c d : List ℕ} → a ≡ sets out 0 (little_endian 2 s.count) → b ≡ sets a 2 (all_bytes (shape_in 5) (listed_shapes s)) → c ≡ sets b (2 + 5 * s.count) (little_endian 4 (length xs)) → d ≡ sets c (6 + 5 * s.count) (all_bytes pattern_bytes xs) → d ≡ laid (sheet_bytes (sheet_of s xs)) out
parts s xs out e h p q r t = rw (t, r, q, p) (rw e at (written (listed_shapes s) xs out (rw e h)))

pub returns-in_err-write_refusal : goal.returns-in_err-write_refusal
unfolding write_sheet
returns-in_err-write_refusal c =
    let a = c.args in
    let p = err_from_is_err_and c.from_residual.result c.from_residual.ensures.1 in
    let k = sym (room_same a.shapes a.patterns.now (length a.out.now) (omega arith)) ∙ c.in_err-write_refusal.ensures in
    rw (p.1, p.2) (writes_refused _ _ _ a.out.now k)

-- what holds where no test fails
fits : (c : In_ok-write_refusal) → Writable c.args.shapes c.args.patterns.now (length c.args.out.now)
fits c =
    let a = c.args in
    writable a.shapes a.patterns.now (length a.out.now) c.in_ok-write_refusal.ensures.0

pub put_number-requires : goal.put_number-requires
put_number-requires c = (omega arith, omega (arith, (fits (goal.at.put_number-requires c).In_ok-write_refusal).roomy))

pub put_bytes-requires-clause-room : goal.put_bytes-requires-clause-room
put_bytes-requires-clause-room c =
    let w = fits (goal.at.put_bytes-requires-clause-room c).In_ok-write_refusal in
    let n = ap length c.listed.ensures ∙ listed_length c.args.shapes (omega arith) w.within.few in
    omega (arith, w.roomy, c.put_number.auto.out, n)

pub overflow_mul-n : goal.overflow_mul-n
overflow_mul-n c = omega (arith, (fits (goal.at.overflow_mul-n c).In_ok-write_refusal).within.few)

pub overflow_add-n : goal.overflow_add-n
overflow_add-n c = omega (arith, (fits (goal.at.overflow_add-n c).In_ok-write_refusal).within.few)

pub put_number-requires-2 : goal.put_number-requires-2
put_number-requires-2 c =
    (omega arith, omega (arith, (fits (goal.at.put_number-requires-2 c).In_ok-write_refusal).roomy, c.put_number.auto.out, c.put_bytes.auto.out))

pub overflow_mul-n-2 : goal.overflow_mul-n-2
overflow_mul-n-2 c = omega (arith, (fits (goal.at.overflow_mul-n-2 c).In_ok-write_refusal).within.few)

pub overflow_add-n-2 : goal.overflow_add-n-2
overflow_add-n-2 c = omega (arith, (fits (goal.at.overflow_add-n-2 c).In_ok-write_refusal).within.few)

pub put_bytes-requires-2-clause-room : goal.put_bytes-requires-2-clause-room
put_bytes-requires-2-clause-room c =
    omega (arith, (fits (goal.at.put_bytes-requires-2-clause-room c).In_ok-write_refusal).roomy, c.put_number.auto.out, c.put_bytes.auto.out, c.put_number-2.auto.out)

pub sheet_size-requires : goal.sheet_size-requires
sheet_size-requires c =
    let w = fits (goal.at.sheet_size-requires c).In_ok-write_refusal in
    (w.within.few, w.within.limited)

pub returns : goal.returns
unfolding write_sheet
returns c =
    let a = c.args in
    let w = fits (goal.at.returns c).In_ok-write_refusal in
    let held : length a.shapes.held ≡ 64 = omega arith in
    let e = listed_length a.shapes held w.within.few in
    let k : c.sheet_size.result ≡ length (sheet_bytes (sheet_of a.shapes a.patterns.now)) = omega (arith, c.sheet_size.ensures, e, sheet_bytes-length (sheet_of a.shapes a.patterns.now)) in
    let shapes =
    c.put_bytes.ensures (λ v. shape_bytes v ++ 0 ∷ 0 ∷ []) (λ i d y h r. search rules) padded_length
    ∙ ap (sets c.put_number.new.out 2) (padded_first 5 (omega arith) c.listed.result.now ∙ ap (all_bytes (shape_in 5)) c.listed.ensures) in
    let patterns =
    c.put_bytes-2.ensures (little_endian 8) (λ i d y h r. search rules) (little_endian-length 8)
    ∙ ap (sets c.put_number-2.new.out (6 + 5 * a.shapes.count)) (whole_bytes 8 a.patterns.now) in
    writes_done _ _ c.sheet_size.result a.out.now _ (sym (room_same a.shapes a.patterns.now (length a.out.now) held) ∙ c.in_ok-write_refusal.ensures.0) refl k
    (parts a.shapes a.patterns.now a.out.now e w.roomy c.put_number.ensures shapes c.put_number-2.ensures patterns)
