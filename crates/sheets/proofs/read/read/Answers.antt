use mathlib.Core.Path.{◌≡◌, refl, sym, ap, ap₂, ◌∙◌}
use mathlib.Core.List.{List, map}
use Prim.Native.Nat.{ℕ, ◌+◌, ◌-◌, ◌*◌, ◌/◌, ◌<◌, ◌≤◌}
use native.Mathlib.Nat.{mul-div_cancel_left}
use native.Mathlib.Omega.{arith}
use lib.ListN.{length, take, drop, length-drop}
use lib.Seq.{drop-drop, take_all}
use Rattle.std.specs.Prelude.{Err}
use Rattle.std.proofs.lemmas.Result.{err_from_is_err_and}
use Rattle.masks.specs.declared.outcome.Refusal.{Refusal}
use Rattle.masks.specs.Outcome.{number_of, laid}
use Rattle.masks.proofs.OutcomeLaws.{refuses}
use Rattle.sheets.specs.declared.read.SheetRead.{SheetRead}
use Rattle.sheets.specs.Bytes.{from_little_endian, parts}
use Rattle.sheets.specs.Read.{said, ReadOutcome, read_of, Reads, read_sheet, checked}
use Rattle.sheets.proofs.BytesLaws.{AreBytes}
use Rattle.sheets.proofs.ReadLaws.{shapes_said, patterns_said, patterns_count, WellFormed, checked_cases, checked_well, checked_done, read_malformed, read_no_room, read_done}
use Rattle.sheets.proofs.read.read.Goals as goal

-- what the check refuses is refused, and leaves the output
refused : (b out : List ℕ) (e : Refusal) → (checked b).number ≡ number_of e → Reads (read_sheet b (length out)) (Err e) out out
refused b out e k =
    let h : (checked b).number ≡ 0 → ⊥ = λ q. refuses e (sym k ∙ q) in
    rw (read_malformed b (length out) h) (record { answered = sym (ap (λ (o : ReadOutcome). o.number) (checked_cases b h)) ∙ k; left = refl })

-- the bytes from a place on
take_rest : (b : List ℕ) (m : ℕ) → take (length b - m) (drop m b) ≡ drop m b
take_rest b m = take_all (length b - m) (drop m b) (omega (arith, length-drop m b))

-- ---- what the check found
module _ (b : List ℕ) (r : SheetRead) (bytes : AreBytes b) (z : (checked b).number ≡ 0) (e : r ≡ read_of (checked b).sheet) where
  well : WellFormed b
  well = checked_well b z

  found : r ≡ read_of (said b)
  found = e ∙ ap (λ (o : ReadOutcome). read_of o.sheet) (checked_done b bytes well)

  -- how many patterns it found
  counted : r.count ≡ length (said b).patterns
  counted = ap (λ (s : SheetRead). s.count) found

  -- they are the last bytes
  behind : length b ≡ 2 + 5 * shapes_said b + 4 + 8 * r.count
  behind = omega (arith, well.whole, counted, patterns_count b)

  last : length (drop (length b - 8 * r.count) b) / 8 ≡ r.count
  last =
      let l : length (drop (length b - 8 * r.count) b) ≡ 8 * r.count = omega (arith, length-drop (length b - 8 * r.count) b, behind) in
      ap (λ (k : ℕ). k / 8) l ∙ mul-div_cancel_left r.count (omega arith)

  last_bytes : map from_little_endian (parts 8 (length (drop (length b - 8 * r.count) b) / 8) (drop (length b - 8 * r.count) b)) ≡ (said b).patterns
  unfolding said
  last_bytes =
      let at : length b - 8 * r.count ≡ 2 + 5 * shapes_said b + 4 = omega (arith, behind) in
      ap (λ (k : ℕ). map from_little_endian (parts 8 k (drop (length b - 8 * r.count) b))) (last ∙ counted ∙ patterns_count b)
      ∙ ap (λ (m : ℕ). map from_little_endian (parts 8 (patterns_said b) (drop m b))) at
      ∙ ap (λ (l : List ℕ). map from_little_endian (parts 8 (patterns_said b) l)) (sym (drop-drop 4 (2 + 5 * shapes_said b) b))

pub returns-in_err-sheet : goal.returns-in_err-sheet
returns-in_err-sheet c =
    let p = err_from_is_err_and c.from_residual.result c.from_residual.ensures.1 in
    rw (p.1, p.2) (refused c.args.bytes.now c.args.out.now _ c.in_err-sheet.ensures)

pub returns-then-out-sheet : goal.returns-then-out-sheet
returns-then-out-sheet c =
    let b = c.args.bytes.now in
    let k = c.in_ok-sheet.ensures in
    let n = counted b _ (λ i. omega (arith, c.type_inv.bytes i)) k.0 k.1 in
    rw (read_no_room b (length c.args.out.now) k.0 (omega (arith, n, c.if-out-sheet.true))) (record { answered = refl; left = refl })

pub overflow_sub-at : goal.overflow_sub-at
overflow_sub-at c =
    let k = c.in_ok-sheet.ensures in
    omega (arith, behind c.args.bytes.now _ (λ i. omega (arith, c.type_inv.bytes i)) k.0 k.1)

pub put_patterns-requires : goal.put_patterns-requires
put_patterns-requires c =
    let k = c.in_ok-sheet.ensures in
    let b = c.args.bytes.now in
    omega (arith, ap (λ (l : List ℕ). length l / 8) (take_rest b (length b - 8 * c.in_ok-sheet.sheet.count)), last c.args.bytes.now _ (λ i. omega (arith, c.type_inv.bytes i)) k.0 k.1, c.if-out-sheet.false)

pub returns : goal.returns
returns c =
    let b = c.args.bytes.now in
    let out = c.args.out.now in
    let k = c.in_ok-sheet.ensures in
    let bytes : AreBytes b = λ i. omega (arith, c.type_inv.bytes i) in
    rw (read_done b (length out) k.0 (omega (arith, counted b _ bytes k.0 k.1, c.if-out-sheet.false)))
    (record {
      answered = (refl, found b _ bytes k.0 k.1);
      left = c.put_patterns.ensures ∙ ap (λ (l : List ℕ). laid (map from_little_endian (parts 8 (length l / 8) l)) out) (take_rest b (length b - 8 * c.in_ok-sheet.sheet.count)) ∙ ap (λ (xs : List ℕ). laid xs out) (last_bytes b _ bytes k.0 k.1);
    })
