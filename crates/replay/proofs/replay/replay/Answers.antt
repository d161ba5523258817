use mathlib.Core.Path.{◌≡◌, sym, ap, ◌∙◌}
use mathlib.Core.Bool.{true}
use mathlib.Core.List.{List}
use Prim.Native.Nat.{ℕ}
use lib.ListN.{length}
use Rattle.std.proofs.lemmas.Result.{err_from_is_err_and}
use Rattle.masks.specs.declared.outcome.Refusal.{Refusal}
use Rattle.masks.specs.declared.outcome.Refusal.TheVariants.{Malformed, NoRoom}
use Rattle.masks.specs.Outcome.{number_of, refusal}
use Rattle.masks.proofs.OutcomeLaws.{refuses}
use Rattle.sheets.specs.declared.read.SheetRead.{SheetRead}
use Rattle.sheets.specs.declared.shapes.Shapes.{Shapes}
use Rattle.sheets.specs.Read.{said, is_sheet_bytes, ReadOutcome, checked, read_of}
use Rattle.sheets.specs.Shapes.{shapes_of}
use Rattle.sheets.proofs.ReadLaws.{accepts, checked_true, checked_cases}
use Rattle.replay.specs.Log.{steps_of, log_tests}
use Rattle.replay.proofs.LogLaws.{accepted, accepted_done, refused_ten}
use Rattle.replay.proofs.RefusedLaws.{Readable, LogAccepted, nine_when, ten_when, three_when, done_when, refused_answers, done_replay}
use Rattle.replay.proofs.replay.replay.Goals as goal

-- What the check refuses is refused with 9, and is no sheet's bytes.
module _ (b : List ℕ) (e : Refusal) (k : (checked b).number ≡ number_of e) where
  nine : number_of e ≡ 9
  nine = sym k ∙ ap (λ (o : ReadOutcome). o.number) (checked_cases b (λ z. refuses e (sym k ∙ z)))

  no_sheet : is_sheet_bytes b ≡ true → ⊥
  no_sheet s = refuses e (sym k ∙ ap (λ (o : ReadOutcome). o.number) (accepts b s))

-- What it gives: r is its answer for the bytes b.
module _ (b : List ℕ) (r : SheetRead) (z : (checked b).number ≡ 0) (e : r ≡ read_of (checked b).sheet) where
  is_sheet : is_sheet_bytes b ≡ true
  is_sheet = checked_true b z

  shapes_are : r.shapes ≡ shapes_of (said b).shapes
  shapes_are = ap (λ (s : SheetRead). s.shapes) (e ∙ ap (λ (o : ReadOutcome). read_of o.sheet) (accepts b is_sheet))

  -- the log was tested with the sheet's count
  tested : (log : List ℕ) → refusal (log_tests r.shapes.count (steps_of log)) ≡ refusal (log_tests (length (said b).shapes) (steps_of log))
  tested log = ap (λ (s : Shapes). refusal (log_tests s.count (steps_of log))) shapes_are

pub returns-then-form-ne-FIRST_FORM : goal.returns-then-form-ne-FIRST_FORM
returns-then-form-ne-FIRST_FORM c =
    let a = c.args in
    let n = length a.out.now in
    refused_answers a.form a.sheet.now a.log.now n Malformed (nine_when a.form a.sheet.now a.log.now n (λ r. c.if-form-ne-FIRST_FORM.true r.first))

pub returns-in_err-shapes : goal.returns-in_err-shapes
returns-in_err-shapes c =
    let a = c.args in
    let b = a.sheet.now in
    let n = length a.out.now in
    let p = err_from_is_err_and c.from_residual.result c.from_residual.ensures.1 in
    let f = c.in_err-shapes in
    rw (p.1, p.2)
    (refused_answers a.form b a.log.now n f.field-0.0 (nine_when a.form b a.log.now n (λ q. no_sheet b f.field-0.0 f.ensures q.bytes) ∙ sym (nine b f.field-0.0 f.ensures)))

pub returns-in_err-log_refusal : goal.returns-in_err-log_refusal
returns-in_err-log_refusal c =
    let a = c.args in
    let b = a.sheet.now in
    let n = length a.out.now in
    let r = c.in_ok-shapes.field-0 in
    let k = c.in_ok-shapes.ensures in
    let f = c.in_err-log_refusal in
    let readable : Readable a.form b = record { first = c.if-form-ne-FIRST_FORM.false; bytes = is_sheet b r k.0 k.1 } in
    let t = sym (tested b r k.0 k.1 a.log.now) ∙ f.ensures in
    let bad : LogAccepted b a.log.now → ⊥ = λ l. refuses f.field-0.0 (sym t ∙ accepted_done _ _ l) in
    let p = err_from_is_err_and c.from_residual-in_err-log_refusal.result c.from_residual-in_err-log_refusal.ensures.1 in
    rw (p.1, p.2)
    (refused_answers a.form b a.log.now n f.field-0.0 (ten_when a.form b a.log.now n readable bad ∙ sym (refused_ten _ _ bad) ∙ t))

pub returns-then-out-lt512 : goal.returns-then-out-lt512
returns-then-out-lt512 c =
    let a = c.args in
    let b = a.sheet.now in
    let n = length a.out.now in
    let r = c.in_ok-shapes.field-0 in
    let k = c.in_ok-shapes.ensures in
    let readable : Readable a.form b = record { first = c.if-form-ne-FIRST_FORM.false; bytes = is_sheet b r k.0 k.1 } in
    let t = sym (tested b r k.0 k.1 a.log.now) ∙ c.in_ok-log_refusal.ensures.0 in
    refused_answers a.form b a.log.now n NoRoom (three_when a.form b a.log.now n readable (accepted _ _ t) c.if-out-lt512.true)

pub run-requires : goal.run-requires
run-requires c =
    let a = c.args in
    let b = a.sheet.now in
    let r = c.in_ok-shapes.field-0 in
    let k = c.in_ok-shapes.ensures in
    (is_sheet b r k.0 k.1, shapes_are b r k.0 k.1, sym (tested b r k.0 k.1 a.log.now) ∙ c.in_ok-log_refusal.ensures.0, c.if-out-lt512.false)

pub returns : goal.returns
returns c =
    let a = c.args in
    let b = a.sheet.now in
    let n = length a.out.now in
    let r = c.in_ok-shapes.field-0 in
    let k = c.in_ok-shapes.ensures in
    let readable : Readable a.form b = record { first = c.if-form-ne-FIRST_FORM.false; bytes = is_sheet b r k.0 k.1 } in
    let t = sym (tested b r k.0 k.1 a.log.now) ∙ c.in_ok-log_refusal.ensures.0 in
    rw (done_replay a.form b a.log.now n (done_when a.form b a.log.now n readable (accepted _ _ t) c.if-out-lt512.false))
    (record { answered = c.run.ensures.0; left = c.run.ensures.1 })
