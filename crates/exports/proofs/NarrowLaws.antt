-- A contract of each kind leaves nothing open: what is returned, reported and written is one. And a refusal reports nothing. Assumes nothing.
use mathlib.Core.Path.{◌≡◌, sym, ap, ◌∙◌}
use mathlib.Core.List.{List, [], map}
use Prim.Native.Nat.{ℕ, zero, suc, ◌^◌}
use lib.Ieee.{Float}
use Rattle.masks.specs.Order.{order, place, up_from}
use Rattle.masks.specs.Outcome.{Outcome, Pair, Written, unless, laid}
use Rattle.product.specs.Products.{Counted}
use Rattle.arithmetic.specs.Kept.{Halves}
use Rattle.sheets.specs.Read.{ReadOutcome}
use Rattle.replay.specs.Replay.{Replayed}
use Rattle.exports.specs.Reports.{reported, Reports, ReportsValue, ReportsPair, ReportsProduct, ReportsTaken, ReportsList, ReportsReplay}
use Rattle.exports.specs.Order.{ReportsOrderOf}
use Rattle.exports.specs.Sheet.{ReportsSheet}

-- A refused call leaves its references as they were.
pub refused_keeps : {A : Type 0} (k : ℕ) {x : A} {r : ℕ} {held holds : A} → (r ≡ 0 → ⊥) → Reports k x r held holds → holds ≡ held
unfolding reported unless
refused_keeps zero h t = absurd (h t.returned)
refused_keeps (suc k) h t = t.holding

-- ---- of two ways to meet one contract, what is returned, reported and written is the same

pub one_reported : {A : Type 0} {k : ℕ} {x : A} {r s : ℕ} {held holds keeps : A} → Reports k x r held holds → Reports k x s held keeps → (r ≡ s) × (holds ≡ keeps)
one_reported t u = (t.returned ∙ sym u.returned, t.holding ∙ sym u.holding)

pub one_value : {o : Outcome} {r s : ℕ} {before after other : List Float} {held holds keeps : List ℕ} → ReportsValue o r before after held holds → ReportsValue o s before other held keeps → (r ≡ s) × (holds ≡ keeps) × (after ≡ other)
one_value t u = let q = one_reported t.reports u.reports in (q.0, q.1, t.left ∙ sym u.left)

pub one_pair : {o : Pair} {r s : ℕ} {before after other beforeRight afterRight otherRight : List Float} {held holds keeps : List ℕ × List ℕ} → ReportsPair o r before after beforeRight afterRight held holds → ReportsPair o s before other beforeRight otherRight held keeps → (r ≡ s) × (holds ≡ keeps) × (after ≡ other) × (afterRight ≡ otherRight)
one_pair t u = let q = one_reported t.reports u.reports in (q.0, q.1, t.left ∙ sym u.left, t.right ∙ sym u.right)

pub one_product : {o : Counted} {r s : ℕ} {before after other : List Float} {held holds keeps : List ℕ × ℕ} → ReportsProduct o r before after held holds → ReportsProduct o s before other held keeps → (r ≡ s) × (holds ≡ keeps) × (after ≡ other)
one_product t u = let q = one_reported t.reports u.reports in (q.0, q.1, t.left ∙ sym u.left)

pub one_taken : {o : Halves} {r s : ℕ} {before after other : List Float} {held holds keeps : List ℕ × Float} → ReportsTaken o r before after held holds → ReportsTaken o s before other held keeps → (r ≡ s) × (holds ≡ keeps) × (after ≡ other)
one_taken t u = let q = one_reported t.reports u.reports in (q.0, q.1, t.left ∙ sym u.left)

pub one_list : {A : Type 0} {o : Written A} {r s : ℕ} {before after other : List A} {held holds keeps : ℕ} → ReportsList o r before after held holds → ReportsList o s before other held keeps → (r ≡ s) × (holds ≡ keeps) × (after ≡ other)
one_list t u = let q = one_reported t.reports u.reports in (q.0, q.1, t.left ∙ sym u.left)

pub one_replay : {o : Replayed} {r s : ℕ} {before after other : List Float} {held holds keeps : List ℕ × List ℕ} → ReportsReplay o r before after held holds → ReportsReplay o s before other held keeps → (r ≡ s) × (holds ≡ keeps) × (after ≡ other)
one_replay t u = let q = one_reported t.reports u.reports in (q.0, q.1, t.left ∙ sym u.left)

pub one_sheet : {o : ReadOutcome} {r s : ℕ} {beforeShapes afterShapes otherShapes before after other held holds keeps : List ℕ} → ReportsSheet o r beforeShapes afterShapes before after held holds → ReportsSheet o s beforeShapes otherShapes before other held keeps → (r ≡ s) × (holds ≡ keeps) × (afterShapes ≡ otherShapes) × (after ≡ other)
one_sheet t u = let q = one_reported t.reports u.reports in (q.0, q.1, t.shapes ∙ sym u.shapes, t.left ∙ sym u.left)

pub one_order : {d r s : ℕ} {before after other beforeRight afterRight otherRight : List ℕ} {held holds keeps : ℕ} → ReportsOrderOf d r before after beforeRight afterRight held holds → ReportsOrderOf d s before other beforeRight otherRight held keeps → (r ≡ s) × (holds ≡ keeps) × (after ≡ other) × (afterRight ≡ otherRight)
one_order {d} {before = before} {beforeRight = beforeRight} t u =
    let q = one_reported t.reports u.reports in (
      q.0,
      q.1,
      t.left ∙ ap (λ (k : ℕ). laid (unless (λ _. []) k (order d)) before) q.0 ∙ sym u.left,
      t.right ∙ ap (λ (k : ℕ). laid (unless (λ _. []) k (map (place d) (up_from 0 (2 ^ d)))) beforeRight) q.0 ∙ sym u.right,
    )
