-- What an exported call returns, and what its references and outputs hold after it. Assumes nothing.
use Rattle.std.specs.Prelude.{◌≡◌, List, [], ◌∷◌, ℕ, Float, ℤ, length}
use Rattle.masks.specs.Text.{Read}
use Rattle.masks.specs.Outcome.{Outcome, Pair, Written, Count, Real, shape_of, unless, laid}
use Rattle.masks.specs.ShapeBytes.{shape_bytes}
use Rattle.product.specs.Products.{Counted}
use Rattle.arithmetic.specs.Compare.{YesNo, Ordered}
use Rattle.arithmetic.specs.Scalar.{Tested}
use Rattle.arithmetic.specs.Kept.{Halves}
use Rattle.sheets.specs.Values.{PlaceOutcome}
use Rattle.replay.specs.Replay.{Replayed}
use Rattle.exports.specs.Numbers.{yes_number, order_number, test_number, real_part, imaginary_part}

-- ---- references

-- A reference holds after a call what is reported; where the call is refused, what it held.
unfoldable pub reported {ℓ} : {A : Type ℓ} → ℕ → A → A → A
reported k x held = unless (λ _. held) k x

-- The call returns the number k, and reports x.
pub record Reports {A : Type 0} (k : ℕ) (x : A) (r : ℕ) (held holds : A) : Type 0 where
  pub returned : r ≡ k
  pub holding : holds ≡ reported k x held

-- ---- what is reported of each kind of outcome: a shape by its six bytes

abbrev pub ReportsCount : Count → ℕ → ℕ → ℕ → Type 0
ReportsCount o = Reports o.number o.count

abbrev pub ReportsNumber : Real → ℕ → Float → Float → Type 0
ReportsNumber o = Reports o.number o.value

-- A flavor is reported as the shape of 0 dimensions.
abbrev pub ReportsFlavor : Read → ℕ → List ℕ → List ℕ → Type 0
ReportsFlavor o = Reports o.number (shape_bytes (shape_of 0 o.flavor))

abbrev pub ReportsYesNo : YesNo → ℕ → ℕ → ℕ → Type 0
ReportsYesNo o = Reports o.number (yes_number o.yes)

abbrev pub ReportsOrder : Ordered → ℕ → ℤ → ℤ → Type 0
ReportsOrder o = Reports o.number (order_number o.order)

abbrev pub ReportsTest : Tested → ℕ → ℕ × List Float → ℕ × List Float → Type 0
ReportsTest o = Reports o.number (test_number o.test, real_part o.test ∷ imaginary_part o.test ∷ [])

abbrev pub ReportsPlace : PlaceOutcome → ℕ → List ℕ × ℕ → List ℕ × ℕ → Type 0
ReportsPlace o = Reports o.number (shape_bytes o.place.shape, o.place.start)

-- ---- with an output, before and after

pub record ReportsValue (o : Outcome) (r : ℕ) (before after : List Float) (held holds : List ℕ) : Type 0 where
  pub reports : Reports o.number (shape_bytes o.shape) r held holds
  pub left : after ≡ laid o.coefs before

pub record ReportsPair (o : Pair) (r : ℕ) (before after beforeRight afterRight : List Float) (held holds : List ℕ × List ℕ) : Type 0 where
  pub reports : Reports o.number (shape_bytes o.left_shape, shape_bytes o.right_shape) r held holds
  pub left : after ≡ laid o.left_coefs before
  pub right : afterRight ≡ laid o.right_coefs beforeRight

pub record ReportsProduct (o : Counted) (r : ℕ) (before after : List Float) (held holds : List ℕ × ℕ) : Type 0 where
  pub reports : Reports o.outcome.number (shape_bytes o.outcome.shape, o.pairs) r held holds
  pub left : after ≡ laid o.outcome.coefs before

pub record ReportsTaken (o : Halves) (r : ℕ) (before after : List Float) (held holds : List ℕ × Float) : Type 0 where
  pub reports : Reports o.outcome.number (shape_bytes o.outcome.shape, o.scalar) r held holds
  pub left : after ≡ laid o.outcome.coefs before

pub record ReportsList {A : Type 0} (o : Written A) (r : ℕ) (before after : List A) (held holds : ℕ) : Type 0 where
  pub reports : Reports o.number (length o.items) r held holds
  pub left : after ≡ laid o.items before

pub record ReportsReplay (o : Replayed) (r : ℕ) (before after : List Float) (held holds : List ℕ × List ℕ) : Type 0 where
  pub reports : Reports o.pose.number (shape_bytes o.pose.shape, o.steps ∷ o.stopped ∷ []) r held holds
  pub left : after ≡ laid o.pose.coefs before
