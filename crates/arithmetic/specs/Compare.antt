-- Equality and order, as the reference has them. Assumes nothing.
use Rattle.std.specs.Prelude.{Bool, true, false, ◌&&◌, ◌||◌, cond, List, [], ◌∷◌, ℕ, ltb, Float, length}
use Rattle.std.specs.Float.Ieee.{eq, lt, is_nan}
use Rattle.std.specs.declared.cmp.Ordering.{Ordering}
use Rattle.std.specs.declared.cmp.Ordering.TheVariants.{Less, Equal, Greater}
use Rattle.masks.specs.declared.shape.Shape.{Shape}
use Rattle.masks.specs.Outcome.{Test, refusal, too_many, wrong_count, unless}
use Rattle.arithmetic.specs.declared.scalar.ScalarTest.{ScalarTest}
use Rattle.arithmetic.specs.Scalar.{test_of, if_scalar}

-- The tests of a comparison.
abbrev pub compared_tests : Shape → Shape → List Float → List Float → List Test
compared_tests s t a b = too_many s.dims ∷ too_many t.dims ∷ wrong_count (length a) s.dims ∷ wrong_count (length b) t.dims ∷ []

-- ---- equality

-- Both scalar answers agree; two non-scalars both answer none.
unfoldable pub answers_agree : ScalarTest → ScalarTest → Bool
answers_agree t u = if_scalar t (λ x. if_scalar u (eq x) false) (if_scalar u (λ y. false) true)

-- NaN is equal to NaN.
unfoldable pub same_number : Float → Float → Bool
same_number x y = eq x y || (is_nan x && is_nan y)

-- Same count, places equal.
unfoldable pub same_places : List Float → List Float → Bool
same_places [] [] = true
same_places [] (y ∷ b) = false
same_places (x ∷ a) [] = false
same_places (x ∷ a) (y ∷ b) = same_number x y && same_places a b

-- A yes or no.
pub record YesNo : Type 0 where
  pub number : ℕ
  pub yes : Bool

-- A refusal has its number, and no.
abbrev pub refused_yes_no : ℕ → YesNo
refused_yes_no k = record { number = k; yes = false }

-- `==` as the reference has it.
unfoldable pub equals : Shape → Shape → List Float → List Float → YesNo
equals s t a b =
    unless refused_yes_no (refusal (compared_tests s t a b))
    (record { number = 0; yes = answers_agree (test_of s a) (test_of t b) || same_places a b })

-- ---- order

-- NaN is greatest.
unfoldable pub compared_nans : Float → Float → Ordering
compared_nans x y = cond (is_nan x) (cond (is_nan y) Equal Greater) (cond (is_nan y) Less Equal)

-- Numbers are compared as such.
unfoldable pub compared_numbers : Float → Float → Ordering
compared_numbers x y = cond (lt x y) Less (cond (lt y x) Greater (compared_nans x y))

-- The first that is not equal decides.
abbrev pub or_else : Ordering → Ordering → Ordering
or_else Less o = Less
or_else Equal o = o
or_else Greater o = Greater

-- By the first place that differs.
unfoldable pub compared_places : List Float → List Float → Ordering
compared_places [] b = Equal
compared_places (x ∷ a) [] = Equal
compared_places (x ∷ a) (y ∷ b) = or_else (compared_numbers x y) (compared_places a b)

-- By count.
unfoldable pub compared_counts : ℕ → ℕ → Ordering
compared_counts m n = cond (ltb m n) Less (cond (ltb n m) Greater Equal)

-- By count, then the first place that differs.
abbrev pub compared_lists : List Float → List Float → Ordering
compared_lists a b = or_else (compared_counts (length a) (length b)) (compared_places a b)

-- An order.
pub record Ordered : Type 0 where
  pub number : ℕ
  pub order : Ordering

-- A refusal has its number, and equal.
abbrev pub refused_ordered : ℕ → Ordered
refused_ordered k = record { number = k; order = Equal }

-- On scalars numeric; else by the lists.
unfoldable pub compared_by : ScalarTest → ScalarTest → List Float → List Float → Ordering
compared_by t u a b = if_scalar t (λ x. if_scalar u (compared_numbers x) (compared_lists a b)) (compared_lists a b)

-- `cmp` as the reference has it.
unfoldable pub compared : Shape → Shape → List Float → List Float → Ordered
compared s t a b =
    unless refused_ordered (refusal (compared_tests s t a b)) (record { number = 0; order = compared_by (test_of s a) (test_of t b) a b })
