-- The laws of `*`, applied to a value of two dimensions times a scalar, for each flavor, so that none of them speaks of nothing. Assumes nothing.
use mathlib.Core.Path.{◌≡◌, refl, ap, ◌∙◌}
use mathlib.Core.Bool.{true, false}
use mathlib.Core.List.{List, [], ◌∷◌}
use Prim.Native.Nat.{ℕ, zero, suc, ◌+◌, ◌*◌, ◌^◌, ◌≤◌, ◌<◌}
use native.Mathlib.Omega.{arith}
use lib.Dec.{lit≤}
use lib.Ieee.{Float, nan, fin, round, eq, mul, fits}
use lib.IntN.{pos, negsuc}
use lib.ListN.{get_or}
use Rattle.masks.specs.declared.flavor.Flavor.{Flavor}
use Rattle.masks.specs.declared.shape.Shape.{Shape}
use Rattle.masks.specs.Outcome.{Outcome, shape_of}
use Rattle.product.specs.declared.mode.Mode.TheVariants.{All}
use Rattle.product.specs.Accuracy.{exact_size_at, exact_sizes, exact_sum, Holds, Fitting, times, InBounds, LiesWithin, ExactCase, IsExactly, EqualNumbers}
use Rattle.arithmetic.specs.Scalar.{is_scalar, all_zero}
use Rattle.arithmetic.specs.Scale.{scaled}
use Rattle.arithmetic.specs.Operators.{multiplication}
use Rattle.arithmetic.proofs.ScalarLaws.{scalar_at, if_scalar_lem}
use Rattle.arithmetic.proofs.OperatorsLaws.{multiply_same}
use Rattle.arithmetic.proofs.AccuracyLaws.{scalar_sizes, star_bound, star_exact, star_agrees}

-- ---- the values

-- 1.5, -2, 0.25 and 3
a : List Float
a = fin false 3 (negsuc 0) ∷ fin true 1 (pos 1) ∷ fin false 1 (negsuc 1) ∷ fin false 3 (pos 0) ∷ []

-- 0.1, 0, 0 and 0
tenth : List Float
tenth = fin false 3602879701896397 (negsuc 54) ∷ fin false 0 (pos 0) ∷ fin false 0 (pos 0) ∷ fin false 0 (pos 0) ∷ []

-- 0.75, 0, 0 and -0
quarters : List Float
quarters = fin false 3 (negsuc 1) ∷ fin false 0 (pos 0) ∷ fin false 0 (pos 0) ∷ fin true 0 (pos 0) ∷ []

-- ---- their premises

-- What holds of four places holds below 4.
four : (P : ℕ → Type 0) → P 0 → P 1 → P 2 → P 3 → (i : ℕ) → i < 4 → P i
four P x y z w zero h = x
four P x y z w (suc zero) h = y
four P x y z w (suc (suc zero)) h = z
four P x y z w (suc (suc (suc zero))) h = w
four P x y z w (suc (suc (suc (suc i)))) h = absurd (omega arith)

a_holds : Holds 2 a
unfolding a fits
a_holds = record { many = refl; held = four _ tt tt tt tt }

tenth_holds : Holds 2 tenth
unfolding tenth fits
tenth_holds = record { many = refl; held = four _ tt tt tt tt }

quarters_holds : Holds 2 quarters
unfolding quarters fits
quarters_holds = record { many = refl; held = four _ tt tt tt tt }

a_bounds : InBounds 2 a
unfolding a
a_bounds = four _ (lit≤ tt, lit≤ tt) (lit≤ tt, lit≤ tt) (lit≤ tt, lit≤ tt) (lit≤ tt, lit≤ tt)

tenth_bounds : InBounds 2 tenth
unfolding tenth
tenth_bounds = four _ (lit≤ tt, lit≤ tt) tt tt tt

tenth_scalar : is_scalar tenth ≡ true
unfolding tenth is_scalar all_zero eq
tenth_scalar = refl

quarters_scalar : is_scalar quarters ≡ true
unfolding quarters is_scalar all_zero eq
quarters_scalar = refl

quarters_small : (k : ℕ) → k < 4 → exact_size_at 2 a k * exact_size_at 2 quarters 0 ≤ 2 ^ 53
unfolding a quarters
quarters_small = four _ (lit≤ tt) (lit≤ tt) (lit≤ tt) (lit≤ tt)

module _ (f : Flavor) where
  abbrev plane : Shape
  plane = shape_of 2 f

  -- The output has room for a value, and no more.
  fitting : Fitting plane 4
  fitting = record { small = lit≤ tt; roomy = lit≤ tt }

  exact_case_lem : ExactCase All f 2 a quarters
  unfolding a quarters
  exact_case_lem =
      record {
        p = 2;
        q = 2;
        fine = lit≤ tt;
        left = four _ (refl, refl) (refl, refl) (refl, refl) (refl, refl);
        right = four _ (refl, refl) (refl, refl) (refl, refl) (refl, refl);
        small = λ k h. rw (scalar_sizes f 2 a quarters k h (scalar_at quarters quarters_scalar) 2 2) (quarters_small k h);
      }

  -- ---- the laws

  -- By a scalar n is 1.
  bounded : (k : ℕ) → k < 4
      → LiesWithin (get_or (multiplication plane plane a tenth 4).coefs k nan) (2 * exact_sizes All f 2 k 452 452 a tenth + 2 ^ 53 * 2 ^ 858)
      (exact_sum All f 2 k 452 452 a tenth)
  bounded k h = rw tenth_scalar at (star_bound plane 4 fitting a tenth a_holds tenth_holds a_bounds tenth_bounds k h)

  exactly : (k : ℕ) → k < 4 → IsExactly 4 (get_or (multiplication plane plane a quarters 4).coefs k nan) (exact_sum All f 2 k 2 2 a quarters)
  unfolding exact_case_lem
  exactly = star_exact plane 4 fitting a quarters a_holds quarters_holds exact_case_lem

  agrees : EqualNumbers 2 (multiplication plane plane a quarters 4).coefs (times plane 4 a quarters)
  agrees = star_agrees plane 4 fitting a quarters a_holds quarters_holds exact_case_lem

  -- The product is 1.125, -1.5, 0.1875 and 2.25.
  worked : (multiplication plane plane a quarters 4).coefs ≡ fin false 9 (negsuc 2) ∷ fin true 3 (negsuc 0) ∷ fin false 3 (negsuc 3) ∷ fin false 9 (negsuc 1) ∷ []
  worked =
      ap (λ (o : Outcome). o.coefs) (multiply_same plane a quarters 4 (record { small = lit≤ tt; counted = a_holds.many; roomy = lit≤ tt }) quarters_holds.many)
      ∙ if_scalar_lem plane quarters (λ x. scaled x a) _ quarters_scalar
      ∙ unfold scaled eq mul round a quarters in refl
