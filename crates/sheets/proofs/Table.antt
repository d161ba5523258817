-- Document 01's worked table: its starred lines, in one table with one proof, which computes them; and the line of the sheet. Assumes nothing.
use mathlib.Core.Path.{◌≡◌, refl}
use mathlib.Core.Bool.{true, false}
use mathlib.Core.List.{List, [], ◌∷◌, ◌++◌}
use Prim.Native.Nat.{ℕ}
use lib.Count.{ones, ones_in}
use lib.Ieee.{Float, fin, neg, add, mul, of_int, round, eq, lt, is_nan, binary64, to_bits}
use lib.IntN.{pos, negsuc, pow, one}
use lib.ListN.{replicate}
use Rattle.std.specs.declared.cmp.Ordering.TheVariants.{Greater}
use Rattle.clifford.specs.Blade.{has, count}
use Rattle.clifford.specs.Sign.{sign}
use Rattle.clifford.specs.Metric.{swaps, shared, turned, metric}
use Rattle.clifford.specs.Sum.{total}
use Rattle.clifford.specs.Pairs.{within, pairs}
use Rattle.rounding.specs.Snap.{snap}
use Rattle.masks.specs.declared.flavor.Flavor.TheVariants.{Vanilla, Projective, Cl}
use Rattle.masks.specs.declared.shape.Shape.{Shape}
use Rattle.masks.specs.Flavor.{metric_of}
use Rattle.masks.specs.Order.{order, grades_below, grade, index_of, place, start, size}
use Rattle.masks.specs.Outcome.{shape_of, value, unless, refusal, nought}
use Rattle.masks.specs.Shape.{coef, negates, resized, set_dims, promotes, promoted, set_flavor, conform, conformed, conformed_shape}
use Rattle.masks.specs.Build.{blades_of_side, packing, spread}
use Rattle.masks.specs.Text.{same}
use Rattle.masks.specs.ShapeBytes.{shape_from}
use Rattle.product.specs.Mode.{takes, flavor_for, pair_metric}
use Rattle.product.specs.Pairwise.{metric_at, place_at, pairs_of, term, add_pair, inside, sums, product}
use Rattle.product.specs.Products.{Counted, multiplied, general_product}
use Rattle.arithmetic.specs.Scale.{unity}
use Rattle.arithmetic.specs.Scalar.{all_zero, is_scalar, is_planar, test_of, if_scalar}
use Rattle.arithmetic.specs.Compare.{answers_agree, equals, compared_nans, compared_numbers, compared_places, compared_counts, compared_by, compared}
use Rattle.sheets.specs.Bytes.{little_endian, from_little_endian, all_bytes, section, parts}
use Rattle.sheets.specs.Format.{Sheet, sheet_bytes, any_above_nine, blade_total}
use Rattle.sheets.specs.Read.{said, is_sheet_bytes, a_sheet, read_sheet}

-- 5 and 7; `fraction k` is 2 to the -(k + 1)
abbrev five : Float
five = fin false 5 (pos 0)

abbrev seven : Float
seven = fin false 7 (pos 0)

abbrev fraction : ℕ → Float
fraction k = fin false 1 (negsuc k)

-- `only n x k` has x at place n, and +0 at the n places before and the k places after it
abbrev only : ℕ → Float → ℕ → List Float
only n x k = replicate n nought ++ x ∷ replicate k nought

-- a general product that is done has its value and its number of pairs
abbrev done : Shape → List Float → ℕ → Counted
done s xs n = record { outcome = value s xs; pairs = n }

-- The starred lines, in document 01's order.
pub record Rows : Type 0 where
  pub order_of_3 : order 3 ≡ 0 ∷ 1 ∷ 2 ∷ 4 ∷ 3 ∷ 5 ∷ 6 ∷ 7 ∷ []
  pub order_of_4 : order 4 ≡ 0 ∷ 1 ∷ 2 ∷ 4 ∷ 8 ∷ 3 ∷ 5 ∷ 9 ∷ 6 ∷ 10 ∷ 12 ∷ 7 ∷ 11 ∷ 13 ∷ 14 ∷ 15 ∷ []
  pub e1_e2 : general_product (shape_of 2 Vanilla) (shape_of 2 Vanilla) (only 1 unity 2) (only 2 unity 1) 4 ≡ done (shape_of 2 Vanilla) (only 3 unity 0) 16
  pub e2_e1 : general_product (shape_of 2 Vanilla) (shape_of 2 Vanilla) (only 2 unity 1) (only 1 unity 2) 4 ≡ done (shape_of 2 Vanilla) (only 3 (neg unity) 0) 16
  pub e1_e3 : general_product (shape_of 3 Vanilla) (shape_of 3 Vanilla) (only 1 unity 6) (only 3 unity 4) 8 ≡ done (shape_of 3 Vanilla) (only 5 (neg unity) 2) 64
  pub e2_squared : general_product (shape_of 2 (Cl 0 1 1)) (shape_of 2 (Cl 0 1 1)) (only 2 unity 1) (only 2 unity 1) 4 ≡ done (shape_of 2 (Cl 0 1 1)) (only 0 (neg unity) 3) 12
  pub snapped : general_product (shape_of 0 Vanilla) (shape_of 0 Vanilla) (fraction 46 ∷ []) (unity ∷ []) 1 ≡ done (shape_of 0 Vanilla) (nought ∷ []) 1
  pub snapped_minus : general_product (shape_of 0 Vanilla) (shape_of 0 Vanilla) (neg (fraction 46) ∷ []) (unity ∷ []) 1 ≡ done (shape_of 0 Vanilla) (neg nought ∷ []) 1
  pub stays : general_product (shape_of 0 Vanilla) (shape_of 0 Vanilla) (fraction 45 ∷ []) (unity ∷ []) 1 ≡ done (shape_of 0 Vanilla) (fraction 45 ∷ []) 1
  pub left_half : blades_of_side 0 2 (five ∷ seven ∷ []) Vanilla 4 ≡ value (shape_of 2 Vanilla) (five ∷ nought ∷ nought ∷ seven ∷ [])
  pub right_half : blades_of_side 1 2 (five ∷ seven ∷ []) Vanilla 4 ≡ value (shape_of 2 Vanilla) (nought ∷ five ∷ seven ∷ nought ∷ [])
  pub e31_grown : set_dims (shape_of 3 Vanilla) 4 (only 5 unity 2) 16 ≡ value (shape_of 4 Vanilla) (only 6 (neg unity) 9)
  pub e31_promoted : set_flavor (shape_of 3 Vanilla) Projective (only 5 unity 2) 16 ≡ value (shape_of 4 Projective) (only 9 unity 6)
  pub others_equal : equals (shape_of 2 Vanilla) (shape_of 2 Vanilla) (only 1 unity 2) (only 2 unity 1) ≡ record { number = 0; yes = true }
  pub others_greater : compared (shape_of 2 Vanilla) (shape_of 2 Vanilla) (only 1 unity 2) (only 2 unity 1) ≡ record { number = 0; order = Greater }

pub table : Rows
unfolding order grades_below grade index_of place start size ones ones_in unless refusal blades_of_side packing spread set_dims set_flavor promotes promoted resized negates coef multiplied conform conformed conformed_shape product sums inside add_pair term metric_at place_at pair_metric pairs_of pairs takes within flavor_for metric_of metric swaps total count shared has sign pow one turned add mul of_int neg snap round eq lt is_nan equals test_of is_scalar all_zero is_planar if_scalar answers_agree compared_nans compared_numbers compared_places compared_counts compared_by compared
table =
    record {
      order_of_3 = refl;
      order_of_4 = refl;
      e1_e2 = refl;
      e2_e1 = refl;
      e1_e3 = refl;
      e2_squared = refl;
      snapped = refl;
      snapped_minus = refl;
      stays = refl;
      left_half = refl;
      right_half = refl;
      e31_grown = refl;
      e31_promoted = refl;
      others_equal = refl;
      others_greater = refl;
    }

-- ---- the line of the sheet

-- one Vanilla 1.0
abbrev sheet : Sheet
sheet = record { shapes = shape_of 0 Vanilla ∷ []; patterns = to_bits binary64 unity ∷ [] }

abbrev bytes : List ℕ
bytes = 1 ∷ 0 ∷ 0 ∷ 0 ∷ 0 ∷ 0 ∷ 0 ∷ 1 ∷ 0 ∷ 0 ∷ 0 ∷ 0 ∷ 0 ∷ 0 ∷ 0 ∷ 0 ∷ 0 ∷ 240 ∷ 63 ∷ []

pub written : sheet_bytes sheet ≡ bytes
unfolding sheet_bytes section little_endian all_bytes to_bits
written = refl

pub read : read_sheet bytes 1 ≡ a_sheet sheet
unfolding sheet_bytes section little_endian all_bytes to_bits read_sheet is_sheet_bytes said shape_from from_little_endian parts any_above_nine blade_total refusal unless same
read = refl
