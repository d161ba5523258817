-- `*`, `+` and `-` of two values. Assumes nothing.
use Rattle.std.specs.Prelude.{Bool, not, ◌&&◌, cond, List, [], ◌∷◌, ℕ, ◌+◌, ◌^◌, max, eqb, Float, length, get_or, set}
use Rattle.std.specs.Float.{nan, binary64}
use Rattle.std.specs.Float.Ieee.{add, sub}
use Rattle.masks.specs.declared.shape.Shape.{Shape}
use Rattle.masks.specs.Outcome.{Test, Outcome, Pair, refusal, pair_tests, unless, refused_value}
use Rattle.masks.specs.Shape.{promotes, conform_to, conform}
use Rattle.product.specs.Products.{general_product}
use Rattle.arithmetic.specs.Scalar.{is_scalar, test_of, if_scalar}
use Rattle.arithmetic.specs.Scale.{scaled}

-- ---- refusals

-- The right value has the numbers of its dimensions, and is not scalar.
unfoldable pub is_other : Shape → List Float → Bool
is_other t b = eqb (length b) (2 ^ t.dims) && not (is_scalar b)

-- The dimensions that two values meet in: a Vanilla value that meets Projective is promoted, on the right only where `other` says so.
abbrev pub joined_dims : Shape → Shape → Bool → ℕ
joined_dims s t other = max (s.dims + promotes s.flavor t.flavor) (t.dims + cond other (promotes t.flavor s.flavor) 0)

-- The dimensions of the result: on the right a scalar is not promoted.
unfoldable pub result_dims : Shape → Shape → List Float → ℕ
result_dims s t b = joined_dims s t (is_other t b)

-- The tests of `*`, `+` and `-`, in an output of `room` numbers.
abbrev pub operator_tests : Shape → Shape → List Float → List Float → ℕ → List Test
operator_tests s t a b room = pair_tests s.dims t.dims (result_dims s t b) (length a) (length b) room

-- ---- outcomes

-- An outcome whose coefficients are changed as g does.
abbrev pub with_coefs : (List Float → List Float) → Outcome → Outcome
with_coefs g o = record { number = o.number; shape = o.shape; coefs = g o.coefs }

-- By a scalar on the right the left side is conformed and each coefficient multiplied, unless by 1.0, with no snap; else conform and product.
unfoldable pub multiplication : Shape → Shape → List Float → List Float → ℕ → Outcome
multiplication s t a b room =
    unless refused_value (refusal (operator_tests s t a b room))
    (if_scalar (test_of t b) (λ f. with_coefs (scaled f) (conform_to s t a room)) (general_product s t a b room).outcome)

-- A sum or a difference.
pub data Sum : Type 0 where
  Plus : Sum
  Minus : Sum

-- A sum or a difference of two numbers.
abbrev pub summed : Sum → Float → Float → Float
summed Plus x y = add binary64 x y
summed Minus x y = sub binary64 x y

-- A scalar is added at place 0.
unfoldable pub summed_at0 : Sum → Float → List Float → List Float
summed_at0 op f a = set a 0 (summed op (get_or a 0 nan) f)

-- Other values are added everywhere.
unfoldable pub summed_each : Sum → List Float → List Float → List Float
summed_each op [] b = []
summed_each op (x ∷ a) [] = []
summed_each op (x ∷ a) (y ∷ b) = summed op x y ∷ summed_each op a b

-- The sum of two conformed values; the left shape is kept.
abbrev pub summed_pair : Sum → Pair → Outcome
summed_pair op p = record { number = p.number; shape = p.left_shape; coefs = summed_each op p.left_coefs p.right_coefs }

-- `+` and `-` likewise add at place 0 or everywhere.
unfoldable pub addition : Sum → Shape → Shape → List Float → List Float → ℕ → Outcome
addition op s t a b room =
    unless refused_value (refusal (operator_tests s t a b room))
    (if_scalar (test_of t b) (λ f. with_coefs (summed_at0 op f) (conform_to s t a room)) (summed_pair op (conform s t a b room room)))
