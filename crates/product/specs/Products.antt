-- What the five products give. Assumes nothing.
use Rattle.std.specs.Prelude.{◌≡◌, List, ℕ, Float, length, Result}
use Rattle.std.specs.Float.{binary64}
use Rattle.masks.specs.declared.outcome.Refusal.{Refusal}
use Rattle.masks.specs.declared.shape.Shape.{Shape}
use Rattle.masks.specs.Outcome.{Test, Outcome, refusal, pair_tests, unless, value, refused_value, IsAnswer, laid}
use Rattle.masks.specs.Shape.{conform, meeting_dims}
use Rattle.product.specs.declared.mode.Mode.{Mode}
use Rattle.product.specs.declared.mode.Mode.TheVariants.{All, Left, Right, Inner, Outer}
use Rattle.product.specs.declared.outcome.Product.{Product}
use Rattle.product.specs.Pairwise.{pairs_of, product}

-- A product is a value with the number of its contributing pairs.
pub record Counted : Type 0 where
  pub outcome : Outcome
  pub pairs : ℕ

-- A refusal has its number and no pairs, and writes nothing.
abbrev pub refused_product : ℕ → Counted
refused_product k = record { outcome = refused_value k; pairs = 0 }

-- The product of two values of one shape's dimensions; the shape is kept.
abbrev pub multiplied_of : Mode → Shape → List Float → List Float → Counted
multiplied_of mode s a b =
    record {
      outcome = value s (product mode s.flavor s.dims binary64 a b);
      pairs = pairs_of mode s.flavor s.dims;
    }

-- The tests of a product: the dimensions of both values and of the result, both counts, and the room.
abbrev pub product_tests : Shape → Shape → List Float → List Float → ℕ → List Test
product_tests s t a b room = pair_tests s.dims t.dims (meeting_dims s t) (length a) (length b) room

-- Both values are conformed and multiplied; the left shape is kept.
unfoldable pub multiplied : Mode → Shape → Shape → List Float → List Float → ℕ → Counted
multiplied mode s t a b room =
    let c = conform s t a b room room in
    unless refused_product (refusal (product_tests s t a b room)) (multiplied_of mode c.left_shape c.left_coefs c.right_coefs)

-- The five products, in an output of `room` numbers.
abbrev pub general_product : Shape → Shape → List Float → List Float → ℕ → Counted
general_product = multiplied All

abbrev pub left_contraction : Shape → Shape → List Float → List Float → ℕ → Counted
left_contraction = multiplied Left

abbrev pub right_contraction : Shape → Shape → List Float → List Float → ℕ → Counted
right_contraction = multiplied Right

abbrev pub inner_product : Shape → Shape → List Float → List Float → ℕ → Counted
inner_product = multiplied Inner

abbrev pub outer_product : Shape → Shape → List Float → List Float → ℕ → Counted
outer_product = multiplied Outer

-- The answer has the product's shape and pairs; the coefficients are in the output.
abbrev pub product_of : Counted → Product
product_of o = record { shape = o.outcome.shape; pairs = o.pairs }

-- The answer r has the product's shape and pairs or its refusal, and the output's numbers before and after are those of the product.
pub record GivesProduct (o : Counted) (r : Result Product Refusal) (before after : List Float) : Type 0 where
  pub answered : IsAnswer o.outcome.number (product_of o) r
  pub left : after ≡ laid o.outcome.coefs before
