-- Duals and the regressive product. Assumes nothing.
use Rattle.std.specs.Prelude.{List, [], ◌∷◌, ℕ, Float}
use Rattle.std.specs.Float.{binary64}
use Rattle.masks.specs.declared.flavor.Flavor.TheVariants.{Vanilla}
use Rattle.masks.specs.declared.shape.Shape.{Shape}
use Rattle.masks.specs.Outcome.{Outcome, refusal, unless, refused_value, shape_of}
use Rattle.masks.specs.Build.{at_grade}
use Rattle.product.specs.declared.mode.Mode.TheVariants.{All}
use Rattle.product.specs.Pairwise.{product}
use Rattle.product.specs.Products.{product_tests, outer_product}
use Rattle.arithmetic.specs.Kept.{kept}
use Rattle.arithmetic.specs.Scale.{unity}
use Rattle.arithmetic.specs.Operators.{with_coefs, multiplication}

-- Room for any value: none has more numbers.
abbrev pub ample : ℕ
ample = 512

-- The Vanilla pseudo unit of d dimensions has 1 at the last grade.
abbrev pub pseudo_unit : ℕ → List Float
pseudo_unit d = at_grade d d (unity ∷ [])

-- `dual` is the product with the Vanilla pseudo unit on the right, metric Vanilla, own flavor kept.
unfoldable pub dual_of : ℕ → List Float → List Float
dual_of d a = product All Vanilla d binary64 a (pseudo_unit d)

-- The call.
abbrev pub dual : Shape → List Float → ℕ → Outcome
dual s = kept (dual_of s.dims) s

-- `antidual` is the Vanilla pseudo unit `*` the value read as Vanilla, own flavor put back after.
unfoldable pub antidual_of : ℕ → List Float → List Float
antidual_of d a = (multiplication (shape_of d Vanilla) (shape_of d Vanilla) (pseudo_unit d) a ample).coefs

-- The call.
abbrev pub antidual : Shape → List Float → ℕ → Outcome
antidual s = kept (antidual_of s.dims) s

-- `regressive_product` duals each at its own dimensions first; then the outer product, and its antidual. Its tests are those of a product.
unfoldable pub regressive_product : Shape → Shape → List Float → List Float → ℕ → Outcome
regressive_product s t a b room =
    let o = (outer_product s t (dual_of s.dims a) (dual_of t.dims b) ample).outcome in
    unless refused_value (refusal (product_tests s t a b room)) (with_coefs (antidual_of o.shape.dims) o)
