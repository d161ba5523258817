-- A value by a number, and its negation. Assumes nothing.
use Rattle.std.specs.Prelude.{false, cond, List, map, ℕ, Float, pos}
use Rattle.std.specs.Float.{fin, binary64}
use Rattle.std.specs.Float.Ieee.{eq, mul, div, neg}
use Rattle.masks.specs.declared.shape.Shape.{Shape}
use Rattle.masks.specs.Outcome.{Outcome}
use Rattle.arithmetic.specs.Kept.{kept}

-- `unity` is 1.
abbrev pub unity : Float
unity = fin false 1 (pos 0)

-- Each coefficient is multiplied, unless by 1.0.
unfoldable pub scaled : Float → List Float → List Float
scaled f a = cond (eq f unity) a (map (λ x. mul binary64 x f) a)

-- `*` by a number.
abbrev pub mul_f64 : Shape → Float → List Float → ℕ → Outcome
mul_f64 s f = kept (scaled f) s

-- `/` by f multiplies by 1 / f.
abbrev pub reciprocal : Float → Float
reciprocal f = div binary64 unity f

-- `/` by a number.
abbrev pub div_f64 : Shape → Float → List Float → ℕ → Outcome
div_f64 s f = kept (scaled (reciprocal f)) s

-- Each coefficient is negated.
abbrev pub negation : Shape → List Float → ℕ → Outcome
negation = kept (map neg)
