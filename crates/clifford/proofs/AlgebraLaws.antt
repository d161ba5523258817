-- What the relations give holds in every algebra that satisfies them.
use mathlib.Core.Path.{◌≡◌, sym, ◌∙◌, ap}
use mathlib.Core.List.{List, [], ◌∷◌, ◌++◌}
use Prim.Native.Nat.{ℕ}
use lib.Bits.{bit_xor}
use lib.IntN.{ℤ, negsuc}
use Rattle.clifford.specs.Metric.{metric}
use Rattle.clifford.specs.Relations.{Equals, exchange, square, same, chain, left, right}
use Rattle.clifford.specs.Placed.{stands}
use Rattle.clifford.specs.Algebra.{Clifford, word_value}
use Rattle.clifford.proofs.PlacedLaws.{metric_derived}

module _ {A : Type 0} {g : ℕ → ℤ} {d : ℕ} (K : Clifford A g d) where
  open K use {◌·◌, unit, ◌•◌, e, assoc, unit_l, unit_r, one-•, •-•, •-l, •-r, exchanged, squared}

  value-++ : (u v : List ℕ) → word_value K (u ++ v) ≡ word_value K u · word_value K v
  unfolding word_value
  value-++ [] v = sym (unit_l (word_value K v))
  value-++ (i ∷ u) v = ap (λ x. e i · x) (value-++ u v) ∙ sym (assoc (e i) (word_value K u) (word_value K v))

  pub pair : (i j : ℕ) → word_value K (i ∷ j ∷ []) ≡ e i · e j
  unfolding word_value
  pair i j = ap (λ x. e i · x) (unit_r (e j))

  pub holds : {u v : List ℕ} {s : ℤ} → Equals g d u s v → word_value K u ≡ s • word_value K v
  unfolding word_value
  holds (exchange i j hi hj h) = pair i j ∙ exchanged i j hi hj h ∙ ap (λ x. negsuc 0 • x) (sym (pair j i))
  holds (square i h) = pair i i ∙ squared i h
  holds (same u) = sym (one-• (word_value K u))
  holds (chain {w = w} {s = s} {t = t} p q) = holds p ∙ ap (λ x. s • x) (holds q) ∙ •-• s t (word_value K w)
  holds (left p {u = u} {v = v} {s = s} q) = value-++ p u ∙ ap (λ x. word_value K p · x) (holds q) ∙ •-r s (word_value K p) (word_value K v) ∙ ap (λ x. s • x) (sym (value-++ p v))
  holds (right q {u = u} {v = v} {s = s} p) = value-++ u q ∙ ap (λ x. x · word_value K q) (holds p) ∙ •-l s (word_value K v) (word_value K q) ∙ ap (λ x. s • x) (sym (value-++ v q))

  -- What two masks stand for multiplies to the metric times what their xor stands for.
  pub stands_times : (a b : ℕ) → word_value K (stands d a) · word_value K (stands d b) ≡ metric g d a b • word_value K (stands d (bit_xor a b))
  stands_times a b = sym (value-++ (stands d a) (stands d b)) ∙ holds (metric_derived g d a b)
