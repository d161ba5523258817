-- The defining relations are equations of words. A word is a list of basis vectors, multiplied in that order.
use Rattle.std.specs.Prelude.{cond, List, [], ◌∷◌, ◌++◌, ◌≢◌, ℕ, zero, suc, ◌<◌, ℤ, pos, neg_ℤ, ◌*ℤ◌}
use Rattle.clifford.specs.Blade.{Blade}

-- `Equals g d u s v` says that the word u is s times the word v, by the relations of the vectors below d and by nothing else.
pub data Equals (g : ℕ → ℤ) (d : ℕ) : List ℕ → ℤ → List ℕ → Type 0 where
  -- Different basis vectors change sign when exchanged.
  exchange : (i j : ℕ) → i < d → j < d → i ≢ j → Equals g d (i ∷ j ∷ []) (neg_ℤ (pos 1)) (j ∷ i ∷ [])
  -- Each squares to its flavor metric.
  square : (i : ℕ) → i < d → Equals g d (i ∷ i ∷ []) (g i) []
  -- Equations are chained, and multiplied by a word on either side.
  same : (u : List ℕ) → Equals g d u (pos 1) u
  chain : {u v w : List ℕ} {s t : ℤ} → Equals g d u s v → Equals g d v t w → Equals g d u (s *ℤ t) w
  left : (p : List ℕ) {u v : List ℕ} {s : ℤ} → Equals g d u s v → Equals g d (p ++ u) s (p ++ v)
  right : (q : List ℕ) {u v : List ℕ} {s : ℤ} → Equals g d u s v → Equals g d (u ++ q) s (v ++ q)

-- `word d a` has the vectors of the blade a, multiplied in rising order.
unfoldable pub word : ℕ → Blade → List ℕ
word zero a = []
word (suc i) a = word i a ++ cond (a i) (i ∷ []) []
