-- An algebra can satisfy the defining relations, whatever it is made of.
use Rattle.std.specs.Prelude.{◌≡◌, List, [], ◌∷◌, ◌≢◌, ℕ, ◌<◌, ℤ, pos, neg_ℤ, ◌*ℤ◌}

-- `Clifford A g d` is a product on A with a unit that groups either way, multiples that pass through it, and d vectors that have the relations.
pub record Clifford (A : Type 0) (g : ℕ → ℤ) (d : ℕ) : Type 0 where
  infixl 40 ◌·◌
  infixl 41 ◌•◌
  pub ◌·◌ : A → A → A
  pub unit : A
  pub ◌•◌ : ℤ → A → A
  pub e : ℕ → A
  pub assoc : (x y z : A) → (x · y) · z ≡ x · (y · z)
  pub unit_l : (x : A) → unit · x ≡ x
  pub unit_r : (x : A) → x · unit ≡ x
  pub one-• : (x : A) → pos 1 • x ≡ x
  pub •-• : (s t : ℤ) (x : A) → s • (t • x) ≡ (s *ℤ t) • x
  pub •-l : (s : ℤ) (x y : A) → (s • x) · y ≡ s • (x · y)
  pub •-r : (s : ℤ) (x y : A) → x · (s • y) ≡ s • (x · y)
  pub exchanged : (i j : ℕ) → i < d → j < d → i ≢ j → e i · e j ≡ neg_ℤ (pos 1) • (e j · e i)
  pub squared : (i : ℕ) → i < d → e i · e i ≡ g i • unit

module _ {A : Type 0} {g : ℕ → ℤ} {d : ℕ} (K : Clifford A g d) where
  open K use {◌·◌, unit, e}

  -- `word_value` multiplies the vectors of a word.
  unfoldable pub word_value : List ℕ → A
  word_value [] = unit
  word_value (i ∷ w) = e i · word_value w
