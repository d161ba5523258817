-- In a twisted product of two families of n whole numbers, x and y, every pair adds (τ i j times x i) times y j at the place `op i j`. It groups either
-- way where the factors τ have the cocycle law, and is turned round by a family of signs where they have the law of reversal.
use mathlib.Core.Path.{◌≡◌, sym, ◌∙◌, ap}
use Prim.Native.Nat.{ℕ, ◌<◌}
use native.Mathlib.Decide.{ℕ_discrete}
use lib.IntN.{ℤ, pos, ◌*ℤ◌}
use Rattle.clifford.specs.Sum.{sum, δ}
use Rattle.clifford.proofs.Ring.{product, mul_assoc, mul_left_comm, one_mul}
use Rattle.clifford.proofs.SumLaws.{sum_ext, sum_mul, sum_swap, sum_at_lem, δ_same, δ_other, δ_comm, δ_move}

-- `weighed` sums over all pairs what each adds, times F at its place.
unfoldable pub weighed : ℕ → (ℕ → ℕ → ℕ) → (ℕ → ℕ → ℤ) → (ℕ → ℤ) → (ℕ → ℤ) → (ℕ → ℤ) → ℤ
weighed n op τ F x y = sum n (λ j. sum n (λ i. F (op i j) *ℤ (τ i j *ℤ x i *ℤ y j)))

-- `times` has at place k the sum in which F is 1 at k, else 0.
unfoldable pub times : ℕ → (ℕ → ℕ → ℕ) → (ℕ → ℕ → ℤ) → (ℕ → ℤ) → (ℕ → ℤ) → ℕ → ℤ
times n op τ x y k = weighed n op τ (λ m. δ m k) x y

module _ (n : ℕ) (op : ℕ → ℕ → ℕ) (τ : ℕ → ℕ → ℤ) (closed : (i j : ℕ) → i < n → j < n → op i j < n) where
  spread : (F x y : ℕ → ℤ) → sum n (λ k. F k *ℤ times n op τ x y k) ≡ weighed n op τ F x y
  unfolding weighed times
  spread F x y =
      sum_ext n _ _ (λ k _. sum_mul n (F k) _ ∙ sum_ext n _ _ (λ j _. sum_mul n (F k) _))
      ∙ sum_swap n n _
      ∙ sum_ext n _ _ (λ j hj. sum_swap n n _ ∙ sum_ext n _ _ (λ i hi.
      sum_ext n _ _ (λ k _. mul_left_comm (F k) (δ (op i j) k) _) ∙ sum_at_lem n (op i j) (λ k. F k *ℤ (τ i j *ℤ x i *ℤ y j)) (closed i j hi hj)))

  module _ (assoc : (i j k : ℕ) → i < n → j < n → k < n → op (op i j) k ≡ op i (op j k))
      (cocycle : (i j k : ℕ) → i < n → j < n → k < n → τ i j *ℤ τ (op i j) k ≡ τ j k *ℤ τ i (op j k)) where
    -- Three factors group either way: both groupings are the sum over triples, the last factor's places outermost.
    pub times_assoc : (x y z : ℕ → ℤ) (m : ℕ) → times n op τ (times n op τ x y) z m ≡ times n op τ x (times n op τ y z) m
    unfolding weighed times
    times_assoc x y z m =
        sum_ext n _ _ (λ k _. sum_ext n _ _ (λ p _. left (δ (op p k) m) (τ p k) (times n op τ x y p) (z k))
        ∙ spread (λ p. δ (op p k) m *ℤ (τ p k *ℤ z k)) x y)
        ∙ sum_ext n _ _ (λ k hk. sum_ext n _ _ (λ j hj. sum_ext n _ _ (λ i hi. rw (assoc i j k hi hj hk) (regroup (δ (op i (op j k)) m) (τ (op i j) k) (τ i j) (τ i (op j k)) (τ j k) (x i) (y j) (z k) (cocycle i j k hi hj hk)))))
        ∙ sym (sum_swap n n _
        ∙ sum_ext n _ _ (λ i _. sum_ext n _ _ (λ p _. right (δ (op i p) m) (τ i p) (x i) (times n op τ y z p))
        ∙ spread (λ p. δ (op i p) m *ℤ (τ i p *ℤ x i)) y z)
        ∙ sum_swap n n _ ∙ sum_ext n _ _ (λ k _. sum_swap n n _))
      where
        left : (a b c d : ℤ) → a *ℤ (b *ℤ c *ℤ d) ≡ a *ℤ (b *ℤ d) *ℤ c
        left a b c d = simp product

        right : (a b c d : ℤ) → a *ℤ (b *ℤ c *ℤ d) ≡ a *ℤ (b *ℤ c) *ℤ d
        right a b c d = simp product

        regroup : (d t u v w a b c : ℤ) → u *ℤ t ≡ w *ℤ v → d *ℤ (t *ℤ c) *ℤ (u *ℤ a *ℤ b) ≡ d *ℤ (v *ℤ a) *ℤ (w *ℤ b *ℤ c)
        regroup d t u v w a b c e = both d t u a b c ∙ ap (λ s. d *ℤ (s *ℤ (a *ℤ (b *ℤ c)))) e ∙ sym (other d v w a b c)
          where
            both : (d t u a b c : ℤ) → d *ℤ (t *ℤ c) *ℤ (u *ℤ a *ℤ b) ≡ d *ℤ (u *ℤ t *ℤ (a *ℤ (b *ℤ c)))
            both d t u a b c = simp product

            other : (d v w a b c : ℤ) → d *ℤ (v *ℤ a) *ℤ (w *ℤ b *ℤ c) ≡ d *ℤ (w *ℤ v *ℤ (a *ℤ (b *ℤ c)))
            other d v w a b c = simp product

-- `signed r x` has at i the number x i times r i.
abbrev pub signed : (ℕ → ℤ) → (ℕ → ℤ) → ℕ → ℤ
signed r x i = r i *ℤ x i

module _ (n : ℕ) (op : ℕ → ℕ → ℕ) (τ : ℕ → ℕ → ℤ) (r : ℕ → ℤ)
    (comm : (i j : ℕ) → i < n → j < n → op i j ≡ op j i)
    (turn : (i j : ℕ) → i < n → j < n → r (op i j) *ℤ τ i j ≡ r i *ℤ r j *ℤ τ j i) where
  pub times_signed : (x y : ℕ → ℤ) (m : ℕ) → signed r (times n op τ x y) m ≡ times n op τ (signed r y) (signed r x) m
  unfolding weighed times
  times_signed x y m =
      sum_mul n (r m) _
      ∙ sum_ext n _ _ (λ j hj. sum_mul n (r m) _ ∙ sum_ext n _ _ (λ i hi. rw (← comm i j hi hj) (regroup (r m) (r (op i j)) (δ (op i j) m) (τ i j) (τ j i) (r i) (r j) (x i) (y j) (δ_move (op i j) m r) (turn i j hi hj))))
      ∙ sum_swap n n _
    where
      regroup : (s s' d t t' u v a b : ℤ) → s *ℤ d ≡ s' *ℤ d → s' *ℤ t ≡ u *ℤ v *ℤ t' → s *ℤ (d *ℤ (t *ℤ a *ℤ b)) ≡ d *ℤ (t' *ℤ (v *ℤ b) *ℤ (u *ℤ a))
      regroup s s' d t t' u v a b e f =
          sym (mul_assoc s d (t *ℤ a *ℤ b)) ∙ ap (λ w. w *ℤ (t *ℤ a *ℤ b)) e ∙ before s' d t a b
          ∙ ap (λ w. d *ℤ (w *ℤ (a *ℤ b))) f ∙ after d t' u v a b
        where
          before : (s d t a b : ℤ) → s *ℤ d *ℤ (t *ℤ a *ℤ b) ≡ d *ℤ (s *ℤ t *ℤ (a *ℤ b))
          before s d t a b = simp product

          after : (d t u v a b : ℤ) → d *ℤ (u *ℤ v *ℤ t *ℤ (a *ℤ b)) ≡ d *ℤ (t *ℤ (v *ℤ b) *ℤ (u *ℤ a))
          after d t u v a b = simp product

-- Each j meets just one i in the place k, back j k: the number there is a sum of n terms, in the order of the right factor's places.
module _ (n : ℕ) (op : ℕ → ℕ → ℕ) (τ : ℕ → ℕ → ℤ) (back : ℕ → ℕ → ℕ)
    (back-lt : (j k : ℕ) → j < n → k < n → back j k < n)
    (there : (i j k : ℕ) → i < n → j < n → k < n → op i j ≡ k → back j k ≡ i)
    (again : (i j k : ℕ) → i < n → j < n → k < n → back j k ≡ i → op i j ≡ k) where
  one_pair : (i j k : ℕ) → i < n → j < n → k < n → δ (op i j) k ≡ δ (back j k) i
  one_pair i j k hi hj hk = go (ℕ_discrete (op i j) k)
    where
      go : Dec (op i j ≡ k) → δ (op i j) k ≡ δ (back j k) i
      go (yes p) = rw (p, there i j k hi hj hk p, δ_same k, δ_same i)
      go (no p) = δ_other (op i j) k p ∙ sym (δ_other (back j k) i (λ q. p (again i j k hi hj hk q)))

  pub times_at : (x y : ℕ → ℤ) (k : ℕ) → k < n → times n op τ x y k ≡ sum n (λ j. τ (back j k) j *ℤ x (back j k) *ℤ y j)
  unfolding weighed times
  times_at x y k hk =
      sum_ext n _ _ (λ j hj. sum_ext n _ _ (λ i hi. ap (λ s. s *ℤ (τ i j *ℤ x i *ℤ y j)) (one_pair i j k hi hj hk))
      ∙ sum_at_lem n (back j k) (λ i. τ i j *ℤ x i *ℤ y j) (back-lt j k hj hk))

-- A factor that is 1 at one place and else 0 leaves a single sum.
module _ (n : ℕ) (op : ℕ → ℕ → ℕ) (τ : ℕ → ℕ → ℤ) where
  pub basis_times : (i : ℕ) → i < n → (y : ℕ → ℤ) (k : ℕ) → times n op τ (δ i) y k ≡ sum n (λ j. δ (op i j) k *ℤ (τ i j *ℤ y j))
  unfolding weighed times
  basis_times i hi y k =
      sum_ext n _ _ (λ j _. sum_ext n _ _ (λ l _. first (δ (op l j) k) (τ l j) (δ i l) (y j)) ∙ sum_at_lem n i (λ l. δ (op l j) k *ℤ (τ l j *ℤ y j)) hi)
    where
      first : (a b c e : ℤ) → a *ℤ (b *ℤ c *ℤ e) ≡ c *ℤ (a *ℤ (b *ℤ e))
      first a b c e = simp product

  pub times_basis : (j : ℕ) → j < n → (x : ℕ → ℤ) (k : ℕ) → times n op τ x (δ j) k ≡ sum n (λ i. δ (op i j) k *ℤ (τ i j *ℤ x i))
  unfolding weighed times
  times_basis j hj x k =
      sum_swap n n _
      ∙ sum_ext n _ _ (λ i _. sum_ext n _ _ (λ l _. first (δ (op i l) k) (τ i l) (x i) (δ j l)) ∙ sum_at_lem n j (λ l. δ (op i l) k *ℤ (τ i l *ℤ x i)) hj)
    where
      first : (a b c e : ℤ) → a *ℤ (b *ℤ c *ℤ e) ≡ e *ℤ (a *ℤ (b *ℤ c))
      first a b c e = simp product

  -- Where the place u leaves every place and every number as it is, its family is the unit.
  module _ (u : ℕ) (hu : u < n) where
    pub unit_times : ((j : ℕ) → j < n → op u j ≡ j) → ((j : ℕ) → j < n → τ u j ≡ pos 1) → (y : ℕ → ℤ) (k : ℕ) → k < n → times n op τ (δ u) y k ≡ y k
    unit_times p t y k hk =
        basis_times u hu y k
        ∙ sum_ext n _ _ (λ j hj. rw (p j hj, t j hj, one_mul (y j), δ_comm j k)) ∙ sum_at_lem n k y hk

    pub times_unit : ((i : ℕ) → i < n → op i u ≡ i) → ((i : ℕ) → i < n → τ i u ≡ pos 1) → (x : ℕ → ℤ) (k : ℕ) → k < n → times n op τ x (δ u) k ≡ x k
    times_unit p t x k hk =
        times_basis u hu x k
        ∙ sum_ext n _ _ (λ i hi. rw (p i hi, t i hi, one_mul (x i), δ_comm i k)) ∙ sum_at_lem n k x hk
