-- These are the ring laws of the whole numbers that lib.IntN leaves out, with rule sets that sort products and sums.
use mathlib.Core.Path.{◌≡◌, refl, sym, ◌∙◌, ap}
use Prim.Native.Nat.{zero, suc, ◌*◌}
use lib.IntN.{ℤ, pos, negsuc, suc_ℤ, pred_ℤ, neg_ℤ, ◌+ℤ◌, ◌*ℤ◌, one, +ℤ_idl, +ℤ_idr, +ℤ_assoc, +ℤ_comm, neg_ℤ-+ℤ, neg_ℤ-neg_ℤ, suc_ℤ-+ℤ, pred_ℤ-+ℤ, suc_ℤ-*ℤ, pred_ℤ-*ℤ, zero-*ℤ, *ℤ-zero, *ℤ_comm, *ℤ-one}

pub +-left_comm : (a b c : ℤ) → a +ℤ (b +ℤ c) ≡ b +ℤ (a +ℤ c)
+-left_comm a b c = sym (+ℤ_assoc a b c) ∙ ap (λ x. x +ℤ c) (+ℤ_comm a b) ∙ +ℤ_assoc b a c

step_up : (a b k : ℤ) → (a +ℤ b) *ℤ k ≡ a *ℤ k +ℤ b *ℤ k → (suc_ℤ a +ℤ b) *ℤ k ≡ suc_ℤ a *ℤ k +ℤ b *ℤ k
step_up a b k ih = rw (suc_ℤ-+ℤ a b, suc_ℤ-*ℤ (a +ℤ b) k, suc_ℤ-*ℤ a k, ih) (simp (+ℤ_assoc, +ℤ_comm, +-left_comm))

step_down : (a b k : ℤ) → (a +ℤ b) *ℤ k ≡ a *ℤ k +ℤ b *ℤ k → (pred_ℤ a +ℤ b) *ℤ k ≡ pred_ℤ a *ℤ k +ℤ b *ℤ k
step_down a b k ih = rw (pred_ℤ-+ℤ a b, pred_ℤ-*ℤ (a +ℤ b) k, pred_ℤ-*ℤ a k, ih) (simp (+ℤ_assoc, +ℤ_comm, +-left_comm))

pub add_mul : (a b k : ℤ) → (a +ℤ b) *ℤ k ≡ a *ℤ k +ℤ b *ℤ k
add_mul (pos zero) b k = rw (+ℤ_idl b, zero-*ℤ k, +ℤ_idl (b *ℤ k))
add_mul (pos (suc n)) b k = step_up (pos n) b k (add_mul (pos n) b k)
add_mul (negsuc zero) b k = step_down (pos zero) b k (rw (+ℤ_idl b, zero-*ℤ k, +ℤ_idl (b *ℤ k)))
add_mul (negsuc (suc n)) b k = step_down (negsuc n) b k (add_mul (negsuc n) b k)

pub mul_add : (k a b : ℤ) → k *ℤ (a +ℤ b) ≡ k *ℤ a +ℤ k *ℤ b
mul_add k a b = *ℤ_comm k (a +ℤ b) ∙ add_mul a b k ∙ rw (*ℤ_comm a k, *ℤ_comm b k)

pub neg_mul : (a b : ℤ) → neg_ℤ a *ℤ b ≡ neg_ℤ (a *ℤ b)
neg_mul (pos zero) b = rw (zero-*ℤ b)
neg_mul (pos (suc n)) (pos m) = refl
neg_mul (pos (suc n)) (negsuc m) = sym (neg_ℤ-neg_ℤ (pos (suc n * suc m)))
neg_mul (negsuc n) (pos m) = sym (neg_ℤ-neg_ℤ (pos (suc n * m)))
neg_mul (negsuc n) (negsuc m) = refl

assoc_up : (a b c : ℤ) → (a *ℤ b) *ℤ c ≡ a *ℤ (b *ℤ c) → (suc_ℤ a *ℤ b) *ℤ c ≡ suc_ℤ a *ℤ (b *ℤ c)
assoc_up a b c ih = rw (suc_ℤ-*ℤ a b, suc_ℤ-*ℤ a (b *ℤ c), add_mul (a *ℤ b) b c, ih)

assoc_down : (a b c : ℤ) → (a *ℤ b) *ℤ c ≡ a *ℤ (b *ℤ c) → (pred_ℤ a *ℤ b) *ℤ c ≡ pred_ℤ a *ℤ (b *ℤ c)
assoc_down a b c ih = rw (pred_ℤ-*ℤ a b, pred_ℤ-*ℤ a (b *ℤ c), add_mul (a *ℤ b) (neg_ℤ b) c, ih, neg_mul b c)

pub mul_assoc : (a b c : ℤ) → (a *ℤ b) *ℤ c ≡ a *ℤ (b *ℤ c)
mul_assoc (pos zero) b c = rw (zero-*ℤ b, zero-*ℤ c, zero-*ℤ (b *ℤ c))
mul_assoc (pos (suc n)) b c = assoc_up (pos n) b c (mul_assoc (pos n) b c)
mul_assoc (negsuc zero) b c = assoc_down (pos zero) b c (rw (zero-*ℤ b, zero-*ℤ c, zero-*ℤ (b *ℤ c)))
mul_assoc (negsuc (suc n)) b c = assoc_down (negsuc n) b c (mul_assoc (negsuc n) b c)

pub mul_left_comm : (a b c : ℤ) → a *ℤ (b *ℤ c) ≡ b *ℤ (a *ℤ c)
mul_left_comm a b c = sym (mul_assoc a b c) ∙ ap (λ x. x *ℤ c) (*ℤ_comm a b) ∙ mul_assoc b a c

pub mul_neg : (a b : ℤ) → a *ℤ neg_ℤ b ≡ neg_ℤ (a *ℤ b)
mul_neg a b = *ℤ_comm a (neg_ℤ b) ∙ neg_mul b a ∙ ap neg_ℤ (*ℤ_comm b a)

pub mul_one : (a : ℤ) → a *ℤ pos 1 ≡ a
unfolding one
mul_one a = *ℤ-one a

pub one_mul : (a : ℤ) → pos 1 *ℤ a ≡ a
one_mul a = *ℤ_comm (pos 1) a ∙ mul_one a

-- `simp product` sorts a product of any number of factors.
pub ruleset product = (mul_assoc, *ℤ_comm, mul_left_comm)

-- `simp ring` multiplies out, moves negations to the front, and sorts.
pub ruleset ring = (mul_assoc, *ℤ_comm, mul_left_comm, add_mul, mul_add, neg_mul, mul_neg, neg_ℤ-+ℤ, neg_ℤ-neg_ℤ, +ℤ_assoc, +ℤ_comm, +-left_comm, mul_one, one_mul, zero-*ℤ, *ℤ-zero, +ℤ_idl, +ℤ_idr)

-- Of four factors the middle two are exchanged.
pub mul_cross : (a b c d : ℤ) → (a *ℤ b) *ℤ (c *ℤ d) ≡ (a *ℤ c) *ℤ (b *ℤ d)
mul_cross a b c d = simp product
