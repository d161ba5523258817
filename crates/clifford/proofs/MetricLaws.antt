-- The metric of masks has a unit, the cocycle law, by which products group either way, and the law of reversal, by which they turn round.
use mathlib.Core.Path.{◌≡◌, refl, sym, ◌∙◌, ap, ap₂, fun_ext}
use mathlib.Core.Bool.{and-false, cond}
use Prim.Native.Nat.{ℕ, ◌+◌, ◌^◌, ◌<◌, ◌≤◌}
use native.Mathlib.Omega.{arith}
use native.Mathlib.Decide.{le_ind}
use native.Mathlib.Nat.{add-zero}
use lib.Dec.{eqb, lit<}
use lib.Bits.{bit_xor, xor_comm, xor_zero_l, xor_zero_r}
use lib.IntN.{ℤ, pos, ◌*ℤ◌, pow, one}
use Rattle.clifford.specs.Blade.{Blade, has, ◌⊕◌, count}
use Rattle.clifford.specs.Sign.{sign, reversal}
use Rattle.clifford.specs.Metric.{swaps, shared, turned, metric}
use Rattle.clifford.proofs.Ring.{product, mul_one, one_mul}
use Rattle.clifford.proofs.BladeLaws.{has_xor, has_beyond, xor_assoc}
use Rattle.clifford.proofs.CountLaws.{swaps_suc}
use Rattle.clifford.proofs.SignLaws.{sign_add, sign_square}
use Rattle.clifford.proofs.Sigma.{none, sigma, backwards, sigma_cocycle, sigma_reversal, none_sigma, sigma_none, sigma_is, backwards_is}

-- A mask stands for `orient` times its vectors in rising order: 1 times, or -1 times where it is turned.
abbrev pub orient : ℕ → ℕ → ℤ
orient d m = sign (turned d m)

-- The metric is sigma, turned by each of the three masks: in this form its laws are proved.
pub metric_is : (g : ℕ → ℤ) (d a b : ℕ) → metric g d a b ≡ (orient d a *ℤ orient d b *ℤ orient d (bit_xor a b)) *ℤ sigma g d (has a) (has b)
unfolding metric
metric_is g d a b =
    ap (λ s. s *ℤ shared g d (has a) (has b)) (sign_add (swaps d (has a) (has b)) (turned d a + turned d b + turned d (bit_xor a b))
    ∙ ap (λ s. sign (swaps d (has a) (has b)) *ℤ s) (sign_add (turned d a + turned d b) (turned d (bit_xor a b))
    ∙ ap (λ s. s *ℤ orient d (bit_xor a b)) (sign_add (turned d a) (turned d b))))
    ∙ out (sign (swaps d (has a) (has b))) (orient d a *ℤ orient d b *ℤ orient d (bit_xor a b)) (shared g d (has a) (has b))
    ∙ ap (λ s. (orient d a *ℤ orient d b *ℤ orient d (bit_xor a b)) *ℤ s) (sym (sigma_is g d (has a) (has b)))
  where
    out : (s o t : ℤ) → s *ℤ o *ℤ t ≡ o *ℤ (s *ℤ t)
    out s o t = simp product

-- Three masks group either way: this is the cocycle law.
pub metric_cocycle : (g : ℕ → ℤ) (d a b c : ℕ) → a < 2 ^ d → b < 2 ^ d → c < 2 ^ d
    → metric g d a b *ℤ metric g d (bit_xor a b) c ≡ metric g d b c *ℤ metric g d a (bit_xor b c)
metric_cocycle g d a b c ha hb hc =
    let o = orient d in
    let abc = bit_xor a (bit_xor b c) in
    ap₂ (λ s t. s *ℤ t) (metric_is g d a b) (metric_is g d (bit_xor a b) c)
    ∙ ap₂ (λ m s. (o a *ℤ o b *ℤ o (bit_xor a b)) *ℤ sigma g d (has a) (has b) *ℤ ((o (bit_xor a b) *ℤ o c *ℤ o m) *ℤ sigma g d s (has c)))
    (xor_assoc d a b c ha hb hc) (has_xor a b)
    ∙ before (o a) (o b) (o c) (o (bit_xor a b)) (o abc) (sigma g d (has a) (has b)) (sigma g d (has a ⊕ has b) (has c))
    ∙ ap₂ (λ s t. (o a *ℤ o b *ℤ o c *ℤ o abc) *ℤ (s *ℤ t)) (sign_square (turned d (bit_xor a b)) ∙ sym (sign_square (turned d (bit_xor b c))))
    (sigma_cocycle g d (has a) (has b) (has c))
    ∙ after (o a) (o b) (o c) (o (bit_xor b c)) (o abc) (sigma g d (has b) (has c)) (sigma g d (has a) (has b ⊕ has c))
    ∙ ap (λ s. (o b *ℤ o c *ℤ o (bit_xor b c)) *ℤ sigma g d (has b) (has c) *ℤ ((o a *ℤ o (bit_xor b c) *ℤ o abc) *ℤ sigma g d (has a) s)) (sym (has_xor b c))
    ∙ sym (ap₂ (λ s t. s *ℤ t) (metric_is g d b c) (metric_is g d a (bit_xor b c)))
  where
    before : (a b c m n s t : ℤ) → (a *ℤ b *ℤ m) *ℤ s *ℤ ((m *ℤ c *ℤ n) *ℤ t) ≡ (a *ℤ b *ℤ c *ℤ n) *ℤ ((m *ℤ m) *ℤ (s *ℤ t))
    before a b c m n s t = simp product

    after : (a b c m n s t : ℤ) → (a *ℤ b *ℤ c *ℤ n) *ℤ ((m *ℤ m) *ℤ (s *ℤ t)) ≡ (b *ℤ c *ℤ m) *ℤ s *ℤ ((a *ℤ m *ℤ n) *ℤ t)
    after a b c m n s t = simp product

-- To reverse a product is to reverse both factors and exchange them.
pub metric_reversal : (g : ℕ → ℤ) (d a b : ℕ)
    → reversal (count d (has (bit_xor a b))) *ℤ metric g d a b ≡ reversal (count d (has a)) *ℤ reversal (count d (has b)) *ℤ metric g d b a
metric_reversal g d a b =
    let o = orient d in
    ap₂ (λ r m. r *ℤ m) (ap (λ s. reversal (count d s)) (has_xor a b) ∙ sym (backwards_is d (has a ⊕ has b))) (metric_is g d a b)
    ∙ before (backwards d (has a ⊕ has b)) (o a) (o b) (o (bit_xor a b)) (sigma g d (has a) (has b))
    ∙ ap₂ (λ m s. (o a *ℤ o b *ℤ o m) *ℤ s) (xor_comm a b) (sigma_reversal g d (has a) (has b))
    ∙ after (backwards d (has a)) (backwards d (has b)) (o a) (o b) (o (bit_xor b a)) (sigma g d (has b) (has a))
    ∙ ap₂ (λ r m. r *ℤ m) (ap₂ (λ r t. r *ℤ t) (backwards_is d (has a)) (backwards_is d (has b))) (sym (metric_is g d b a))
  where
    before : (r a b m s : ℤ) → r *ℤ ((a *ℤ b *ℤ m) *ℤ s) ≡ (a *ℤ b *ℤ m) *ℤ (r *ℤ s)
    before r a b m s = simp product

    after : (r t a b m s : ℤ) → (a *ℤ b *ℤ m) *ℤ (r *ℤ t *ℤ s) ≡ r *ℤ t *ℤ ((b *ℤ a *ℤ m) *ℤ s)
    after r t a b m s = simp product

-- ---- the mask 0 is a unit, on either side

has_none : has 0 ≡ none
has_none = fun_ext (λ i. has_beyond 0 0 i (lit< tt) (omega arith))

orient_zero : (d : ℕ) → orient d 0 ≡ pos 1
unfolding turned sign pow one
orient_zero d = ap (λ t. sign (cond t 1 0)) (and-false (eqb d 3))

pub metric_zero_l : (g : ℕ → ℤ) (d b : ℕ) → metric g d 0 b ≡ pos 1
metric_zero_l g d b = metric_is g d 0 b ∙ rw (orient_zero d, xor_zero_l b, has_none, none_sigma g d (has b), one_mul (orient d b), sign_square (turned d b))

pub metric_zero_r : (g : ℕ → ℤ) (d a : ℕ) → metric g d a 0 ≡ pos 1
metric_zero_r g d a = metric_is g d a 0 ∙ rw (orient_zero d, xor_zero_r a, has_none, sigma_none g d (has a), mul_one (orient d a), sign_square (turned d a))

-- ---- vectors above those of a mask bring nothing

module _ (d a : ℕ) (b : Blade) (h : a < 2 ^ d) where
  pub swaps_beyond : (e : ℕ) → d ≤ e → swaps e (has a) b ≡ swaps d (has a) b
  swaps_beyond e l = le_ind (λ (i : ℕ). swaps i (has a) b ≡ swaps d (has a) b) refl (λ i k ih. swaps_suc i (has a) b ∙ rw (has_beyond d a i h k, add-zero) ih) e l

  pub shared_beyond : (g : ℕ → ℤ) (e : ℕ) → d ≤ e → shared g e (has a) b ≡ shared g d (has a) b
  unfolding shared
  shared_beyond g e l = le_ind (λ (i : ℕ). shared g i (has a) b ≡ shared g d (has a) b) refl (λ i k ih. rw (has_beyond d a i h k, mul_one (shared g i (has a) b)) ih) e l
