-- The metric and the sign of reversal are derived from the defining relations, with the word that each mask stands for, and no other metric can be.
use mathlib.Core.Path.{◌≡◌, refl, sym, ◌∙◌, ap}
use mathlib.Core.Bool.{and-false}
use mathlib.Core.List.{◌++◌, reverse}
use Prim.Native.Nat.{ℕ}
use native.Mathlib.Omega.{arith}
use native.Mathlib.Decide.{ℕ_discrete}
use lib.Dec.{eqb}
use lib.Bits.{bit_xor}
use lib.IntN.{ℤ, pos, ◌*ℤ◌, pow, one}
use borrow.Author.Tests.{ne_eqb}
use Rattle.clifford.specs.Blade.{has, count}
use Rattle.clifford.specs.Sign.{sign, reversal}
use Rattle.clifford.specs.Metric.{turned, metric}
use Rattle.clifford.specs.Relations.{Equals, exchange, same, chain, left, right, word}
use Rattle.clifford.specs.Placed.{stands}
use Rattle.clifford.proofs.Ring.{product, mul_one}
use Rattle.clifford.proofs.BladeLaws.{has_xor}
use Rattle.clifford.proofs.SignLaws.{sign_square}
use Rattle.clifford.proofs.Sigma.{sigma, backwards_is}
use Rattle.clifford.proofs.MetricLaws.{orient, metric_is}
use Rattle.clifford.proofs.RelationsLaws.{carried, sigma_derived, backwards_derived}
use Rattle.clifford.proofs.RelationsModel.{sigma_unique}

-- What a mask stands for is its vectors in rising order, times its own sign; e3 e1 is the rising e1 e3 exchanged.
oriented : (g : ℕ → ℤ) (d m : ℕ) → Equals g d (stands d m) (orient d m) (word d (has m)) × Equals g d (word d (has m)) (orient d m) (stands d m)
unfolding stands turned sign pow one word has
oriented g d m = go (ℕ_discrete d 3) (ℕ_discrete m 5)
  where
    go : Dec (d ≡ 3) → Dec (m ≡ 5) → Equals g d (stands d m) (orient d m) (word d (has m)) × Equals g d (word d (has m)) (orient d m) (stands d m)
    go (yes p) (yes q) =
        rw (p, q) (exchange 2 0 (omega arith) (omega arith) (λ e. omega arith), exchange 0 2 (omega arith) (omega arith) (λ e. omega arith))
    go (yes p) (no q) = rw (ne_eqb m 5 q, and-false (eqb d 3)) (same _, same _)
    go (no p) q = rw (ne_eqb d 3 p) (same _, same _)

-- What two masks stand for, one after the other, is by the relations the metric times what their xor stands for.
pub metric_derived : (g : ℕ → ℤ) (d a b : ℕ) → Equals g d (stands d a ++ stands d b) (metric g d a b) (stands d (bit_xor a b))
metric_derived g d a b =
    let one = right (stands d b) (oriented g d a).0 in
    let two = left (word d (has a)) (oriented g d b).0 in
    let three = rw (← has_xor a b) at (sigma_derived g d d (has a) (has b) (omega arith)) in
    let four = (oriented g d (bit_xor a b)).1 in
    carried g d refl (shape (orient d a) (orient d b) (orient d (bit_xor a b)) (sigma g d (has a) (has b)) ∙ sym (metric_is g d a b)) refl
    (chain one (chain two (chain three four)))
  where
    shape : (a b c s : ℤ) → a *ℤ (b *ℤ (s *ℤ c)) ≡ (a *ℤ b *ℤ c) *ℤ s
    shape a b c s = simp product

-- Any number that the relations give for them is the metric.
pub metric_unique : {g : ℕ → ℤ} {d : ℕ} {s : ℤ} (a b : ℕ) → Equals g d (stands d a ++ stands d b) s (stands d (bit_xor a b)) → s ≡ metric g d a b
metric_unique {g} {d} {s} a b e =
    let o = orient d in
    let one = right (word d (has b)) (oriented g d a).1 in
    let two = left (stands d a) (oriented g d b).1 in
    let found = sigma_unique {g = g} {n = d} (has a) (has b) (has (bit_xor a b)) (chain one (chain two (chain e (oriented g d (bit_xor a b)).0))) in
    cancel (o a) (o b) (o (bit_xor a b)) s (sign_square (turned d a)) (sign_square (turned d b)) (sign_square (turned d (bit_xor a b)))
    ∙ ap (λ t. (o a *ℤ o b *ℤ o (bit_xor a b)) *ℤ t) found ∙ sym (metric_is g d a b)
  where
    cancel : (a b c s : ℤ) → a *ℤ a ≡ pos 1 → b *ℤ b ≡ pos 1 → c *ℤ c ≡ pos 1 → s ≡ (a *ℤ b *ℤ c) *ℤ (a *ℤ (b *ℤ (s *ℤ c)))
    cancel a b c s p q r = sym (squares a b c s ∙ rw (p, q, r, mul_one s))
      where
        squares : (a b c s : ℤ) → (a *ℤ b *ℤ c) *ℤ (a *ℤ (b *ℤ (s *ℤ c))) ≡ s *ℤ ((a *ℤ a) *ℤ ((b *ℤ b) *ℤ (c *ℤ c)))
        squares a b c s = simp product

-- What a mask stands for, read backwards, is by the relations the sign that `reverse` gives to its grade, times what it stands for.
pub reversal_derived : (g : ℕ → ℤ) (d m : ℕ) → Equals g d (reverse (stands d m)) (reversal (count d (has m))) (stands d m)
unfolding stands word has count reversal
reversal_derived g d m = go (ℕ_discrete d 3) (ℕ_discrete m 5)
  where
    rising : Equals g d (reverse (word d (has m))) (reversal (count d (has m))) (word d (has m))
    rising = carried g d refl (backwards_is d (has m)) refl (backwards_derived g d d (has m) (omega arith))

    go : Dec (d ≡ 3) → Dec (m ≡ 5) → Equals g d (reverse (stands d m)) (reversal (count d (has m))) (stands d m)
    go (yes p) (yes q) = rw (p, q) (exchange 0 2 (omega arith) (omega arith) (λ e. omega arith))
    go (yes p) (no q) = rw (ne_eqb m 5 q, and-false (eqb d 3)) rising
    go (no p) q = rw (ne_eqb d 3 p) rising
