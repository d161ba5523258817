-- By the relations the words of two blades, one after the other, are sigma times the word of the blades' xor, and a word read backwards goes by pairs.
use mathlib.Core.Path.{◌≡◌, refl, sym, ◌∙◌, ap}
use mathlib.Core.Bool.{Bool, true, false, cond}
use mathlib.Core.List.{List, [], ◌∷◌, ◌++◌, append_assoc, append-nil, reverse, reverse-append}
use Prim.Native.Nat.{ℕ, zero, suc, ◌<◌, ◌≤◌}
use native.Mathlib.Omega.{arith}
use lib.IntN.{ℤ, negsuc, ◌*ℤ◌}
use Rattle.clifford.specs.Blade.{Blade, ◌⊻◌, ◌⊕◌}
use Rattle.clifford.specs.Relations.{Equals, exchange, square, same, chain, left, right, word}
use Rattle.clifford.proofs.Ring.{mul_left_comm, mul_one}
use Rattle.clifford.proofs.Sigma.{when, parity, sigma, backwards}

-- `only x i` is the word of vector i where the test holds, else the empty word.
abbrev pub only : Bool → ℕ → List ℕ
only x i = cond x (i ∷ []) []

out : (a x b y : List ℕ) → (a ++ x) ++ (b ++ y) ≡ a ++ ((x ++ b) ++ y)
out a x b y = simp append_assoc

together : (a x b y : List ℕ) → a ++ ((b ++ x) ++ y) ≡ (a ++ b) ++ (x ++ y)
together a x b y = simp append_assoc

module _ (g : ℕ → ℤ) (n : ℕ) where
  -- An equation may be read with equal words and an equal number.
  pub carried : {u u' v v' : List ℕ} {s s' : ℤ} → u' ≡ u → s ≡ s' → v ≡ v' → Equals g n u s v → Equals g n u' s' v'
  carried p q r e = rw (p, ← q, ← r) e

  -- A vector passes a word of lower vectors.
  past : (k d : ℕ) (b : Blade) → d ≤ k → k < n → Equals g n ((k ∷ []) ++ word d b) (parity d b) (word d b ++ (k ∷ []))
  unfolding word parity
  past k zero b h l = same (k ∷ [])
  past k (suc d) b h l = go (b d) (past k d b (omega arith) l)
    where
      go : (y : Bool) → Equals g n ((k ∷ []) ++ word d b) (parity d b) (word d b ++ (k ∷ []))
          → Equals g n ((k ∷ []) ++ (word d b ++ only y d)) (parity d b *ℤ when y (negsuc 0)) ((word d b ++ only y d) ++ (k ∷ []))
      go false r = simp (append-nil, mul_one) r
      go true r = chain (right (d ∷ []) r)
          (carried (append_assoc (word d b) (k ∷ []) (d ∷ [])) refl (sym (append_assoc (word d b) (d ∷ []) (k ∷ [])))
          (left (word d b) (exchange k d l (omega arith) (λ e. omega arith))))

  -- Vector d of the left blade, if it has it, passes the right one's lower vectors.
  moved : (x : Bool) (d : ℕ) (b : Blade) → d < n → Equals g n (only x d ++ word d b) (when x (parity d b)) (word d b ++ only x d)
  moved false d b h = simp append-nil (same (word d b))
  moved true d b h = past d d b (omega arith) h

  -- Vectors d of the two blades meet side by side.
  met : (x y : Bool) (d : ℕ) → d < n → Equals g n (only x d ++ only y d) (when x (when y (g d))) (only (x ⊻ y) d)
  met false y d h = same (only y d)
  met true false d h = same (d ∷ [])
  met true true d h = square d h

  pub sigma_derived : (d : ℕ) (a b : Blade) → d ≤ n → Equals g n (word d a ++ word d b) (sigma g d a b) (word d (a ⊕ b))
  unfolding word sigma
  sigma_derived zero a b h = same []
  sigma_derived (suc d) a b h =
      let x = only (a d) d in
      let y = only (b d) d in
      let first = left (word d a) (right y (moved (a d) d b (omega arith))) in
      let second = right (x ++ y) (sigma_derived d a b (omega arith)) in
      let third = left (word d (a ⊕ b)) (met (a d) (b d) d (omega arith)) in
      carried (out (word d a) x (word d b) y) (mul_left_comm (when (a d) (parity d b)) (sigma g d a b) (when (a d) (when (b d) (g d)))) refl
      (chain (carried refl refl (together (word d a) x (word d b) y) first) (chain second third))

  -- A blade's word read backwards is `backwards` times the word.
  pub backwards_derived : (d : ℕ) (a : Blade) → d ≤ n → Equals g n (reverse (word d a)) (backwards d a) (word d a)
  unfolding word backwards
  backwards_derived zero a h = same []
  backwards_derived (suc d) a h =
      carried (reverse-append (word d a) (only (a d) d) ∙ ap (λ u. u ++ reverse (word d a)) (alone (a d))) refl refl
      (chain (left (only (a d) d) (backwards_derived d a (omega arith))) (moved (a d) d a (omega arith)))
    where
      alone : (x : Bool) → reverse (only x d) ≡ only x d
      alone true = refl
      alone false = refl
