-- An output that is written from both ends. Assumes nothing.
use mathlib.Core.Path.{◌≡◌, refl, sym, ap, ◌∙◌}
use mathlib.Core.Logic.{⊎_elim}
use mathlib.Core.List.{List}
use Prim.Native.Nat.{ℕ, ◌+◌, ◌-◌, ◌≤◌, ◌<◌}
use native.Mathlib.Decide.{ℕ_discrete}
use native.Mathlib.Omega.{arith}
use lib.ListN.{length, get_or, set, drop, length-set, get_or-append}
use lib.Seq.{get_or-set_same, get_or-set_other, get_or-drop, ext_get_or}
use Rattle.masks.specs.Outcome.{laid}
use Rattle.masks.proofs.ListLaws.{split, get_d_past, laid_length}

-- the elements xs are there before place i and from place e on, and what is behind them is as it was
pub record Filled {A : Type 0} (z : A) (xs before out : List A) (i e : ℕ) : Type 0 where
  pub long : length out ≡ length before
  pub fits : length xs ≤ length before
  pub front : (j : ℕ) → j < i → get_or out j z ≡ get_or xs j z
  pub back : (j : ℕ) → e ≤ j → j < length xs → get_or out j z ≡ get_or xs j z
  pub past : (j : ℕ) → length xs ≤ j → get_or out j z ≡ get_or before j z

module _ {A : Type 0} {z : A} where
  pub filled_none : (xs out : List A) (e : ℕ) → length xs ≤ length out → e ≡ length xs → Filled z xs out out 0 e
  filled_none xs out e h q = record {
    long = refl;
    fits = h;
    front = λ j l. absurd (omega arith);
    back = λ j l r. absurd (omega arith);
    past = λ j l. refl;
  }

  -- an element of xs written at its place
  module _ (xs before out : List A) (i e p : ℕ) (y : A) (f : Filled z xs before out i e) (h : p < length xs) (q : y ≡ get_or xs p z) where
    right : (j : ℕ) → ((j ≡ p → ⊥) → get_or out j z ≡ get_or xs j z) → get_or (set out p y) j z ≡ get_or xs j z
    right j r =
        elim (ℕ_discrete j p) [
          | yes s ↦ rw s (get_or-set_same out p y z (omega (arith, f.long, f.fits)) ∙ q)
          | no s ↦ get_or-set_other out p j y z s ∙ r s
        ]

    written : (i' e' : ℕ) → ((j : ℕ) → j < i' → (j ≡ p → ⊥) → j < i) → ((j : ℕ) → e' ≤ j → (j ≡ p → ⊥) → e ≤ j) → Filled z xs before (set out p y) i' e'
    written i' e' a b = record {
      long = length-set out p y ∙ f.long;
      fits = f.fits;
      front = λ j l. right j (λ s. f.front j (a j l s));
      back = λ j l r. right j (λ s. f.back j (b j l s) r);
      past = λ j l. get_or-set_other out p j y z (λ s. omega arith) ∙ f.past j l;
    }

    pub filled_front : p ≡ i → Filled z xs before (set out p y) (i + 1) e
    filled_front s =
        written (i + 1) e (λ j l r. ⊎_elim (λ (t : j < i). t) (λ (t : i ≤ j). absurd (r (omega arith))) (split j i)) (λ j l r. l)

    pub filled_back : p + 1 ≡ e → Filled z xs before (set out p y) i p
    filled_back s =
        written i p (λ j l r. l) (λ j l r. ⊎_elim (λ (t : p < j). omega arith) (λ (t : j ≤ p). absurd (r (omega arith))) (split p j))

  pub filled_from : {xs before out : List A} {i e e' : ℕ} → e ≡ e' → Filled z xs before out i e → Filled z xs before out i e'
  filled_from q f = rw (← q) f

  -- all is written where the two ends meet
  pub filled_all : (xs before out : List A) (i e : ℕ) → e ≤ i → Filled z xs before out i e → out ≡ laid xs before
  filled_all xs before out i e h f =
      ext_get_or z out (laid xs before) (f.long ∙ sym (laid_length xs before f.fits))
      (λ j l.
      ⊎_elim
      (λ (r : j < length xs).
      ⊎_elim (λ (s : j < i). f.front j s) (λ (s : i ≤ j). f.back j (omega arith) r) (split j i)
      ∙ sym (get_or-append xs (drop (length xs) before) z j r))
      (λ (r : length xs ≤ j).
      let m : ℕ = j - length xs in
      let s : length xs + m ≡ j = omega arith in
      f.past j r
      ∙ sym
      (ap (λ (k : ℕ). get_or (laid xs before) k z) (sym s)
      ∙ get_d_past xs (drop (length xs) before) (length xs) m z refl
      ∙ get_or-drop (length xs) before m z
      ∙ ap (λ (k : ℕ). get_or before k z) s))
      (split j (length xs)))
