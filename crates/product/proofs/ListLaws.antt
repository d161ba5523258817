-- Lists that have g k at place k, and outputs that are laid over each other. Assumes nothing.
use mathlib.Core.Path.{◌≡◌, refl, sym, ap, ap₂, ◌∙◌}
use mathlib.Core.List.{List, [], ◌∷◌, ◌++◌, map, append-nil}
use Prim.Native.Nat.{ℕ, zero, suc, ◌+◌, ◌≤◌, ◌<◌, suc-le-suc}
use native.Mathlib.Nat.{zero-add, add-zero, add-suc, suc-add, suc_inj, suc-ne-zero, zero-lt-suc}
use native.Mathlib.Omega.{arith}
use lib.Ieee.{Float, nan}
use lib.ListN.{length, get_or, take, drop, length-map, length-take, drop_of_length-le, get_or-append}
use lib.Seq.{drop-append_seam, get_or-drop}
use Rattle.masks.specs.Order.{up_from}
use Rattle.masks.specs.Outcome.{laid}
use Rattle.masks.proofs.ListLaws.{front, get_d_map, get_d_past}
use Rattle.masks.proofs.OrderLaws.{up_length, up_at}

-- A list goes by its places.
pub by_places : (g : ℕ → Float) (i n : ℕ) (l : List Float) → length l ≡ n → ((k : ℕ) → k < n → get_or l k nan ≡ g (i + k)) → l ≡ map g (up_from i n)
unfolding up_from
by_places g i zero [] e h = refl
by_places g i zero (x ∷ l) e h = absurd (suc-ne-zero (length l) e)
by_places g i (suc n) [] e h = absurd (suc-ne-zero n (sym e))
by_places g i (suc n) (x ∷ l) e h =
    ap₂ (λ (y : Float) (m : List Float). y ∷ m) (h 0 (zero-lt-suc n) ∙ ap g (add-zero i))
    (by_places g (suc i) n l (suc_inj e) (λ k p. h (suc k) (suc-le-suc p) ∙ ap g (add-suc i k ∙ sym (suc-add i k))))

module _ (n : ℕ) where
  pub places_length : (g : ℕ → Float) → length (map g (up_from 0 n)) ≡ n
  places_length g = length-map (up_from 0 n) g ∙ up_length 0 n

  pub places_at : (g : ℕ → Float) (k : ℕ) → k < n → get_or (map g (up_from 0 n)) k nan ≡ g k
  places_at g k h = get_d_map g (up_from 0 n) k 0 nan (omega (arith, up_length 0 n)) ∙ ap g (up_at 0 n k h ∙ zero-add k)

  pub places_same : (g : ℕ → Float) (l : List Float) → length l ≡ n → ((k : ℕ) → k < n → get_or l k nan ≡ g k) → l ≡ map g (up_from 0 n)
  places_same g l e h = by_places g 0 n l e (λ k p. h k p ∙ ap g (sym (zero-add k)))

  pub places_ext : (g h : ℕ → Float) → ((k : ℕ) → k < n → g k ≡ h k) → map g (up_from 0 n) ≡ map h (up_from 0 n)
  places_ext g h e = places_same h (map g (up_from 0 n)) (places_length g) (λ k p. places_at g k p ∙ e k p)

-- What is not written yet is what was there.
pub front_next : (k : ℕ) (xs out : List Float) → k ≤ length xs → get_or (front k xs out) k nan ≡ get_or out k nan
front_next k xs out h =
    let e : length (take k xs) ≡ k = omega (arith, length-take k xs) in
    ap (λ (m : ℕ). get_or (front k xs out) m nan) (sym (add-zero k))
    ∙ get_d_past (take k xs) (drop k out) k 0 nan e
    ∙ get_or-drop k out 0 nan ∙ ap (λ (m : ℕ). get_or out m nan) (add-zero k)

-- What was laid is read at its place.
pub laid_at : (xs out : List Float) (k : ℕ) → k < length xs → get_or (laid xs out) k nan ≡ get_or xs k nan
laid_at xs out k h = get_or-append xs (drop (length xs) out) nan k h

-- What is laid over as many numbers hides them.
pub laid_over : (xs ys out : List Float) → length xs ≡ length ys → laid xs (laid ys out) ≡ laid xs out
laid_over xs ys out e = ap (λ (l : List Float). xs ++ l) (ap (λ (n : ℕ). drop n (laid ys out)) e ∙ drop-append_seam ys (drop (length ys) out) ∙ ap (λ (n : ℕ). drop n out) (sym e))

-- What is laid over a part, with what stands past that, is laid over the whole.
pub laid_part : (n : ℕ) (xs out : List Float) → length xs ≡ n → laid xs (take n out) ++ drop n out ≡ laid xs out
laid_part n xs out e =
    let past : drop (length xs) (take n out) ≡ [] = drop_of_length-le (take n out) (omega (arith, e, length-take n out)) in
    rw (past, append-nil) (ap (λ (m : ℕ). xs ++ drop m out) (sym e))
