-- Patterns to numbers and back, by the library's laws of a float's bits, and for lists item by item; and what a call that converts a list writes. Assumes nothing.
use mathlib.Core.Path.{◌≡◌, refl, sym, ap, ◌∙◌, subst}
use mathlib.Core.Bool.{not}
use mathlib.Core.List.{List, [], ◌∷◌, map}
use Prim.Native.Nat.{ℕ, suc, ◌+◌, ◌*◌, ◌/◌, ◌%◌, ◌^◌, ◌≤◌, ◌<◌, suc-le-suc}
use native.Mathlib.Nat.{zero-lt-suc}
use native.Mathlib.Omega.{arith}
use borrow.Author.Tests.{lt-ltb, le-ltb, eq-eqb, ne_eqb}
use lib.Dec.{T}
use lib.Ieee.{Float, nan, inf, fin, binary64, fits, is_nan, nan_bits, of_bits, to_bits}
use lib.Ieee.Bits.{of_bits-to_bits, to_bits-of_bits, nan_bits_is}
use lib.ListN.{length, get_or, set, take, drop, length-map}
use Rattle.std.specs.Prelude.{Ok, Err, Result}
use Rattle.std.specs.Simd.{first_chunks}
use Rattle.masks.specs.declared.outcome.Refusal.{Refusal}
use Rattle.masks.specs.declared.outcome.Refusal.TheVariants.{WrongCount, NoRoom}
use Rattle.masks.specs.Outcome.{refusal, unless, laid, Writes}
use Rattle.masks.proofs.ListLaws.{get_d_map}
use Rattle.masks.proofs.OutcomeLaws.{writes_refused, writes_done}
use Rattle.sheets.specs.Bytes.{from_little_endian, parts}
use Rattle.sheets.specs.Patterns.{converted, numbers_of, patterns_in, numbers_in}
use Rattle.sheets.proofs.BytesLaws.{parts_length, get_d-parts, chunks_are}

-- a pattern that is no NaN's comes back
pub pattern_back : (x : ℕ) → x < 2 ^ 64 → T (not (nan_bits binary64 x)) → to_bits binary64 (of_bits binary64 x) ≡ x
pattern_back x h n = to_bits-of_bits binary64 x h (rw (nan_bits_is binary64 x) at n)

-- a number comes back, NaN too
pub number_back : (x : Float) → T (fits binary64 x) → of_bits binary64 (to_bits binary64 x) ≡ x
number_back x h = of_bits-to_bits binary64 x h

-- NaN has one pattern, 7FF8000000000000, and every NaN's pattern gives NaN
pub nan_pattern : to_bits binary64 nan ≡ 9221120237041090560
unfolding to_bits
nan_pattern = refl

pub is_nan_lem : (v : Float) → T (is_nan v) → v ≡ nan
unfolding is_nan
is_nan_lem nan t = refl
is_nan_lem (inf s) t = absurd t
is_nan_lem (fin s m e) t = absurd t

pub nan_number : (x : ℕ) → T (nan_bits binary64 x) → of_bits binary64 x ≡ nan
nan_number x h = is_nan_lem (of_bits binary64 x) (rw (nan_bits_is binary64 x) at h)

-- ---- lists

-- items come back where each does
pub map_back {ℓ κ} : {A : Type ℓ} {B : Type κ} (f : A → B) (g : B → A) (d : A) (xs : List A) → ((i : ℕ) → i < length xs → g (f (get_or xs i d)) ≡ get_or xs i d) → map g (map f xs) ≡ xs
map_back f g d [] h = refl
map_back f g d (x ∷ xs) h = rw (h 0 (zero-lt-suc (length xs)), map_back f g d xs (λ i l. h (suc i) (suc-le-suc l)))

pub patterns_back : (xs : List ℕ) → ((i : ℕ) → i < length xs → (get_or xs i 0 < 2 ^ 64) × T (not (nan_bits binary64 (get_or xs i 0)))) → map (to_bits binary64) (map (of_bits binary64) xs) ≡ xs
patterns_back xs h = map_back (of_bits binary64) (to_bits binary64) 0 xs (λ i l. pattern_back (get_or xs i 0) (h i l).0 (h i l).1)

pub numbers_back : (xs : List Float) → ((i : ℕ) → i < length xs → T (fits binary64 (get_or xs i nan))) → map (of_bits binary64) (map (to_bits binary64) xs) ≡ xs
numbers_back xs h = map_back (to_bits binary64) (of_bits binary64) nan xs (λ i l. number_back (get_or xs i nan) (h i l))

-- ---- what f makes of each item of a list

module _ {A B : Type 0} (f : A → B) (xs : List A) (out : List B) where
  pub converted_refused : length out < length xs → Writes (converted f xs (length out)) (Err NoRoom) out out
  unfolding converted refusal
  converted_refused h = writes_refused _ NoRoom _ out (rw (lt-ltb _ _ h))

  pub converted_done : (after : List B) → length xs ≤ length out → after ≡ laid (map f xs) out → Writes (converted f xs (length out)) (Ok (length xs)) out after
  unfolding converted refusal
  converted_done after h e = writes_done _ _ _ out after (rw (le-ltb _ _ h)) refl (sym (length-map xs f)) e

-- ---- patterns that are bytes

pub patterns_in_length : (b : List ℕ) → length (patterns_in b) ≡ length b / 8
patterns_in_length b = length-map (parts 8 (length b / 8) b) from_little_endian ∙ parts_length 8 (length b / 8) b

pub pattern_in : (b : List ℕ) (i : ℕ) → i < length b / 8 → get_or (patterns_in b) i 0 ≡ from_little_endian (take 8 (drop (8 * i) b))
pattern_in b i h = get_d_map from_little_endian (parts 8 (length b / 8) b) i [] 0 (omega (arith, parts_length 8 (length b / 8) b)) ∙ ap from_little_endian (get_d-parts 8 (length b / 8) b i h)

-- bytes that are not eight to a pattern are refused; others give the numbers of their patterns
pub in_refused : (b : List ℕ) (out : List Float) → (length b % 8 ≡ 0 → ⊥) → Writes (numbers_in b (length out)) (Err WrongCount) out out
unfolding numbers_in refusal
in_refused b out h = writes_refused _ WrongCount _ out (rw (ne_eqb (length b % 8) 0 h))

pub in_eights : (b : List ℕ) (room : ℕ) → length b % 8 ≡ 0 → numbers_in b room ≡ numbers_of (patterns_in b) room
unfolding numbers_in refusal unless
in_eights b room e = rw (eq-eqb (length b % 8) 0 e)

-- what is made of what is made of each item is made of it
converted_twice : {A B C : Type 0} (f : B → C) (g : A → B) (xs : List A) (room : ℕ) → converted (λ x. f (g x)) xs room ≡ converted f (map g xs) room
unfolding converted
converted_twice f g xs room = rw (length-map xs g, twice xs)
  where
    twice : (ys : List _) → map f (map g ys) ≡ map (λ x. f (g x)) ys
    twice [] = refl
    twice (y ∷ ys) = ap (λ l. f (g y) ∷ l) (twice ys)

pub in_done : (b : List ℕ) (cs : List (List ℕ)) (out : List Float) (r : Result ℕ Refusal) (after : List Float) → length b % 8 ≡ 0 → cs ≡ first_chunks 8 (length b / 8) b
    → Writes (converted (λ x. of_bits binary64 (from_little_endian x)) cs (length out)) r out after → Writes (numbers_in b (length out)) r out after
in_done b cs out r after e q w =
    let same = ap (λ xs. converted (λ x. of_bits binary64 (from_little_endian x)) xs (length out)) (q ∙ chunks_are 8 (length b / 8) b) ∙ converted_twice (of_bits binary64) from_little_endian (parts 8 (length b / 8) b) (length out) ∙ sym (in_eights b (length out) e) in
    subst (λ o. Writes o r out after) same w
