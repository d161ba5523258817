-- Laws of numbers as bytes, and of sections. A number is read back by its digits to the base 256, and items by the seams between them. Assumes nothing.
use mathlib.Core.Path.{◌≡◌, refl, sym, ap, ap₂, ◌∙◌}
use mathlib.Core.List.{List, [], ◌∷◌, ◌++◌, map, append_assoc, append-nil}
use Prim.Native.Nat.{ℕ, zero, suc, ◌+◌, ◌*◌, ◌/◌, ◌%◌, ◌^◌, ◌≤◌, ◌<◌, suc-le-suc}
use native.Mathlib.Nat.{le_of_suc-le-suc, not-suc-le-zero, mul-zero, mul-suc, add_comm, zero-lt-suc, pow-zero, pow-suc, mul_assoc, le_of_lt, div-one, div-div-eq-div-mul, mul-div_cancel_left}
use native.Mathlib.Numerals.{add-one}
use native.Mathlib.Omega.{arith}
use borrow.Rule.Slice.PartMut.{put_mid}
use lib.ListN.{length, get_or, take, drop, replicate, length-append, length-drop, length-replicate}
use lib.Seq.{sets, sets-eq, drop-cons, get_or-drop, drop-drop, take-add, take_all, take_at, drop_at, take-suc, take-take, length-take-le}
use Rattle.std.specs.Int.{w64, byte_at, bytes_low_first, from_le_bytes, to_le_bytes}
use Rattle.std.specs.Simd.{first_chunks}
use Rattle.masks.proofs.ListLaws.{get_d_map, sets_append}
use Rattle.sheets.specs.Bytes.{little_endian, from_little_endian, all_bytes, section, parts, count_in, items_in, after_section}

-- every element is a byte
abbrev pub AreBytes : List ℕ → Type 0
AreBytes b = (i : ℕ) → get_or b i 0 < 256

-- ---- one number

pub little_endian-length : (k x : ℕ) → length (little_endian k x) ≡ k
unfolding little_endian
little_endian-length zero x = refl
little_endian-length (suc k) x = ap suc (little_endian-length k (x / 256))

-- a number that k bytes hold comes back
pub number-little_endian : (k x : ℕ) → x < 256 ^ k → from_little_endian (little_endian k x) ≡ x
unfolding little_endian from_little_endian
number-little_endian zero x h = omega arith
number-little_endian (suc k) x h =
    let g : x / 256 < 256 ^ k = omega (arith, pow-suc 256 k) in
    omega (arith, number-little_endian k (x / 256) g)

-- bytes come back from their number
pub little_endian-number : (b : List ℕ) → AreBytes b → little_endian (length b) (from_little_endian b) ≡ b
unfolding little_endian from_little_endian
little_endian-number [] h = refl
little_endian-number (b ∷ bs) h =
    let low : (b + 256 * from_little_endian bs) % 256 ≡ b = omega (arith, h 0) in
    let high : (b + 256 * from_little_endian bs) / 256 ≡ from_little_endian bs = omega (arith, h 0) in
    rw (low, high) (ap (λ (l : List ℕ). b ∷ l) (little_endian-number bs (λ i. h (suc i))))

pub number_lt : (b : List ℕ) → AreBytes b → from_little_endian b < 256 ^ length b
unfolding from_little_endian
number_lt [] h = omega arith
number_lt (b ∷ bs) h = omega (arith, h 0, number_lt bs (λ i. h (suc i)), pow-suc 256 (length bs))

-- a part of bytes has bytes
pub take_bytes : (n : ℕ) (b : List ℕ) → AreBytes b → AreBytes (take n b)
take_bytes zero b h i = omega arith
take_bytes (suc n) [] h i = omega arith
take_bytes (suc n) (x ∷ xs) h zero = h 0
take_bytes (suc n) (x ∷ xs) h (suc i) = take_bytes n xs (λ j. h (suc j)) i

pub drop_bytes : (n : ℕ) (b : List ℕ) → AreBytes b → AreBytes (drop n b)
drop_bytes n b h i = rw (get_or-drop n b i 0) (h (n + i))

-- the number of bytes below others
pub number_append : (b c : List ℕ) → from_little_endian (b ++ c) ≡ from_little_endian b + 256 ^ length b * from_little_endian c
unfolding from_little_endian
number_append [] c = omega arith
number_append (x ∷ b) c =
    omega (arith, number_append b c, ap (λ (k : ℕ). k * from_little_endian c) (pow-suc 256 (length b)), mul_assoc (256 ^ length b) 256 (from_little_endian c))

-- the number of one byte more, below the others
pub number_down : (b : List ℕ) (at n : ℕ) → at < length b → from_little_endian (take (suc n) (drop at b)) ≡ get_or b at 0 + 256 * from_little_endian (take n (drop (suc at) b))
unfolding from_little_endian
number_down b at n h = rw (drop-cons b at 0 h)

-- ---- the library's conversions of eight bytes

-- one byte, below the number of those after it
byte_down : (b : List ℕ) (at next n : ℕ) → suc at ≡ next → at < length b → from_little_endian (take (suc n) (drop at b)) ≡ get_or b at 0 + 256 * from_little_endian (take n (drop next b))
byte_down b at next n e h = number_down b at n h ∙ ap (λ (k : ℕ). get_or b at 0 + 256 * from_little_endian (take n (drop k b))) e

pub from_eight : (b : List ℕ) → length b ≡ 8 → from_le_bytes w64 b ≡ from_little_endian b
unfolding from_little_endian
from_eight b h =
    let whole : from_little_endian (take 8 (drop 0 b)) ≡ from_little_endian b = ap from_little_endian (take_all 8 b (omega arith)) in
    omega (
      arith,
      whole,
      byte_down b 0 1 7 (omega arith) (omega arith),
      byte_down b 1 2 6 (omega arith) (omega arith),
      byte_down b 2 3 5 (omega arith) (omega arith),
      byte_down b 3 4 4 (omega arith) (omega arith),
      byte_down b 4 5 3 (omega arith) (omega arith),
      byte_down b 5 6 2 (omega arith) (omega arith),
      byte_down b 6 7 1 (omega arith) (omega arith),
      byte_down b 7 8 0 (omega arith) (omega arith),
    )

-- zeros past the bytes of a number do not count
zeros_none : (n k : ℕ) → from_little_endian (drop n (replicate k 0)) ≡ 0
unfolding from_little_endian
zeros_none zero zero = refl
zeros_none zero (suc k) = omega (arith, zeros_none zero k)
zeros_none (suc n) zero = refl
zeros_none (suc n) (suc k) = zeros_none n k

pub from_padded : (b : List ℕ) (n : ℕ) → n ≤ 8 → length b ≡ n → from_le_bytes w64 (b ++ drop n (replicate 8 0)) ≡ from_little_endian b
from_padded b n h e =
    let full : length (b ++ drop n (replicate 8 0)) ≡ 8 = omega (arith, length-append b (drop n (replicate 8 0)), length-drop n (replicate {A = ℕ} 8 0), length-replicate {A = ℕ} 8 0) in
    from_eight (b ++ drop n (replicate 8 0)) full
    ∙ number_append b (drop n (replicate 8 0))
    ∙ omega (arith, ap (λ (k : ℕ). 256 ^ length b * k) (zeros_none n 8), mul-zero (256 ^ length b))

low_first : (i k x : ℕ) → bytes_low_first i k x ≡ little_endian k (x / 256 ^ i)
unfolding little_endian
low_first i zero x = refl
low_first i (suc k) x = ap₂ ◌∷◌ (byte i) (low_first (suc i) k x ∙ ap (little_endian k) higher)
  where
    byte : (i : ℕ) → byte_at i x ≡ x / 256 ^ i % 256
    byte zero = rw (pow-zero, div-one)
    byte (suc i) = refl

    higher : x / 256 ^ suc i ≡ x / 256 ^ i / 256
    higher = ap (λ (n : ℕ). x / n) (pow-suc 256 i) ∙ sym (div-div-eq-div-mul x (256 ^ i) 256)

pub to_eight : (x : ℕ) → to_le_bytes w64 x ≡ little_endian 8 x
to_eight x = low_first 0 8 x ∙ ap (little_endian 8) (rw (pow-zero, div-one))

-- the first bytes of a number in more bytes
pub fewer_bytes : (k n x : ℕ) → k ≤ n → take k (little_endian n x) ≡ little_endian k x
unfolding little_endian
fewer_bytes zero n x h = refl
fewer_bytes (suc k) zero x h = absurd (not-suc-le-zero h)
fewer_bytes (suc k) (suc n) x h = ap (λ (l : List ℕ). x % 256 ∷ l) (fewer_bytes k n (x / 256) (le_of_suc-le-suc h))

-- a part of a list that is written over
pub put_mid_sets : {A : Type 0} (at k : ℕ) (xs ys : List A) → length ys ≡ k → at + k ≤ length xs → put_mid at k xs ys ≡ sets xs at ys
put_mid_sets at k xs ys e h =
    rw (drop-drop k at xs, sets-eq ys xs at (omega arith), e)
    (sym (append_assoc (take at xs) ys (drop (at + k) xs)))

-- ---- items one after the other

pub all_bytes-append {ℓ} : {A : Type ℓ} (f : A → List ℕ) (xs ys : List A) → all_bytes f (xs ++ ys) ≡ all_bytes f xs ++ all_bytes f ys
unfolding all_bytes
all_bytes-append f [] ys = refl
all_bytes-append f (x ∷ xs) ys = ap (λ (l : List ℕ). f x ++ l) (all_bytes-append f xs ys) ∙ sym (append_assoc (f x) (all_bytes f xs) (all_bytes f ys))

-- items' bytes are the same where each item's are
pub all_bytes_same {ℓ} : {A : Type ℓ} (f g : A → List ℕ) → ((x : A) → f x ≡ g x) → (xs : List A) → all_bytes f xs ≡ all_bytes g xs
unfolding all_bytes
all_bytes_same f g h [] = refl
all_bytes_same f g h (x ∷ xs) = ap₂ ◌++◌ (h x) (all_bytes_same f g h xs)

pub whole_bytes : (k : ℕ) (xs : List ℕ) → all_bytes (λ x. take k (little_endian k x)) xs ≡ all_bytes (little_endian k) xs
whole_bytes k = all_bytes_same (λ x. take k (little_endian k x)) (little_endian k) (λ x. take_all k (little_endian k x) (omega (arith, little_endian-length k x)))

module _ {ℓ} {A : Type ℓ} (f : A → List ℕ) (k : ℕ) (each : (x : A) → length (f x) ≡ k) where
  pub all_bytes-length : (xs : List A) → length (all_bytes f xs) ≡ k * length xs
  unfolding all_bytes
  all_bytes-length [] = sym (mul-zero k)
  all_bytes-length (x ∷ xs) = omega (arith, length-append (f x) (all_bytes f xs), each x, all_bytes-length xs, mul-suc k (length xs))

  -- the items' bytes are the parts of the whole
  pub parts-all_bytes : (xs : List A) (r : List ℕ) → parts k (length xs) (all_bytes f xs ++ r) ≡ map f xs
  unfolding all_bytes parts
  parts-all_bytes [] r = refl
  parts-all_bytes (x ∷ xs) r =
      rw (append_assoc (f x) (all_bytes f xs) r, take_at (f x) (all_bytes f xs ++ r) k (each x), drop_at (f x) (all_bytes f xs ++ r) k (each x))
      (ap (λ (l : List (List ℕ)). f x ∷ l) (parts-all_bytes xs r))

  pub section_length : (w : ℕ) (xs : List A) → length (section w f xs) ≡ w + k * length xs
  unfolding section
  section_length w xs = omega (arith, length-append (little_endian w (length xs)) (all_bytes f xs), little_endian-length w (length xs), all_bytes-length xs)

  -- a section that stands before anything is read back: its count, its items and what follows
  pub count_section : (w : ℕ) (xs : List A) (r : List ℕ) → length xs < 256 ^ w → count_in w (section w f xs ++ r) ≡ length xs
  unfolding section
  count_section w xs r h =
      rw (append_assoc (little_endian w (length xs)) (all_bytes f xs) r, take_at (little_endian w (length xs)) (all_bytes f xs ++ r) w (little_endian-length w (length xs)))
      (number-little_endian w (length xs) h)

  pub items_section : (w : ℕ) (xs : List A) (r : List ℕ) → length xs < 256 ^ w → items_in w k (section w f xs ++ r) ≡ map f xs
  unfolding section
  items_section w xs r h =
      rw (count_section w xs r h, append_assoc (little_endian w (length xs)) (all_bytes f xs) r, drop_at (little_endian w (length xs)) (all_bytes f xs ++ r) w (little_endian-length w (length xs)))
      (parts-all_bytes xs r)

  pub after_section_lem : (w : ℕ) (xs : List A) (r : List ℕ) → length xs < 256 ^ w → after_section w k (section w f xs ++ r) ≡ r
  after_section_lem w xs r h = rw (count_section w xs r h) (drop_at (section w f xs) r (w + k * length xs) (section_length w xs))

  -- one item more is written, after those before it
  pub sets_item : (xs : List A) (d : A) (l : List ℕ) (at i : ℕ) → i < length xs → sets (sets l at (all_bytes f (take i xs))) (at + k * i) (f (get_or xs i d)) ≡ sets l at (all_bytes f (take (i + 1) xs))
  unfolding all_bytes
  sets_item xs d l at i h =
      let e : length (all_bytes f (take i xs)) ≡ k * i = all_bytes-length (take i xs) ∙ ap (λ (n : ℕ). k * n) (length-take-le i xs (le_of_lt h)) in
      rw (add-one i, take-suc xs i d h, all_bytes-append f (take i xs) (get_or xs i d ∷ []), append-nil (f (get_or xs i d)), sets_append (all_bytes f (take i xs)) (f (get_or xs i d)) l at, e)

-- ---- parts

pub parts_length : (k n : ℕ) (b : List ℕ) → length (parts k n b) ≡ n
unfolding parts
parts_length k zero b = refl
parts_length k (suc n) b = ap suc (parts_length k n (drop k b))

-- the library's chunks are the parts
pub chunks_are : (k n : ℕ) (b : List ℕ) → first_chunks k n b ≡ parts k n b
unfolding parts
chunks_are k zero b = refl
chunks_are k (suc n) b = ap (λ (l : List (List ℕ)). take k b ∷ l) (chunks_are k n (drop k b))

-- one part more is left out
drop_part : (k i : ℕ) (b : List ℕ) → drop (k * i) (drop k b) ≡ drop (k * suc i) b
drop_part k i b = drop-drop (k * i) k b ∙ ap (λ (n : ℕ). drop n b) (add_comm k (k * i) ∙ sym (mul-suc k i))

pub get_d-parts : (k n : ℕ) (b : List ℕ) (i : ℕ) → i < n → get_or (parts k n b) i [] ≡ take k (drop (k * i) b)
unfolding parts
get_d-parts k zero b i h = absurd (not-suc-le-zero h)
get_d-parts k (suc n) b zero h = rw mul-zero
get_d-parts k (suc n) b (suc i) h = get_d-parts k n (drop k b) i (le_of_suc-le-suc h) ∙ ap (take k) (drop_part k i b)

-- parts of the first k * n bytes are those of all
pub parts_take : (k n : ℕ) (b : List ℕ) → k * n ≤ length b → parts k n (take (k * n) b) ≡ parts k n b
unfolding parts
parts_take k zero b h = refl
parts_take k (suc n) b h =
    let e = mul-suc k n in
    let l : k ≤ length b = omega arith in
    let m : k * suc n ≡ k + k * n = omega arith in
    let first : take k (take (k * suc n) b) ≡ take k b = take-take k (k * suc n) b (omega arith) in
    let rest : drop k (take (k * suc n) b) ≡ take (k * n) (drop k b) = ap (λ (j : ℕ). drop k (take j b)) m ∙ ap (drop k) (take-add k (k * n) b) ∙ drop_at (take k b) (take (k * n) (drop k b)) k (length-take-le k b l) in
    ap₂ ◌∷◌ first (ap (parts k n) rest ∙ parts_take k n (drop k b) (omega (arith, length-drop k b)))

-- all the parts of the first k * n bytes are n of those of all
pub parts_front : (k n : ℕ) (b : List ℕ) → 0 < k → k * n ≤ length b → parts k (length (take (k * n) b) / k) (take (k * n) b) ≡ parts k n b
parts_front k n b g h =
    let m : length (take (k * n) b) / k ≡ n = ap (λ (i : ℕ). i / k) (length-take-le (k * n) b h) ∙ mul-div_cancel_left n g in
    ap (λ (i : ℕ). parts k i (take (k * n) b)) m ∙ parts_take k n b h

-- what is done to a part, by its index: `at` is where the first part stands
pub get_d-map_parts {ℓ} : {A : Type ℓ} (g : List ℕ → A) (d : A) (k n at : ℕ) (b : List ℕ) (i : ℕ) → i < n → get_or (map g (parts k n (drop at b))) i d ≡ g (take k (drop (at + k * i) b))
get_d-map_parts g d k n at b i h =
    get_d_map g (parts k n (drop at b)) i [] d (omega (arith, parts_length k n (drop at b)))
    ∙ ap g (get_d-parts k n (drop at b) i h ∙ ap (take k) (drop-drop (k * i) at b))

-- parts that are each some item's bytes are the whole's bytes
pub all_bytes-parts {ℓ} : {A : Type ℓ} (f : A → List ℕ) (g : List ℕ → A) (k n : ℕ) (b : List ℕ) → ((i : ℕ) → i < n → f (g (take k (drop (k * i) b))) ≡ take k (drop (k * i) b)) → all_bytes f (map g (parts k n b)) ≡ take (k * n) b
unfolding all_bytes parts
all_bytes-parts f g k zero b e = rw mul-zero
all_bytes-parts f g k (suc n) b e =
    let first : f (g (take k b)) ≡ take k b = rw mul-zero at (e 0 (zero-lt-suc n)) in
    let rest : (i : ℕ) → i < n → f (g (take k (drop (k * i) (drop k b)))) ≡ take k (drop (k * i) (drop k b)) = λ i l. rw (drop_part k i b) (e (suc i) (suc-le-suc l)) in
    rw (mul-suc k n, add_comm (k * n) k, take-add k (k * n) b, first, all_bytes-parts f g k n (drop k b) rest)

-- parts among parts
pub parts_inside : (k n s m : ℕ) (b : List ℕ) → s + m ≤ n → take m (drop s (parts k n b)) ≡ parts k m (drop (k * s) b)
unfolding parts
parts_inside k n zero zero b h = refl
parts_inside k zero zero (suc m) b h = absurd (omega arith)
parts_inside k (suc n) zero (suc m) b h =
    rw (mul-zero k) (ap (λ (l : List (List ℕ)). take k b ∷ l) (parts_inside k n 0 m (drop k b) (omega arith) ∙ rw (mul-zero k)))
parts_inside k zero (suc s) m b h = absurd (omega arith)
parts_inside k (suc n) (suc s) m b h =
    let e : k + k * s ≡ k * suc s = omega (arith, mul-suc k s) in
    parts_inside k n s m (drop k b) (omega arith) ∙ ap (parts k m) (drop-drop (k * s) k b ∙ ap (λ (j : ℕ). drop j b) e)
