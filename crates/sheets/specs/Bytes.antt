-- Numbers as bytes, and sections: items after their count. Assumes nothing.
use Rattle.std.specs.Prelude.{List, [], ◌∷◌, ◌++◌, ℕ, zero, suc, ◌+◌, ◌*◌, ◌/◌, ◌%◌, length, take, drop}

-- `little_endian k x` is x in k bytes, the lowest first.
unfoldable pub little_endian : ℕ → ℕ → List ℕ
little_endian zero x = []
little_endian (suc k) x = x % 256 ∷ little_endian k (x / 256)

-- `from_little_endian` is the number that bytes stand for, the lowest first.
unfoldable pub from_little_endian : List ℕ → ℕ
from_little_endian [] = 0
from_little_endian (b ∷ bs) = b + 256 * from_little_endian bs

-- `all_bytes f` has the bytes of each item, one item after the other.
unfoldable pub all_bytes {ℓ} : {A : Type ℓ} → (A → List ℕ) → List A → List ℕ
all_bytes f [] = []
all_bytes f (x ∷ xs) = f x ++ all_bytes f xs

-- A section: items after their count, which takes w bytes.
unfoldable pub section {ℓ} : {A : Type ℓ} → ℕ → (A → List ℕ) → List A → List ℕ
section w f xs = little_endian w (length xs) ++ all_bytes f xs

-- ---- a section as it stands in bytes: its count, its items of k bytes each, and what follows it

-- `parts k n b` has n parts of k bytes each, one after the other.
unfoldable pub parts : ℕ → ℕ → List ℕ → List (List ℕ)
parts k zero b = []
parts k (suc n) b = take k b ∷ parts k n (drop k b)

abbrev pub count_in : ℕ → List ℕ → ℕ
count_in w b = from_little_endian (take w b)

abbrev pub items_in : ℕ → ℕ → List ℕ → List (List ℕ)
items_in w k b = parts k (count_in w b) (drop w b)

abbrev pub after_section : ℕ → ℕ → List ℕ → List ℕ
after_section w k b = drop (w + k * count_in w b) b
