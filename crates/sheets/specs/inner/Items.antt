-- What a function makes of the items of a list. For the contracts of private functions: no public contract rests on it. Assumes nothing.
use Rattle.std.specs.Prelude.{◌≡◌, List, ℕ, ◌<◌, length, get_or}

-- What may be returned for each item of a list is what g makes of it.
abbrev pub Makes : {A B : Type 0} → (A → B → Type 0) → (A → B) → List A → Type 0
Makes {A = A} {B = B} returns g xs = (i : ℕ) (d : A) (y : B) → i < length xs → returns (get_or xs i d) y → y ≡ g (get_or xs i d)
