-- What a call gives: its number, its results, and what it writes from the front of the caller's output; and what it answers. Assumes nothing.
use Rattle.std.specs.Prelude.{◌≡◌, Bool, false, not, cond, List, [], ◌∷◌, ◌++◌, ℕ, zero, suc, ◌^◌, eqb, ltb, Float, pos, length, drop, Result, MatchResult}
use Rattle.std.specs.Float.{fin}
use Rattle.masks.specs.declared.flavor.Flavor.{Flavor}
use Rattle.masks.specs.declared.flavor.Flavor.TheVariants.{Vanilla}
use Rattle.masks.specs.declared.shape.Shape.{Shape}
use Rattle.masks.specs.declared.outcome.Refusal.{Refusal}
use Rattle.masks.specs.declared.outcome.Refusal.TheVariants.{TooManyDims, WrongCount, NoRoom, NoSuchGrade, Planar, LeastPower, NoFlavor, NoSpec, Malformed, BadLog}

-- ---- refusals

-- A call is refused with the number of a test that fails.
pub record Test : Type 0 where
  pub fails : Bool
  pub number : ℕ

-- `refusal` is the number of the first test that fails, and 0 where none does.
unfoldable pub refusal : List Test → ℕ
refusal [] = 0
refusal (t ∷ ts) = cond t.fails t.number (refusal ts)

-- 1: A given or resulting dimension is above 9.
abbrev pub too_many : ℕ → Test
too_many d = record { fails = ltb 9 d; number = 1 }

-- 2: A value's count of numbers is not that of its dimensions.
abbrev pub wrong_count : ℕ → ℕ → Test
wrong_count count d = record { fails = not (eqb count (2 ^ d)); number = 2 }

-- 3: The output is shorter than the result.
abbrev pub no_room : ℕ → ℕ → Test
no_room room needed = record { fails = ltb room needed; number = 3 }

-- The tests of a call that reads a value of d dimensions and writes nothing.
abbrev pub value_tests : ℕ → ℕ → List Test
value_tests d count = too_many d ∷ wrong_count count d ∷ []

-- The tests of a call on a value of d dimensions, whose result stands in n dimensions and has `needed` numbers.
abbrev pub result_tests : ℕ → ℕ → ℕ → ℕ → ℕ → List Test
result_tests d n count room needed = too_many d ∷ too_many n ∷ wrong_count count d ∷ no_room room needed ∷ []

-- The tests of a call on two values, of d and e dimensions, whose result has n.
abbrev pub pair_tests : ℕ → ℕ → ℕ → ℕ → ℕ → ℕ → List Test
pair_tests d e n count countRight room =
    too_many d ∷ too_many e ∷ too_many n ∷ wrong_count count d ∷ wrong_count countRight e ∷ no_room room (2 ^ n) ∷ []

-- `unless refused k a` is the result a, unless k is the number of a refusal.
unfoldable pub unless {ℓ} : {A : Type ℓ} → (ℕ → A) → ℕ → A → A
unless refused zero a = a
unless refused (suc k) a = refused (suc k)

-- ---- answers

-- The number of a refusal.
abbrev pub number_of : Refusal → ℕ
number_of TooManyDims = 1
number_of WrongCount = 2
number_of NoRoom = 3
number_of NoSuchGrade = 4
number_of Planar = 5
number_of LeastPower = 6
number_of NoFlavor = 7
number_of NoSpec = 8
number_of Malformed = 9
number_of BadLog = 10

-- A call whose number is 0 answers `Ok a`; any other answers the refusal that has its number.
abbrev pub IsAnswer : {A : Type 0} → ℕ → A → Result A Refusal → Type 0
IsAnswer k a r = MatchResult r (λ x. (k ≡ 0) × (x ≡ a)) (λ refused. k ≡ number_of refused)

-- ---- outputs

-- An output holds after a call what was written from the front, and past that what was there.
abbrev pub laid {ℓ} : {A : Type ℓ} → List A → List A → List A
laid xs before = xs ++ drop (length xs) before

-- ---- a value: its number, its shape and its coefficients

-- `shape_of` makes a shape anew.
abbrev pub shape_of : ℕ → Flavor → Shape
shape_of d f = record { dims = d; flavor = f }

pub record Outcome : Type 0 where
  pub number : ℕ
  pub shape : Shape
  pub coefs : List Float

-- A refusal has its number and shape 0 Vanilla, and writes nothing.
abbrev pub refused_value : ℕ → Outcome
refused_value k = record { number = k; shape = shape_of 0 Vanilla; coefs = [] }

-- A call that is done has number 0.
abbrev pub value : Shape → List Float → Outcome
value s xs = record { number = 0; shape = s; coefs = xs }

-- The answer r has the outcome's shape or refusal, and the output's numbers before and after are those of the outcome.
pub record Gives (o : Outcome) (r : Result Shape Refusal) (before after : List Float) : Type 0 where
  pub answered : IsAnswer o.number o.shape r
  pub left : after ≡ laid o.coefs before

-- ---- two values

pub record Pair : Type 0 where
  pub number : ℕ
  pub left_shape : Shape
  pub right_shape : Shape
  pub left_coefs : List Float
  pub right_coefs : List Float

-- A refusal has its number and two shapes 0 Vanilla, and writes nothing.
abbrev pub refused_pair : ℕ → Pair
refused_pair k =
    record { number = k; left_shape = shape_of 0 Vanilla; right_shape = shape_of 0 Vanilla; left_coefs = []; right_coefs = [] }

-- The answer r has the pair's shapes or refusal, and both outputs' numbers before and after are those of the pair.
pub record GivesBoth (o : Pair) (r : Result (Shape × Shape) Refusal) (before after beforeRight afterRight : List Float) : Type 0 where
  pub answered : IsAnswer o.number (o.left_shape, o.right_shape) r
  pub left : after ≡ laid o.left_coefs before
  pub right : afterRight ≡ laid o.right_coefs beforeRight

-- ---- a list of numbers or bytes, with its count

pub record Written (A : Type 0) : Type 0 where
  pub number : ℕ
  pub items : List A

-- A refusal has its number, and writes nothing.
abbrev pub refused_list : {A : Type 0} → ℕ → Written A
refused_list k = record { number = k; items = [] }

-- A list that is done has number 0.
abbrev pub listed : {A : Type 0} → List A → Written A
listed xs = record { number = 0; items = xs }

-- The answer r has the list's count or refusal, and the output before and after is that of the list.
pub record Writes {A : Type 0} (o : Written A) (r : Result ℕ Refusal) (before after : List A) : Type 0 where
  pub counted : IsAnswer o.number (length o.items) r
  pub left : after ≡ laid o.items before

-- ---- a count

-- How many there are.
pub record Count : Type 0 where
  pub number : ℕ
  pub count : ℕ

-- A refusal's count is 0.
abbrev pub refused_count : ℕ → Count
refused_count k = record { number = k; count = 0 }

-- ---- one number

-- `nought` is +0.
abbrev pub nought : Float
nought = fin false 0 (pos 0)

pub record Real : Type 0 where
  pub number : ℕ
  pub value : Float

-- A refusal has its number, and the value 0.
abbrev pub refused_real : ℕ → Real
refused_real k = record { number = k; value = nought }
