-- Blades are products of different basis vectors, and masks name them.
use Rattle.std.specs.Prelude.{Bool, not, cond, ℕ, zero, suc, ◌+◌, ◌/◌, ◌%◌, ◌^◌, eqb}

-- A blade is the test that tells which basis vectors it holds.
abbrev pub Blade : Type 0
Blade = ℕ → Bool

-- Bit i of a mask means basis vector i.
unfoldable pub has : ℕ → Blade
has m i = eqb (m / 2 ^ i % 2) 1

-- The xor of two bits is set where just one of them is.
infixl 35 ◌⊻◌
abbrev pub ◌⊻◌ : Bool → Bool → Bool
x ⊻ y = cond x (not y) y

-- The xor of two blades holds the vectors that just one of them holds.
infixl 35 ◌⊕◌
abbrev pub ◌⊕◌ : Blade → Blade → Blade
(a ⊕ b) i = a i ⊻ b i

-- `count d a` is the number of indices below d that pass the test a: the grade, where a is a blade of d dimensions.
unfoldable pub count : ℕ → (ℕ → Bool) → ℕ
count zero a = 0
count (suc i) a = count i a + cond (a i) 1 0
