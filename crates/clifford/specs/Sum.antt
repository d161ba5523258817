-- Sums go over the indices below n.
use Rattle.std.specs.Prelude.{cond, ℕ, zero, suc, ◌+◌, eqb, ℤ, pos, ◌+ℤ◌}

-- `sum n f` adds the whole numbers f 0 to f (n - 1).
unfoldable pub sum : ℕ → (ℕ → ℤ) → ℤ
sum zero f = pos 0
sum (suc i) f = sum i f +ℤ f i

-- `total n f` adds the counts f 0 to f (n - 1).
unfoldable pub total : ℕ → (ℕ → ℕ) → ℕ
total zero f = 0
total (suc i) f = total i f + f i

-- `δ i j` is 1 where the two indices are one, else 0.
unfoldable pub δ : ℕ → ℕ → ℤ
δ i j = cond (eqb i j) (pos 1) (pos 0)
