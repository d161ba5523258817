-- The multivectors of d dimensions over the whole numbers: what the algebra is made of.
use Rattle.std.specs.Prelude.{◌≡◌, ℕ, ◌^◌, ◌≤◌, ℤ, pos}

-- A multivector has a coefficient at each of its 2 ^ d places, and 0 past them.
pub record Multivector (d : ℕ) : Type 0 where
  pub coefficient : ℕ → ℤ
  pub beyond : (k : ℕ) → 2 ^ d ≤ k → coefficient k ≡ pos 0
