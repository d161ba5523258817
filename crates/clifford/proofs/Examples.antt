-- These products and counts are computed from the definitions.
use mathlib.Core.Path.{◌≡◌, refl}
use mathlib.Core.Bool.{true, ◌||◌, cond}
use mathlib.Core.List.{[], ◌∷◌}
use Prim.Native.Nat.{ℕ, zero, suc}
use lib.Dec.{eqb}
use lib.IntN.{ℤ, pos, negsuc, pow, one}
use Rattle.clifford.specs.Blade.{has, count}
use Rattle.clifford.specs.Sign.{sign, reversal}
use Rattle.clifford.specs.Metric.{swaps, shared, turned, metric}
use Rattle.clifford.specs.Relations.{word}
use Rattle.clifford.specs.Placed.{stands}
use Rattle.clifford.specs.Sum.{sum, total, δ}
use Rattle.clifford.specs.Product.{multiply, reverse_whole}
use Rattle.clifford.specs.Pairs.{within, pairs, nulls}
use Rattle.clifford.proofs.PairsLaws.{pairs_all, pairs_left, pairs_inner}

abbrev vanilla : ℕ → ℤ
vanilla i = pos 1

abbrev projective : ℕ → ℤ
projective zero = pos 0
projective (suc i) = pos 1

-- `mixed` is the metric of Cl(0,1,1).
abbrev mixed : ℕ → ℤ
mixed zero = pos 0
mixed (suc zero) = negsuc 0
mixed (suc (suc i)) = pos 1

-- The order of three dimensions is 0, 1, 2, 4, 3, 5, 6, 7, and its own inverse.
abbrev order : ℕ → ℕ
order i = cond (eqb i 3) 4 (cond (eqb i 4) 3 i)

-- Place 5 of three dimensions stands for e3 e1; in four dimensions its mask stands for e1 e3.
pub place_five : stands 3 5 ≡ 2 ∷ 0 ∷ []
unfolding stands
place_five = refl

four_dimensions : stands 4 5 ≡ 0 ∷ 2 ∷ []
unfolding stands word has
four_dimensions = refl

-- e1 times e3 is -1 at the mask 101 of three dimensions, which is place 5.
pub e1_e3 : metric vanilla 3 1 4 ≡ negsuc 0
unfolding metric turned swaps total shared count has sign pow one
e1_e3 = refl

e1_e3_at_five : multiply vanilla 3 order order (δ 1) (δ 3) 5 ≡ negsuc 0
unfolding multiply sum δ metric turned swaps total shared count has sign pow one
e1_e3_at_five = refl

-- e1 times e2 is e12, and swapped it is the negative.
e1_e2 : metric vanilla 2 1 2 ≡ pos 1
unfolding metric turned swaps total shared count has sign pow one
e1_e2 = refl

e2_e1 : metric vanilla 2 2 1 ≡ negsuc 0
unfolding metric turned swaps total shared count has sign pow one
e2_e1 = refl

-- e2 of Cl(0,1,1) squares to -1, and e1 to 0.
e2_squared : metric mixed 2 2 2 ≡ negsuc 0
unfolding metric turned swaps total shared count has sign pow one
e2_squared = refl

e1_squared : metric mixed 2 1 1 ≡ pos 0
unfolding metric turned swaps total shared count has sign pow one
e1_squared = refl

-- The reverse of e31 is its negative; that of a vector is itself.
e31_reversed : reverse_whole 3 order (δ 5) 5 ≡ negsuc 0
unfolding reverse_whole reversal count has δ
e31_reversed = refl

e3_reversed : reverse_whole 3 order (δ 3) 3 ≡ pos 1
unfolding reverse_whole reversal count has δ
e3_reversed = refl

-- In three dimensions Vanilla has 64 pairs in All, 27 in Left and 46 in Inner, and Projective has 48 in All.
all_pairs : pairs vanilla 3 (λ a b. true) ≡ 64
unfolding nulls count
all_pairs = pairs_all vanilla 3

left_pairs : pairs vanilla 3 within ≡ 27
unfolding nulls count
left_pairs = pairs_left vanilla 3

inner_pairs : pairs vanilla 3 (λ a b. within a b || within b a) ≡ 46
unfolding nulls count
inner_pairs = pairs_inner vanilla 3

projective_pairs : pairs projective 3 (λ a b. true) ≡ 48
unfolding nulls count
projective_pairs = pairs_all projective 3
