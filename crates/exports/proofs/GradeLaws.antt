-- What is reported of a grade is where its part of the value is. Assumes nothing.
use mathlib.Core.Path.{◌≡◌, refl}
use mathlib.Core.List.{List, []}
use Prim.Native.Nat.{ℕ}
use lib.Ieee.{Float}
use lib.ListN.{take, drop}
use Rattle.masks.specs.declared.shape.Shape.{Shape}
use Rattle.masks.specs.Order.{size, start}
use Rattle.masks.specs.Blade.{grade_refusal, grade_part}
use Rattle.masks.proofs.OutcomeLaws.{unless_done}

-- The part of an accepted grade stands where the grade starts, and has as many numbers as its size.
pub grade_part_lem : (s : Shape) (g : ℕ) (a : List Float) → grade_refusal s g a ≡ 0 → grade_part s g a ≡ take (size s.dims g) (drop (start s.dims g) a)
unfolding grade_part
grade_part_lem s g a e = unless_done (λ k. []) (grade_refusal s g a) (grade_refusal s g a) _ refl e
