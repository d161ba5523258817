use mathlib.Core.Path.{◌≡◌, sym, ap, ◌∙◌}
use mathlib.Core.List.{List}
use Prim.Native.Nat.{ℕ, ◌^◌}
use lib.Ieee.{Float}
use lib.ListN.{length, take}
use Rattle.masks.specs.declared.shape.Shape.{Shape}
use Rattle.masks.specs.Outcome.{laid}
use Rattle.masks.proofs.ListLaws.{take_laid}
use Rattle.arithmetic.specs.Inverse.{inverse_of}
use Rattle.arithmetic.specs.Power.{raised_to}
use Rattle.arithmetic.proofs.InverseLaws.{inverse_length}
use Rattle.arithmetic.proofs.power.raise_inverse.Goals as goal

-- The inverse, at the front of an array, is raised.
raised_of : (s : Shape) (n : ℕ) (a array held out after : List Float) → length a ≡ 2 ^ s.dims → length (inverse_of s a) ≡ 2 ^ s.dims → held ≡ laid (inverse_of s a) array
    → after ≡ laid (raised_to s n (take (length a) held)) out → after ≡ laid (raised_to s n (inverse_of s a)) out
raised_of s n a array held out after c l e q =
    q ∙ ap (λ (xs : List Float). laid (raised_to s n xs) out) (ap (take (length a)) e ∙ take_laid (length a) (inverse_of s a) array (l ∙ sym c))

pub returns : goal.returns
returns g c =
    let a = c.args in
    let l = a.value.counted in
    raised_of a.value.shape a.power a.value.numbers.now _ _ a.out.now _ l (inverse_length a.value.shape a.value.numbers.now l c.requires.invertible) c.put_inverse.ensures c.raise.ensures
