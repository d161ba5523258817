use mathlib.Core.Path.{◌≡◌, sym, ap, ◌∙◌}
use mathlib.Core.List.{List, ◌++◌}
use Prim.Native.Nat.{◌^◌}
use native.Mathlib.Omega.{arith}
use lib.Ieee.{Float, nan, binary64, add, neg, of_bits, of_fields}
use lib.ListN.{length, get_or, set, take, drop, replicate, length-set}
use lib.Pow.{pow_pos}
use Rattle.masks.specs.declared.shape.Shape.{Shape}
use Rattle.masks.specs.Outcome.{nought, laid}
use Rattle.masks.proofs.BladeLaws.{set_laid}
use Rattle.masks.proofs.ListLaws.{lay_front, take_laid}
use Rattle.product.specs.declared.mode.Mode.TheVariants.{All}
use Rattle.product.proofs.PairwiseLaws.{product_length}
use Rattle.arithmetic.specs.Scalar.{test_of}
use Rattle.arithmetic.specs.Inverse.{square_of, less_scalar}
use Rattle.arithmetic.proofs.InverseLaws.{less_scalar_length}
use Rattle.arithmetic.proofs.OrderPassed.{array_room}
use Rattle.arithmetic.proofs.inverse.test_square_in.Goals as goal

-- The array x, written at place 0 after the copy, is the value less its scalar; its square, in the array y, is tested.
module _ (s : Shape) (a x y copy : List Float) (e : copy ≡ a) (c : length a ≡ 2 ^ s.dims) where
  abbrev less : List Float
  less = set (copy ++ drop (length a) x) 0 (add binary64 (get_or a 0 nan) (neg (get_or a 0 nan)))

  less_part : take (length a) less ≡ less_scalar a
  unfolding less_scalar
  less_part =
      ap (λ (xs : List Float). take (length a) (set (xs ++ drop (length a) x) 0 (add binary64 (get_or a 0 nan) (neg (get_or a 0 nan))))) e
      ∙ ap (take (length a)) (set_laid 0 _ a x (omega (arith, pow_pos s.dims)))
      ∙ take_laid (length a) _ x (length-set a 0 _)

  less_length : length (take (length a) less) ≡ 2 ^ s.dims
  less_length = ap length less_part ∙ less_scalar_length a ∙ c

  square_part : (after : List Float) → after ≡ laid (square_of s (take (length a) less)) y → take (length a) after ≡ square_of s (less_scalar a)
  square_part after f =
      ap (take (length a)) (f ∙ ap (λ (xs : List Float). laid (square_of s xs) y) less_part)
      ∙ take_laid (length a) (square_of s (less_scalar a)) y (product_length All s.flavor s.dims binary64 (less_scalar a) (less_scalar a) ∙ sym c)

pub returns : goal.returns
unfolding of_bits of_fields
returns g c =
    let a = c.args in
    c.test_of.ensures
    ∙ ap (test_of a.value.shape) (square_part a.value.shape a.value.numbers.now _ _ c.lay.new.out (c.lay.ensures ∙ lay_front a.value.numbers.now (replicate g.row.N nought) (array_room nought c.requires.room.0)) c.args.value.counted _ c.put_square.ensures)
