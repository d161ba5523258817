use mathlib.Core.Path.{ap, ◌∙◌}
use mathlib.Core.List.{List, ◌++◌}
use native.Mathlib.Omega.{arith}
use lib.Ieee.{Float, of_bits, of_fields}
use lib.ListN.{length, set, drop}
use lib.Pow.{pow_pos}
use Rattle.masks.proofs.BladeLaws.{set_laid}
use Rattle.masks.proofs.ListLaws.{lay_front}
use Rattle.arithmetic.specs.Scale.{reciprocal}
use Rattle.arithmetic.proofs.inverse.put_reciprocal.Goals as goal

pub returns : goal.returns
unfolding of_bits of_fields
returns c =
    let a = c.args in
    ap (λ (xs : List Float). set (xs ++ drop (length a.value.numbers.now) a.out.now) 0 (reciprocal a.f)) (c.lay.ensures ∙ lay_front a.value.numbers.now a.out.now (omega (arith, c.requires, c.args.value.counted)))
    ∙ set_laid 0 (reciprocal a.f) a.value.numbers.now a.out.now (omega (arith, c.args.value.counted, pow_pos a.value.shape.dims))
