use mathlib.Core.Path.{subst}
use Rattle.masks.specs.Outcome.{IsAnswer}
use Rattle.arithmetic.specs.Compare.{YesNo}
use Rattle.arithmetic.proofs.CompareLaws.{equals_dims}
use Rattle.arithmetic.proofs.compare.eq.Goals as goal

pub returns : goal.returns
returns c =
    let s = c.args in
    subst (λ (o : YesNo). IsAnswer o.number o.yes c.eq_dims.result) (equals_dims s.left s.right s.a.now s.b.now) c.eq_dims.ensures
