use mathlib.Core.Path.{refl}
use Prim.Native.Nat.{ℕ}
use Rattle.std.proofs.Common.{rules}
use Rattle.masks.specs.Outcome.{Count}
use Rattle.exports.proofs.ReportsLaws.{same_reported}
use Rattle.exports.proofs.order.thresholm_grade_size.Goals as goal

pub returns : goal.returns
returns c =
    same_reported (λ (o : Count). o.number) (λ (o : Count). o.count) (λ (k : ℕ). k) _ _ _ _ refl c.grade_size.ensures (λ k p. search rules) c.report.ensures
