use mathlib.Core.Path.{◌≡◌, refl, ap, ◌∙◌}
use Prim.Native.Nat.{◌-◌}
use borrow.Author.Tests.{tests}
use lib.Dec.{eqb}
use Rattle.std.proofs.Common.{rules}
use Rattle.std.proofs.lemmas.Iterator.{YieldsList-from_range}
use Rattle.std.proofs.lemmas.Iterator.Search.{find_from_yields_List}
use Rattle.std.specs.Option.{option_map}
use Rattle.masks.specs.declared.build.Packing.TheVariants.{Grade}
use Rattle.masks.specs.Order.{size}
use Rattle.masks.proofs.ListLaws.{option_same}
use Rattle.masks.proofs.BuildLaws.{grade_found}
use Rattle.masks.proofs.build.first_grade.Goals as goal

pub returns : goal.returns
returns c =
    let a = c.args in
    let m : c.map.result ≡ option_map (λ g. Grade g) c.find-grade.result = search rules in
    m
    ∙ ap (λ o. option_map (λ g. Grade g) o)
    (option_same c.find-grade.result
    ∙ find_from_yields_List (λ g. eqb (size a.dims g) a.n) _ _ c.find-grade.result c.find-grade.ensures.ran (YieldsList-from_range a.from a.end (a.end - a.from) (cc) refl) (λ x b q k. search (rules, tests)))
    ∙ grade_found a.dims a.n (a.end - a.from) a.from
