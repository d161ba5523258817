use mathlib.Core.Path.{◌≡◌, refl, sym, ap, ◌∙◌}
use Prim.Native.Nat.{ℕ, ◌+◌, ◌-◌, ◌^◌}
use native.Mathlib.Omega.{arith}
use borrow.Author.Tests.{tests}
use lib.Dec.{ltb}
use Rattle.std.proofs.Common.{rules}
use Rattle.std.proofs.lemmas.Iterator.{YieldsList-from_range}
use Rattle.std.proofs.lemmas.Iterator.Search.{find_from_yields_List}
use Rattle.std.specs.List.{find, range_with_len}
use Rattle.std.specs.Option.{unwrap_or}
use Rattle.masks.proofs.ListLaws.{option_same}
use Rattle.masks.proofs.BladeLaws.{dims_found}
use Rattle.masks.proofs.blade.dims_for.Goals as goal

pub returns : goal.returns
returns c =
    let d : ℕ = c.args.dims in
    let m : ℕ = c.args.mask in
    let nine : d + (9 - d) ≡ 9 = omega arith in
    c.unwrap_or.ensures
    ∙ ap (λ o. unwrap_or o 9)
    (option_same c.find-fits.result
    ∙ find_from_yields_List (λ n. ltb m (2 ^ n)) _ _ c.find-fits.result c.find-fits.ensures.ran (YieldsList-from_range d 9 (9 - d) (cc) refl) (λ x b q k. search (rules, tests)))
    ∙ ap (λ i. unwrap_or (find (λ n. ltb m (2 ^ n)) (range_with_len d (9 - d))) i) (sym nine)
    ∙ dims_found (9 - d) d m
