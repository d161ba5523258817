use mathlib.Core.Path.{◌≡◌, sym, ap, ◌∙◌}
use mathlib.Core.List.{List}
use Prim.Native.Nat.{ℕ, ◌%◌}
use native.Mathlib.Omega.{arith}
use lib.ListN.{length, get_or}
use Rattle.std.proofs.Common.{rules, tests}
use Rattle.std.proofs.lemmas.Iterator.{YieldsList-from_slice}
use Rattle.std.proofs.lemmas.Iterator.Search.{all_from_yields_List}
use Rattle.std.specs.List.{list_all}
use Rattle.sheets.proofs.BytesLaws.{chunks_are}
use Rattle.replay.specs.Log.{step_of, fits}
use Rattle.replay.proofs.LogLaws.{odd_misfit, fit_every}
use Rattle.replay.proofs.log.all_fit.Goals as goal

pub returns-then-not-is_empty : goal.returns-then-not-is_empty
returns-then-not-is_empty c =
    let a = c.args in
    let ne : length c.as_chunks.result.1.now ≡ 0 → ⊥ = search (rules, tests) in
    sym (odd_misfit a.count a.log.now (λ e. ne (omega (arith, c.as_chunks.ensures.back_len))))

pub returns : goal.returns
returns c =
    let a = c.args in
    let even : length a.log.now % 2 ≡ 0 = search (rules, tests) in
    let test : List ℕ → _ = λ p. fits a.count (step_of (get_or p 0 0) (get_or p 1 0)) in
    all_from_yields_List test _ _ c.all.result c.all.ensures.ran (YieldsList-from_slice c.as_chunks.result.0.now cc) (λ x b q k. search (rules, tests))
    ∙ ap (list_all test) (c.as_chunks.ensures.front ∙ chunks_are 2 _ a.log.now)
    ∙ fit_every a.count a.log.now even
