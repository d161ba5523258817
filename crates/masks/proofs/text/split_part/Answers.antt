use mathlib.Core.Path.{◌≡◌, ap, ◌∙◌}
use lib.ListN.{length, take, drop}
use borrow.Author.Tests.{tests}
use Rattle.std.proofs.Common.{rules}
use Rattle.std.proofs.lemmas.Iterator.{YieldsList-from_slice}
use Rattle.std.proofs.lemmas.Iterator.Search.{position_from_yields_List}
use Rattle.std.specs.List.{position}
use Rattle.std.specs.Option.{unwrap_or}
use Rattle.masks.specs.Text.{separator, in_part, part, after_part}
use Rattle.masks.proofs.TextScan.{position_found, take_front, drop_front}
use Rattle.masks.proofs.text.split_part.Goals.{After-unwrap_or}
use Rattle.masks.proofs.text.split_part.Goals as goal

-- where the first part ends
ends : (c : After-unwrap_or) → c.unwrap_or.result ≡ unwrap_or (position separator c.skip_separators-rest.result.now) (length c.skip_separators-rest.result.now)
ends c =
    let t = c.skip_separators-rest.result.now in
    c.unwrap_or.ensures
    ∙ ap (λ o. unwrap_or o (length t))
    (position_from_yields_List separator _ _ c.position-end.result c.position-end.ensures.ran (YieldsList-from_slice t cc) (λ x b q k. search (rules, tests)))

pub returns-clause-part : goal.returns-clause-part
unfolding part
returns-clause-part c =
    let t = c.skip_separators-rest.result.now in
    c.split_at.ensures.front
    ∙ ap (λ n. take n t) (ends (goal.at.returns-clause-part c).After-unwrap_or ∙ position_found separator t)
    ∙ take_front in_part t
    ∙ (rw c.skip_separators-rest.ensures)

pub returns-clause-after : goal.returns-clause-after
unfolding after_part
returns-clause-after c =
    let t = c.skip_separators-rest.result.now in
    c.split_at.ensures.back
    ∙ ap (λ n. drop n t) (ends (goal.at.returns-clause-after c).After-unwrap_or ∙ position_found separator t)
    ∙ drop_front in_part t
    ∙ (rw c.skip_separators-rest.ensures)
