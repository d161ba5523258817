use mathlib.Core.Path.{◌≡◌, ap}
use mathlib.Core.List.{List, [], ◌∷◌}
use Prim.Native.Nat.{ℕ}
use Rattle.std.proofs.Common.{rules}
use Rattle.masks.specs.ShapeBytes.{shape_bytes}
use Rattle.exports.specs.inner.Answers.{stop_number}
use Rattle.exports.proofs.ReportsLaws.{replay_reported, seen_reported}
use Rattle.exports.proofs.cues.thresholm_replay.Goals as goal

-- The steps and what it stopped with are seen as a list.
abbrev listed : List ℕ × ℕ × ℕ → List ℕ × List ℕ
listed t = (t.0, t.1 ∷ t.2 ∷ [])

pub returns : goal.returns
returns c =
    let r = c.report_three.new in
    replay_reported _ c.replay-answer.ensures
    (λ x p. let e : (r.to, r.to_other, r.to_third) ≡ (shape_bytes x.shape, x.steps, stop_number x.stopped) = search rules in ap listed e)
    (seen_reported listed _ _ _ _ _ c.report_three.ensures)
