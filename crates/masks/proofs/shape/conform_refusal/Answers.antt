use mathlib.Core.Path.{◌≡◌, refl, sym, ◌∙◌}
use mathlib.Core.List.{[], ◌∷◌}
use Prim.Native.Nat.{◌^◌, ◌≤◌, ◌<◌}
use native.Mathlib.Omega.{arith}
use borrow.Author.Tests.{lt-ltb, le-ltb}
use Rattle.std.proofs.lemmas.Result.{err_from_is_err_and}
use Rattle.masks.specs.Shape.{both_tests}
use Rattle.masks.specs.Outcome.{refusal, no_room, pair_tests}
use Rattle.masks.proofs.ShapeLaws.{second_room}
use Rattle.masks.proofs.OutcomeLaws.{refuses, refused_already, refused_first, refused_later, passed}
use Rattle.masks.proofs.shape.conform_refusal.Goals.{After-blades}
use Rattle.masks.proofs.shape.conform_refusal.Goals as goal

nothing : refusal [] ≡ 0
unfolding refusal
nothing = refl

-- The room on the right decides.
decided : (b : After-blades) → let a = b.args in refusal (both_tests a.dims a.other a.res a.count a.count_right a.room a.room_right) ≡ refusal (no_room a.room_right (2 ^ a.res) ∷ [])
decided b =
    let a = b.args in
    second_room a.dims a.other a.res a.count a.count_right a.room a.room_right b.in_ok-pair_refusal.ensures.0

pub returns-in_err-pair_refusal : goal.returns-in_err-pair_refusal
returns-in_err-pair_refusal c =
    let a = c.args in
    let f = c.in_err-pair_refusal in
    let p = err_from_is_err_and c.from_residual.result c.from_residual.ensures.1 in
    rw (p.1, p.2)
    (refused_already (pair_tests a.dims a.other a.res a.count a.count_right a.room) (no_room a.room_right (2 ^ a.res) ∷ []) (λ z. refuses f.field-0.0 (sym f.ensures ∙ z))
    ∙ f.ensures)

pub blades-requires : goal.blades-requires
blades-requires c =
    let a = c.args in
    (passed a.dims a.other a.res a.count a.count_right a.room c.in_ok-pair_refusal.ensures.0).result

pub returns-then-room_right-blades : goal.returns-then-room_right-blades
returns-then-room_right-blades c =
    let a = c.args in
    let h : a.room_right < 2 ^ a.res = omega (arith, c.if-room_right-blades.true, c.blades.ensures) in
    decided (goal.at.returns-then-room_right-blades c).After-blades ∙ refused_first (no_room a.room_right (2 ^ a.res)) [] (lt-ltb _ _ h)

pub returns : goal.returns
returns c =
    let a = c.args in
    let h : 2 ^ a.res ≤ a.room_right = omega (arith, c.if-room_right-blades.false, c.blades.ensures) in
    (decided (goal.at.returns c).After-blades ∙ refused_later (no_room a.room_right (2 ^ a.res)) [] (le-ltb _ _ h) ∙ nothing, refl)
