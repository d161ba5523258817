use mathlib.Core.Path.{◌≡◌, refl, sym, ◌∙◌}
use Prim.Native.Nat.{◌^◌, ◌≤◌, ◌<◌}
use native.Mathlib.Omega.{arith}
use borrow.Author.Tests.{eq-eqb, ne_eqb, lt-ltb, le-ltb}
use Rattle.masks.specs.Outcome.{refusal}
use Rattle.masks.proofs.outcome.pair_refusal.Goals.{Else-count-blades, Else-count_right-blades}
use Rattle.masks.proofs.outcome.pair_refusal.Goals as goal

-- the value on the left has its count
left : (c : Else-count-blades) → c.args.count ≡ 2 ^ c.args.dims
left c = c.if-count-blades.false ∙ c.blades.ensures

-- and so has the value on the right
right : (c : Else-count_right-blades) → c.args.count_right ≡ 2 ^ c.args.other
right c = c.if-count_right-blades.false ∙ c.blades-2.ensures

pub returns-then-dims-gt-MAX_DIMS : goal.returns-then-dims-gt-MAX_DIMS
unfolding refusal
returns-then-dims-gt-MAX_DIMS c = simp (lt-ltb 9 _ c.if-dims-gt-MAX_DIMS.true)

pub returns-then-other-gt-MAX_DIMS : goal.returns-then-other-gt-MAX_DIMS
unfolding refusal
returns-then-other-gt-MAX_DIMS c = simp (le-ltb 9 _ c.if-dims-gt-MAX_DIMS.false, lt-ltb 9 _ c.if-other-gt-MAX_DIMS.true)

pub returns-then-res-gt-MAX_DIMS : goal.returns-then-res-gt-MAX_DIMS
unfolding refusal
returns-then-res-gt-MAX_DIMS c = simp (le-ltb 9 _ c.if-dims-gt-MAX_DIMS.false, le-ltb 9 _ c.if-other-gt-MAX_DIMS.false, lt-ltb 9 _ c.if-res-gt-MAX_DIMS.true)

pub returns-then-count-blades : goal.returns-then-count-blades
unfolding refusal
returns-then-count-blades c =
    let d = c.if-dims-gt-MAX_DIMS.false in
    let b = c.blades.ensures in
    simp (le-ltb 9 _ d, le-ltb 9 _ c.if-other-gt-MAX_DIMS.false, le-ltb 9 _ c.if-res-gt-MAX_DIMS.false, ne_eqb _ _ (λ e. c.if-count-blades.true (e ∙ sym b)))

pub returns-then-count_right-blades : goal.returns-then-count_right-blades
unfolding refusal
returns-then-count_right-blades c =
    let o = c.if-other-gt-MAX_DIMS.false in
    let b = c.blades-2.ensures in
    simp (le-ltb 9 _ c.if-dims-gt-MAX_DIMS.false, le-ltb 9 _ o, le-ltb 9 _ c.if-res-gt-MAX_DIMS.false, eq-eqb _ _ (left (goal.at.returns-then-count_right-blades c).Else-count-blades), ne_eqb _ _ (λ e. c.if-count_right-blades.true (e ∙ sym b)))

pub returns-then-room-blades : goal.returns-then-room-blades
unfolding refusal
returns-then-room-blades c =
    let a = c.args in
    let r = c.if-res-gt-MAX_DIMS.false in
    let h : a.room < 2 ^ a.res = omega (arith, c.blades-3.ensures) in
    simp (le-ltb 9 _ c.if-dims-gt-MAX_DIMS.false, le-ltb 9 _ c.if-other-gt-MAX_DIMS.false, le-ltb 9 _ r, eq-eqb _ _ (left (goal.at.returns-then-room-blades c).Else-count-blades), eq-eqb _ _ (right (goal.at.returns-then-room-blades c).Else-count_right-blades), lt-ltb _ _ h)

pub returns : goal.returns
unfolding refusal
returns c =
    let a = c.args in
    let r = c.if-res-gt-MAX_DIMS.false in
    let h : 2 ^ a.res ≤ a.room = omega (arith, c.blades-3.ensures) in
    (simp (le-ltb 9 _ c.if-dims-gt-MAX_DIMS.false, le-ltb 9 _ c.if-other-gt-MAX_DIMS.false, le-ltb 9 _ r, eq-eqb _ _ (left (goal.at.returns c).Else-count-blades), eq-eqb _ _ (right (goal.at.returns c).Else-count_right-blades), le-ltb _ _ h), refl)
