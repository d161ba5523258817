use mathlib.Core.Path.{◌≡◌, ◌∙◌}
use mathlib.Core.List.{List}
use Prim.Native.Nat.{ℕ, ◌-◌, ◌^◌, ◌≤◌}
use native.Mathlib.Omega.{arith}
use lib.Ieee.{Float}
use lib.ListN.{length, take}
use lib.Seq.{length-take-le}
use Rattle.std.specs.Prelude.{Result}
use Rattle.masks.specs.declared.outcome.Refusal.{Refusal}
use Rattle.masks.specs.declared.shape.Shape.{Shape}
use Rattle.masks.specs.Outcome.{value}
use Rattle.masks.proofs.OrderLaws.{blades_le, none_counted}
use Rattle.replay.specs.declared.log.Step.{Step}
use Rattle.replay.specs.declared.step.Tried.{Tried}
use Rattle.replay.specs.inner.Turns.{held_value, Tries}
use Rattle.replay.proofs.step.take_turn.Goals.{After-blades_or_none-m}
use Rattle.replay.proofs.step.take_turn.Goals as goal

-- The first n numbers of an array of 512.
front_length : (n d : ℕ) (xs : List Float) → n ≡ 2 ^ d → n ≤ 512 → length xs ≡ 512 → length (take (n - 0) xs) ≡ 2 ^ d
front_length n d xs e h l = length-take-le (n - 0) xs (omega arith) ∙ omega arith

-- A step that was tried of the first numbers of two arrays was tried of the values that they hold.
held_tries : (s : Step) (a b : Shape) (n m : ℕ) (xs ys : List Float) (r : Result Tried Refusal) (before after : List Float) → n ≡ 2 ^ a.dims → m ≡ 2 ^ b.dims
    → Tries s (value a (take (n - 0) xs)) (value b (take (m - 0) ys)) r before after → Tries s (held_value a xs) (held_value b ys) r before after
held_tries s a b n m xs ys r before after e f g =
    let p : n - 0 ≡ 2 ^ a.dims = omega arith in
    let q : m - 0 ≡ 2 ^ b.dims = omega arith in
    rw (← p, ← q) g

-- Both counts are those of the dimensions.
counted : (c : After-blades_or_none-m) → let a = c.args in (c.blades_or_none-n.result ≡ 2 ^ a.shape.dims) × (c.blades_or_none-m.result ≡ 2 ^ a.other.dims)
counted c =
    let p = c.requires in
    (none_counted c.blades_or_none-n.ensures p.0, none_counted c.blades_or_none-m.ensures p.1)

-- Arrays of 512 have as many.
few : (c : After-blades_or_none-m) → (c.blades_or_none-n.result ≤ 512) × (c.blades_or_none-m.result ≤ 512)
few c =
    let p = c.requires in
    (omega (arith, (counted c).0, blades_le _ p.0), omega (arith, (counted c).1, blades_le _ p.1))

-- So a value is at the front of the array that has its turn, and one at the front of the named numbers.
fronts : (c : After-blades_or_none-m) (xs : List Float) → length xs ≡ 512 → let a = c.args in (length (take (c.blades_or_none-n.result - 0) xs) ≡ 2 ^ a.shape.dims) × (length (take (c.blades_or_none-m.result - 0) a.named.now) ≡ 2 ^ a.other.dims)
fronts c xs l =
    (front_length _ _ xs (counted c).0 (few c).0 l, front_length _ _ c.args.named.now (counted c).1 (few c).1 c.requires.3)

pub slice_bounds-try_step-end : goal.slice_bounds-try_step-end
slice_bounds-try_step-end c = omega (arith, (few (goal.at.slice_bounds-try_step-end c).After-blades_or_none-m).0, c.requires.2)

pub slice_bounds-try_step-end-2 : goal.slice_bounds-try_step-end-2
slice_bounds-try_step-end-2 c = omega (arith, (few (goal.at.slice_bounds-try_step-end-2 c).After-blades_or_none-m).1, c.requires.3)

pub try_step-requires : goal.try_step-requires
try_step-requires c =
    let p = c.requires in
    let l = fronts (goal.at.try_step-requires c).After-blades_or_none-m c.args.pose.now p.2 in
    (p.0, l.0, p.4)

pub returns : goal.returns
returns c =
    let q = counted (goal.at.returns c).After-blades_or_none-m in
    held_tries _ _ _ _ _ _ _ _ _ _ q.0 q.1 c.try_step.ensures
