use mathlib.Core.Path.{◌≡◌}
use mathlib.Core.Bool.{Bool, true, false, cond}
use mathlib.Core.List.{List}
use Prim.Native.Nat.{ℕ, ◌^◌}
use lib.Ieee.{Float}
use lib.ListN.{length}
use Rattle.std.proofs.lemmas.Result.{err_from_is_err_and}
use Rattle.product.specs.Reverse.{reversed}
use Rattle.arithmetic.specs.Reverse.{inv_reversed}
use Rattle.arithmetic.proofs.KeptLaws.{copy_refused}
use Rattle.arithmetic.proofs.ReverseLaws.{reversed_length, inv_reversed_length, copy_turned, copy_roomy}
use Rattle.arithmetic.proofs.reverse.turn.Goals as goal

abbrev turned : Bool → ℕ → List Float → List Float
turned rest d xs = cond rest (inv_reversed d xs) (reversed d xs)

turned_length : (rest : Bool) (d : ℕ) (xs : List Float) → length (turned rest d xs) ≡ 2 ^ d
turned_length true d xs = inv_reversed_length d xs
turned_length false d xs = reversed_length d xs

pub returns-in_err-kept : goal.returns-in_err-kept
returns-in_err-kept c =
    let s = c.args in
    let p = err_from_is_err_and c.from_residual.result c.from_residual.ensures.1 in
    let f = c.in_err-kept in
    rw (p.1, p.2) (copy_refused s.shape s.a.now f.field-0.0 s.out.now _ f.ensures (turned s.rest s.shape.dims))

pub turn_grades-requires : goal.turn_grades-requires
turn_grades-requires c =
    let s = c.args in
    copy_roomy s.shape s.a.now c.in_ok-kept.kept s.out.now _ c.in_ok-kept.ensures c.set_dims.auto.out

pub returns : goal.returns
returns c =
    let s = c.args in
    copy_turned s.shape s.a.now c.in_ok-kept.kept s.out.now _ c.in_ok-kept.ensures (turned s.rest s.shape.dims) _ (turned_length s.rest s.shape.dims) c.turn_grades.ensures
