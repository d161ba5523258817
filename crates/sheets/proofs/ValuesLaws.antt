-- Where the values of a sheet lie among its patterns: the sum of the 2^d of shapes is taken apart at an index. Assumes nothing.
use mathlib.Core.Path.{◌≡◌, ap}
use mathlib.Core.List.{List, [], ◌∷◌, ◌++◌}
use Prim.Native.Nat.{ℕ, ◌+◌, ◌^◌, ◌≤◌, ◌<◌}
use native.Mathlib.Numerals.{add-one}
use native.Mathlib.Omega.{arith}
use lib.ListN.{length, get_or, take, drop, take-append-drop}
use lib.Seq.{take-suc, take-length}
use Rattle.masks.specs.declared.flavor.Flavor.TheVariants.{Vanilla}
use Rattle.masks.specs.declared.shape.Shape.{Shape}
use Rattle.masks.specs.Outcome.{shape_of}
use Rattle.sheets.specs.Format.{blade_total}
use Rattle.sheets.specs.Values.{start_of}
use Rattle.sheets.proofs.FormatLaws.{blade_total-append}

-- a value's patterns end where the next one's start, and the last one's with the sheet's
pub start_next : (ss : List Shape) (i : ℕ) → i < length ss → start_of ss (i + 1) ≡ start_of ss i + 2 ^ (get_or ss i (shape_of 0 Vanilla)).dims
unfolding blade_total
start_next ss i h = rw (add-one i, take-suc ss i (shape_of 0 Vanilla) h) (omega (arith, blade_total-append (take i ss) (get_or ss i (shape_of 0 Vanilla) ∷ [])))

pub start_last : (ss : List Shape) → start_of ss (length ss) ≡ blade_total ss
start_last ss = ap blade_total (take-length ss)

-- so each lies within the sheet's
pub value_within : (ss : List Shape) (i : ℕ) → i < length ss → start_of ss i + 2 ^ (get_or ss i (shape_of 0 Vanilla)).dims ≤ blade_total ss
value_within ss i h =
    let whole : blade_total (take (i + 1) ss ++ drop (i + 1) ss) ≡ blade_total ss = ap blade_total (take-append-drop (i + 1) ss) in
    omega (arith, start_next ss i h, whole, blade_total-append (take (i + 1) ss) (drop (i + 1) ss))
