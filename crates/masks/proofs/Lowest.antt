-- The lowest number that applies is given: a list of tests gives the first that fails, and in each call's list the numbers rise. Assumes nothing.
use mathlib.Core.Path.{◌≡◌}
use mathlib.Core.Bool.{Bool, true, false, ◌&&◌, cond}
use mathlib.Core.List.{List, [], ◌∷◌}
use Prim.Native.Nat.{ℕ, zero, suc, ◌≤◌, ◌<◌}
use native.Mathlib.Nat.{le_refl, le_trans, le_of_suc-le-suc, not-suc-le-zero}
use lib.Dec.{T, leb, leb→le}
use lib.ListN.{length, get_or}
use Rattle.std.specs.Prelude.{Option}
use Rattle.masks.specs.declared.build.Packing.{Packing}
use Rattle.masks.specs.declared.flavor.Flavor.{Flavor}
use Rattle.masks.specs.Outcome.{Test, refusal, value_tests, result_tests, pair_tests}
use Rattle.masks.specs.Order.{order_tests, built_tests}
use Rattle.masks.specs.Shape.{both_tests}
use Rattle.masks.specs.Blade.{set_blade_tests, grade_tests}
use Rattle.masks.specs.Build.{n_1_tests, packed_tests}
use Rattle.masks.specs.Text.{read_tests, write_tests}
use Rattle.masks.proofs.ListLaws.{both}

-- The numbers of a list of tests rise from n on.
abbrev pub rises : ℕ → List Test → Bool
rises n [] = true
rises n (t ∷ ts) = leb n t.number && rises t.number ts

rises_le : (n : ℕ) (ts : List Test) (d : Test) (k : ℕ) → T (rises n ts) → k < length ts → n ≤ (get_or ts k d).number
rises_le n [] d k r h = absurd (not-suc-le-zero h)
rises_le n (t ∷ ts) d zero r h = leb→le n t.number (both (leb n t.number) (rises t.number ts) r).0
rises_le n (t ∷ ts) d (suc k) r h =
    let b = both (leb n t.number) (rises t.number ts) r in
    le_trans (leb→le n t.number b.0) (rises_le t.number ts d k b.1 (le_of_suc-le-suc h))

-- Of a list whose numbers rise, no test that fails has a lower number than the one that is given.
pub refused_lowest : (n : ℕ) (ts : List Test) (d : Test) (k : ℕ) → T (rises n ts) → k < length ts → (get_or ts k d).fails ≡ true → refusal ts ≤ (get_or ts k d).number
unfolding refusal
refused_lowest n [] d k r h e = absurd (not-suc-le-zero h)
refused_lowest n (t ∷ ts) d zero r h e = rw e (le_refl t.number)
refused_lowest n (t ∷ ts) d (suc k) r h e =
    let b = both (leb n t.number) (rises t.number ts) r in
    go t.fails (rises_le t.number ts d k b.1 (le_of_suc-le-suc h)) (refused_lowest t.number ts d k b.1 (le_of_suc-le-suc h) e)
  where
    go : (x : Bool) → t.number ≤ (get_or ts k d).number → refusal ts ≤ (get_or ts k d).number → cond x t.number (refusal ts) ≤ (get_or ts k d).number
    go true l m = l
    go false l m = m

-- The lists that the definitions cite: of dimensions alone, of a value that is read, of one value and of two with a result.
pub order_rises : (d : ℕ) → T (rises 1 (order_tests d))
order_rises d = tt

pub value_rises : (d count : ℕ) → T (rises 1 (value_tests d count))
value_rises d count = tt

pub result_rises : (d n count room needed : ℕ) → T (rises 1 (result_tests d n count room needed))
result_rises d n count room needed = tt

pub pair_rises : (d e n count countRight room : ℕ) → T (rises 1 (pair_tests d e n count countRight room))
pair_rises d e n count countRight room = tt

pub both_rises : (d e n count countRight room roomRight : ℕ) → T (rises 1 (both_tests d e n count countRight room roomRight))
both_rises d e n count countRight room roomRight = tt

-- Of single blades and grades, of building, and of a flavor's text.
pub set_blade_rises : (d m count room : ℕ) → T (rises 1 (set_blade_tests d m count room))
set_blade_rises d m count room = tt

pub grade_rises : (d g count : ℕ) → T (rises 1 (grade_tests d g count))
grade_rises d g count = tt

pub built_rises : (d room : ℕ) → T (rises 1 (built_tests d room))
built_rises d room = tt

pub n1_rises : (n room : ℕ) → T (rises 1 (n_1_tests n room))
n1_rises n room = tt

pub packed_rises : (d : ℕ) (p : Option Packing) (room : ℕ) → T (rises 1 (packed_tests d p room))
packed_rises d p room = tt

pub read_rises : (t : List ℕ) → T (rises 1 (read_tests t))
read_rises t = tt

pub write_rises : (f : Flavor) (room : ℕ) → T (rises 1 (write_tests f room))
write_rises f room = tt
