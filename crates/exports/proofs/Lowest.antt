-- In the lists of tests that the exports have of their own the numbers rise, so that the lowest that applies is given (`refused_lowest` of masks); but a sheet read gives 9 first. Assumes nothing.
use mathlib.Core.Path.{◌≡◌}
use mathlib.Core.Bool.{false}
use mathlib.Core.List.{List}
use Prim.Native.Nat.{ℕ}
use lib.Dec.{T}
use Rattle.masks.specs.Outcome.{refusal}
use Rattle.masks.proofs.Lowest.{rises}
use Rattle.sheets.specs.Read.{is_sheet_bytes}
use Rattle.exports.specs.Order.{order_of_tests}
use Rattle.exports.specs.Sheet.{write_from_tests, value_from_tests, read_from_tests}

pub order_of_rises : (d room roomRight : ℕ) → T (rises 1 (order_of_tests d room roomRight))
order_of_rises d room roomRight = tt

pub write_from_rises : (b xs : List ℕ) (room : ℕ) → T (rises 1 (write_from_tests b xs room))
write_from_rises b xs room = tt

pub value_from_rises : (b : List ℕ) (i : ℕ) → T (rises 1 (value_from_tests b i))
value_from_rises b i = tt

pub read_from_nine_first : (b : List ℕ) (roomShapes room : ℕ) → is_sheet_bytes b ≡ false → refusal (read_from_tests b roomShapes room) ≡ 9
unfolding refusal
read_from_nine_first b roomShapes room e = rw e
