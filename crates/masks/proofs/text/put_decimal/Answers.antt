use mathlib.Core.Path.{◌≡◌, refl, sym, ap, ◌∙◌}
use Prim.Native.Nat.{ℕ, ◌+◌, ◌-◌, ◌/◌, ◌%◌, ◌≤◌}
use native.Mathlib.Omega.{arith}
use mathlib.Core.List.{List}
use lib.ListN.{length, take, drop, length-drop}
use lib.Seq.{length-take-le}
use Rattle.masks.specs.Text.{decimal}
use Rattle.masks.proofs.ListLaws.{sets_part}
use Rattle.masks.proofs.TextLaws.{decimal_one, decimal_two, decimal_three}
use Rattle.masks.proofs.text.put_decimal.Goals as goal

-- the part that is written is as long as the digits
long : (at k n : ℕ) (out : List ℕ) → k ≡ n → at + n ≤ length out → length (take (at + k - at) (drop at out)) ≡ n
long at k n out e h = omega (arith, length-take-le (at + k - at) (drop at out) (omega (arith, length-drop at out)))

pub bounds-out-at : goal.bounds-out-at
bounds-out-at c = omega (arith, ap length (decimal_one c.args.n (omega arith)))

pub copy_from_slice-requires : goal.copy_from_slice-requires
copy_from_slice-requires c =
    let e = ap length (decimal_two c.args.n (omega arith) (omega arith)) in
    long c.args.at c.decimal_length.result 2 c.args.out.now (c.decimal_length.ensures ∙ e) (omega (arith, e))

pub copy_from_slice-requires-in_default : goal.copy_from_slice-requires-in_default
copy_from_slice-requires-in_default c =
    let e = ap length (decimal_three c.args.n (omega arith) (omega arith)) in
    long c.args.at c.decimal_length.result 3 c.args.out.now (c.decimal_length.ensures ∙ e) (omega (arith, e))

pub returns-in-0-to-9 : goal.returns-in-0-to-9
returns-in-0-to-9 c =
    let n : ℕ = c.args.n in
    let e : n % 10 ≡ n = omega arith in
    (ap (λ k. c.args.at + k) c.decimal_length.ensures, rw (decimal_one n (omega arith), e) refl)

pub returns-in-10-to-99 : goal.returns-in-10-to-99
returns-in-10-to-99 c =
    let n : ℕ = c.args.n in
    let e : n / 10 % 10 ≡ n / 10 = omega arith in
    let q : c.copy_from_slice.new.self ≡ decimal n = c.copy_from_slice.ensures.after ∙ rw (decimal_two n (omega arith) (omega arith), e) refl in (
      ap (λ k. c.args.at + k) c.decimal_length.ensures,
      sets_part c.args.at c.decimal_length.result c.args.out.now _ (decimal n) q (sym c.decimal_length.ensures) (omega arith),
    )

pub returns-in_default : goal.returns-in_default
returns-in_default c =
    let n : ℕ = c.args.n in
    let q : c.copy_from_slice-in_default.new.self ≡ decimal n = c.copy_from_slice-in_default.ensures.after ∙ rw (decimal_three n (omega arith) (omega arith)) refl in (
      ap (λ k. c.args.at + k) c.decimal_length.ensures,
      sets_part c.args.at c.decimal_length.result c.args.out.now _ (decimal n) q (sym c.decimal_length.ensures) (omega arith),
    )
