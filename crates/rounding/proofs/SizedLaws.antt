-- Coefficients that are zero or from 2 ^ -r to 2 ^ r in size are whole numbers of 2 ^ -grain. So the bound holds of a sum of up to 512 of their products. Assumes nothing.
use mathlib.Core.Path.{sym, ap, ◌∙◌, subst}
use Prim.Native.Nat.{ℕ, zero, suc, ◌+◌, ◌*◌, ◌^◌, ◌≤◌, ◌<◌, zero-le}
use native.Mathlib.Nat.{le_trans, le_of_eq, lt_of_le_of_lt, lt_of_not-le, not-le_of_lt, mul-one, mul_right_comm, zero-mul, mul-le-mul, mul-le-mul_right, mul-lt-mul_of_pos_right, le_of_mul-le-mul_right}
use native.Mathlib.Omega.{arith}
use mathlib.Core.Bool.{Bool}
use lib.IntN.{ℤ, pos, negsuc}
use lib.Dec.{T, lit≤, lit<}
use lib.Pow.{pow-add, pow_pos, pow_mono}
use lib.Ieee.{Float, nan, inf, fin, Format, binary32, binary64, prec, low, up, down, fits}
use lib.Ieee.Fits.{down_pos}
use Rattle.rounding.specs.Operation.{cap}
use Rattle.rounding.specs.Value.{size_in, Whole, Close}
use Rattle.rounding.specs.Terms.{Term, run, live_count, product_size, ups, downs, sizes_total, OnGrid}
use Rattle.rounding.specs.Sized.{Sized, InRange, reach, grain, grain_of}
use Rattle.rounding.proofs.ValueLaws.{zero_whole, whole_exp}
use Rattle.rounding.proofs.FitsLaws.{prec_pos, fits_prec}
use Rattle.rounding.proofs.TermsLaws.{total_le, sum_near}

-- ---- One coefficient.
on_grain : (f : Format) (r : ℕ) (s : Bool) (m : ℕ) (e : ℤ) → m < 2 ^ prec f → down e ≤ m * up e * 2 ^ r → Whole (grain f r) (fin s m e)
on_grain f r s m (pos k) h l = whole_exp (grain f r) s m (pos k) (pow_pos (grain f r))
on_grain f r s m (negsuc k) h l =
    let b : 2 ^ suc k < 2 ^ (prec f + r) = lt_of_le_of_lt (le_trans l (le_of_eq (ap (λ (x : ℕ). x * 2 ^ r) (mul-one m)))) (subst (λ (x : ℕ). m * 2 ^ r < x) (sym (pow-add 2 (prec f) r)) (mul-lt-mul_of_pos_right h (pow_pos r))) in
    let k_lt : suc k < prec f + r = lt_of_not-le (λ (g : prec f + r ≤ suc k). not-le_of_lt b (pow_mono g)) in
    whole_exp (grain f r) s m (negsuc k) (pow_mono (omega (arith, prec_pos f)))

pub sized_whole : (f : Format) (r : ℕ) (x : Float) → T (fits f x) → Sized r x → Whole (grain f r) x
sized_whole f r nan t z = absurd z
sized_whole f r (inf s) t z = absurd z
sized_whole f r (fin s zero e) t z = zero_whole (grain f r) s e
sized_whole f r (fin s (suc m) e) t z = on_grain f r s (suc m) e (fits_prec f s (suc m) e t) z.0

pub sized_le : (u r : ℕ) (x : Float) → Whole u x → Sized r x → size_in u x ≤ 2 ^ (r + u)
sized_le u r nan w z = absurd z
sized_le u r (inf s) w z = absurd z
sized_le u r (fin s zero e) w z =
    le_of_mul-le-mul_right {k = down e} (le_trans (le_of_eq (sym w.1 ∙ ap (λ (x : ℕ). x * 2 ^ u) (zero-mul (up e)) ∙ zero-mul (2 ^ u))) zero-le) (down_pos e)
sized_le u r (fin s (suc m) e) w z =
    le_of_mul-le-mul_right {k = down e}
    (le_trans (le_of_eq (sym w.1))
    (le_trans (mul-le-mul_right (2 ^ u) z.1) (le_of_eq (mul_right_comm (2 ^ r) (down e) (2 ^ u) ∙ ap (λ (x : ℕ). x * down e) (sym (pow-add 2 r u)))))) (down_pos e)

-- ---- One term.
pub range_grid : (f : Format) (r : ℕ) (t : Term) → InRange f r t → OnGrid f (grain f r) (grain f r) t
range_grid f r t c = (c.0, sized_whole f r t.left c.0 c.2, sized_whole f r t.right c.1 c.3)

pub product_le : (f : Format) (r : ℕ) (t : Term) → InRange f r t → product_size (grain f r) (grain f r) t ≤ 2 ^ (r + grain f r) * 2 ^ (r + grain f r)
product_le f r t c = let k = range_grid f r t c in mul-le-mul (sized_le (grain f r) r t.left k.1 c.2) (sized_le (grain f r) r t.right k.2 c.3)

-- ---- The sum: within (count + 1) * T * 2 ^ -prec of the exact one.
pub sum_of_512 : (f : Format) (ts : ℕ → Term) (n : ℕ) → live_count ts n ≤ 512 → ((i : ℕ) → i < n → T (ts i).live → InRange f (reach f) (ts i))
    → Close f (grain_of f + grain_of f) (run f ts n) (suc (live_count ts n) * sizes_total (grain_of f) (grain_of f) ts n) (ups (grain_of f) (grain_of f) ts n) (downs (grain_of f) (grain_of f) ts n)
sum_of_512 f ts n l q =
    let g = grain_of f in
    let M = 2 ^ (reach f + g) * 2 ^ (reach f + g) in
    sum_near f g g ts n (on_low f) (λ i j k. range_grid f (reach f) (ts i) (q i j k)) (le_trans l (lit≤ tt))
    (chain (live_count ts n) (sizes_total g g ts n) M (cap f (g + g)) l (total_le f g g ts n M (λ i j k. product_le f (reach f) (ts i) (q i j k))) (top_fits f))
  where
    on_low : (f : Format) → grain_of f + grain_of f ≤ low f
    on_low binary32 = lit≤ tt
    on_low binary64 = lit≤ tt

    top_fits : (f : Format) → 4 * (512 * (2 ^ (reach f + grain_of f) * 2 ^ (reach f + grain_of f))) < cap f (grain_of f + grain_of f)
    top_fits binary32 = lit< tt
    top_fits binary64 = lit< tt

    chain : (n t M C : ℕ) → n ≤ 512 → t ≤ n * M → 4 * (512 * M) < C → 4 * t < C
    chain n t M C l h c = let x : n * M ≤ 512 * M = mul-le-mul_right M l in omega arith
