-- How near to exact a snapped sum of products is: demand 3's bound and its exact case, for one coefficient. Assumes nothing.
use Prim.Native.Nat.{ℕ, suc, ◌+◌, ◌-◌, ◌*◌, ◌^◌, ◌≤◌, ◌<◌}
use native.Mathlib.Nat.{le_trans}
use lib.Dec.{T, lit≤}
use lib.Ieee.{Format, binary32, binary64, prec, low}
use Rattle.rounding.specs.Value.{Close, Exact}
use Rattle.rounding.specs.Terms.{Term, run, live_count, ups, downs, sizes_total, OnGrid}
use Rattle.rounding.specs.Sized.{InRange, reach, grain_of}
use Rattle.rounding.specs.Snap.{snap}
use Rattle.rounding.proofs.SignedLaws.{within_shift}
use Rattle.rounding.proofs.TermsLaws.{run_fits, sum_exact}
use Rattle.rounding.proofs.SizedLaws.{sum_of_512}
use Rattle.rounding.proofs.SnapLaws.{snap_near, snap_exact}

-- For up to 512 products of coefficients that are zero or from 2 ^ -reach to 2 ^ reach in size: within (count + 1) * T * 2 ^ -prec + 2 ^ -46.
pub demand_bound : (f : Format) (ts : ℕ → Term) (n : ℕ) → live_count ts n ≤ 512 → ((i : ℕ) → i < n → T (ts i).live → InRange f (reach f) (ts i))
    → Close f (grain_of f + grain_of f) (snap f (run f ts n)) (suc (live_count ts n) * sizes_total (grain_of f) (grain_of f) ts n + 2 ^ prec f * 2 ^ (grain_of f + grain_of f - 46))
    (ups (grain_of f) (grain_of f) ts n) (downs (grain_of f) (grain_of f) ts n)
demand_bound f ts n l q =
    let g = grain_of f in
    let c = sum_of_512 f ts n l q in
    let z = snap_near f (g + g) (run f ts n) c.sign c.amount (fine f) (run_fits f ts n) c.value in
    record {
      sign = c.sign;
      amount = z.0;
      value = z.1;
      near = within_shift c.sign c.amount z.0 (2 ^ prec f) (suc (live_count ts n) * sizes_total g g ts n) (ups g g ts n) (downs g g ts n) (2 ^ (g + g - 46)) z.2 z.3 c.near;
    }
  where
    fine : (f : Format) → 46 ≤ grain_of f + grain_of f
    fine binary32 = lit≤ tt
    fine binary64 = lit≤ tt

-- For factors that are whole numbers of 2 ^ -g and 2 ^ -h, with g + h at most 46 and T at most 2 ^ prec units: exact.
pub demand_exact : (f : Format) (g h : ℕ) (ts : ℕ → Term) (n : ℕ) → g + h ≤ 46 → ((i : ℕ) → i < n → T (ts i).live → OnGrid f g h (ts i)) → sizes_total g h ts n ≤ 2 ^ prec f
    → Exact (g + h) (snap f (run f ts n)) (ups g h ts n) (downs g h ts n)
demand_exact f g h ts n l q c =
    let r = sum_exact f g h ts n (le_trans l (fine f)) q c in
    record { sign = r.sign; amount = r.amount; value = snap_exact f (g + h) (run f ts n) r.sign r.amount l (run_fits f ts n) r.value; exact = r.exact }
  where
    fine : (f : Format) → 46 ≤ low f
    fine binary32 = lit≤ tt
    fine binary64 = lit≤ tt

-- The bound for binary64, in numbers: the unit is 2 ^ -904, of which 2 ^ -46 is 2 ^ 858.
bound_64 : (ts : ℕ → Term) (n : ℕ) → live_count ts n ≤ 512 → ((i : ℕ) → i < n → T (ts i).live → InRange binary64 400 (ts i))
    → Close binary64 904 (snap binary64 (run binary64 ts n)) (suc (live_count ts n) * sizes_total 452 452 ts n + 2 ^ 53 * 2 ^ 858) (ups 452 452 ts n) (downs 452 452 ts n)
bound_64 = demand_bound binary64
