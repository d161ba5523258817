-- A sum of products as floats: how far it is from the exact sum, and where it is exact. `track_step` and `exact_step` are the laws of one addition, for a loop of any shape. Assumes nothing.
use mathlib.Core.Path.{◌≡◌, refl, ap, ◌∙◌}
use Prim.Native.Nat.{ℕ, zero, suc, ◌+◌, ◌*◌, ◌^◌, ◌≤◌, ◌<◌}
use native.Mathlib.Nat.{le_refl, le-suc, le_trans}
use native.Mathlib.Omega.{arith}
use mathlib.Core.Bool.{Bool, true, false, cond}
use lib.IntN.{pos}
use lib.Dec.{T, lit≤}
use lib.Ieee.{Float, fin, Format, binary32, binary64, prec, low, unlike, add, mul, fits}
use lib.Ieee.Fits.{add-fits, cond-fits}
use lib.Ieee.Exact.{HasValue}
use Rattle.rounding.specs.Round.{rnd}
use Rattle.rounding.specs.Signed.{above_zero, below_zero}
use Rattle.rounding.specs.Operation.{cap, signed_one}
use Rattle.rounding.specs.Value.{sign_of, size_in, Close, Exact}
use Rattle.rounding.specs.Terms.{Term, prod, run, live_count, product_sign, product_size, rise, fall, ups, downs, sizes_total, OnGrid}
use Rattle.rounding.proofs.RoundLaws.{rnd_near, rnd_idem, rnd_small}
use Rattle.rounding.proofs.SignedLaws.{parts, sum_le, zero_plus, ErrorAfter, below_cap, first_step, next_small, next_step, last_step}
use Rattle.rounding.proofs.ValueLaws.{zero_value}
use Rattle.rounding.proofs.FitsLaws.{prec_pos}
use Rattle.rounding.proofs.OperationLaws.{under_cap, mul_law, times_unit_value, add_law}

-- ---- One term: its two products are rounded once, since that with the metric is exact.
pub prod_law : (f : Format) (g h : ℕ) (t : Term) → g + h ≤ low f → OnGrid f g h t → rnd (prec f) (product_size g h t) < cap f (g + h) → HasValue (prod f t) (product_sign t) (rnd (prec f) (product_size g h t)) (2 ^ (g + h))
prod_law f g h t L k c =
    mul_law f g h (mul f (signed_one t.minus) t.left) t.right (unlike t.minus (sign_of t.left)) (sign_of t.right) (size_in g t.left) (size_in h t.right) L
    (times_unit_value f g t.minus t.left (sign_of t.left) (size_in g t.left) (omega arith) k.0 k.1) k.2 c

-- ---- One addition, and its error.
-- x is finite, and within the bound for k products of the exact p - m, in units of 2 ^ -u.
pub record SumSoFar (f : Format) (u : ℕ) (x : Float) (k p m : ℕ) : Type 0 where
  pub sign : Bool
  pub amount : ℕ
  pub value : HasValue x sign amount (2 ^ u)
  pub error : ErrorAfter (2 ^ prec f) k sign amount p m

-- The same, and where there is no product yet, x is +0.
abbrev pub Track : Format → ℕ → Float → ℕ → ℕ → ℕ → Type 0
Track f u x zero p m = HasValue x false 0 (2 ^ u) × (p ≡ 0) × (m ≡ 0)
Track f u x (suc k) p m = SumSoFar f u x (suc k) p m

room : (f : Format) → 1025 * 1024 ≤ 2 ^ prec f
room binary32 = lit≤ tt
room binary64 = lit≤ tt

enough : (f : Format) → 1024 ≤ 2 ^ prec f
enough f = omega (arith, room f)

pub round_cap : (f : Format) (X A C : ℕ) → X ≤ A → 4 * A < C → rnd (prec f) X < C
round_cap f X A C h c = below_cap (2 ^ prec f) X (rnd (prec f) X) A C (enough f) (rnd_near (prec f) X) (omega arith) c

module _ (f : Format) (u : ℕ) (x y : Float) (t : Bool) (X : ℕ) (L : u ≤ low f) (v : HasValue y t (rnd (prec f) X) (2 ^ u)) where
  pub track_step : (k p m : ℕ) → 1025 * k ≤ 2 ^ prec f → 4 * (p + above_zero t X + (m + below_zero t X)) < cap f u → Track f u x k p m → Track f u (add f x y) (suc k) (p + above_zero t X) (m + below_zero t X)
  track_step zero p m room c i =
      let q = prec f in
      let Y = rnd q X in
      let a = add_law f u x y false t 0 Y L i.0 v in
      let d : a.1 ≡ Y = zero_plus t Y a.0 a.1 a.2 in
      let r : rnd q a.1 ≡ Y = ap (λ (z : ℕ). rnd q z) d ∙ rnd_idem q X (prec_pos f) in
      rw (i.1, i.2)
      record {
        sign = a.0;
        amount = Y;
        value = rw r at (a.3 (rw r (round_cap f X (p + above_zero t X + (m + below_zero t X)) (cap f u) (omega (arith, parts t X)) c)));
        error = first_step (2 ^ q) t X Y a.0 (rnd_near q X) (rw d at a.2);
      }
  track_step (suc k) p m room c i =
      let q = prec f in
      let Y = rnd q X in
      let a = add_law f u x y i.sign t i.amount Y L i.value v in
      let D = a.1 in
      let d = rnd_near q D in
      let small = next_small (2 ^ q) k i.sign i.amount p m t X Y a.0 D (enough f) room i.error (rnd_near q X) a.2 in
      record {
        sign = a.0;
        amount = rnd q D;
        value = a.3 (below_cap (2 ^ q) D (rnd q D) (p + m + (above_zero t X + below_zero t X)) (cap f u) (enough f) d small (omega arith));
        error = next_step (2 ^ q) k i.sign i.amount p m t X Y a.0 D (enough f) room i.error (rnd_near q X) a.2 (rnd q D) d;
      }

pub track_close : (f : Format) (u : ℕ) (x : Float) (k p m : ℕ) → k ≤ 1024 → Track f u x k p m → Close f u x (suc k * (p + m)) p m
track_close f u x zero p m h i = rw (i.1, i.2) record { sign = false; amount = 0; value = i.0; near = (omega arith, omega arith) }
track_close f u x (suc k) p m h i = record { sign = i.sign; amount = i.amount; value = i.value; near = last_step (2 ^ prec f) (suc k) (above_zero i.sign i.amount) (below_zero i.sign i.amount) p m h i.error }

-- ---- One addition that is exact: all sizes together are at most 2 ^ prec units.
pub exact_le : (s : Bool) (N p m : ℕ) → above_zero s N + m ≡ below_zero s N + p → N ≤ p + m
exact_le false N p m e = omega arith
exact_le true N p m e = omega arith

pub exact_step : (f : Format) (u : ℕ) (x y : Float) (t : Bool) (X p m : ℕ) → u ≤ low f → HasValue y t X (2 ^ u) → p + m + X ≤ 2 ^ prec f → Exact u x p m → Exact u (add f x y) (p + above_zero t X) (m + below_zero t X)
exact_step f u x y t X p m L v c i =
    let a = add_law f u x y i.sign t i.amount X L i.value v in
    let l : a.1 ≤ 2 ^ prec f = omega (arith, sum_le i.sign i.amount t X a.0 a.1 a.2, exact_le i.sign i.amount p m i.exact) in
    let d : rnd (prec f) a.1 ≡ a.1 = rnd_small (prec f) a.1 (prec_pos f) l in
    record { sign = a.0; amount = a.1; value = rw d at (a.3 (rw d (under_cap f u a.1 l))); exact = omega (arith, a.2, i.exact) }

-- ---- All the additions.
-- What holds of +0 and is kept by each live term holds of the sum. P speaks of the float, how many products are in it, and their exact sum; a step may use that the count stays within K and T within B.
module _ (f : Format) (g h : ℕ) (ts : ℕ → Term) (Q : Term → Type 0) (P : Float → ℕ → ℕ → ℕ → Type 0) (K B : ℕ) (none : P (fin false 0 (pos 0)) 0 0 0)
    (one : (t : Term) (x : Float) (k p m : ℕ) → Q t → k < K → p + rise g h t + (m + fall g h t) ≤ B → P x k p m
    → P (add f x (prod f t)) (suc k) (p + rise g h t) (m + fall g h t)) where
  pub along : (n : ℕ) → ((i : ℕ) → i < n → T (ts i).live → Q (ts i)) → live_count ts n ≤ K → sizes_total g h ts n ≤ B → P (run f ts n) (live_count ts n) (ups g h ts n) (downs g h ts n)
  along zero q c b = none
  along (suc n) q c b = go t.live (q n (le_refl (suc n))) c b (along n (λ i l. q i (le_trans l (le-suc n))))
    where
      t : Term
      t = ts n

      U : ℕ
      U = ups g h ts n

      W : ℕ
      W = downs g h ts n

      k : ℕ
      k = live_count ts n

      x : Float
      x = run f ts n

      go : (z : Bool) → (T z → Q t) → cond z (suc k) k ≤ K → cond z (U + rise g h t) U + cond z (W + fall g h t) W ≤ B → (k ≤ K → U + W ≤ B → P x k U W)
          → P (cond z (add f x (prod f t)) x) (cond z (suc k) k) (cond z (U + rise g h t) U) (cond z (W + fall g h t) W)
      go true q c b i = one t x k U W (q tt) c b (i (omega arith) (omega arith))
      go false q c b i = i c b

pub count_le : (ts : ℕ → Term) (n : ℕ) → live_count ts n ≤ n
count_le ts zero = le_refl 0
count_le ts (suc n) = go (ts n).live (count_le ts n)
  where
    go : (b : Bool) → live_count ts n ≤ n → cond b (suc (live_count ts n)) (live_count ts n) ≤ suc n
    go true h = omega arith
    go false h = omega arith

pub run_fits : (f : Format) (ts : ℕ → Term) (n : ℕ) → T (fits f (run f ts n))
run_fits f ts zero = unfold fits in tt
run_fits f ts (suc n) = cond-fits f (ts n).live (add f (run f ts n) (prod f (ts n))) (run f ts n) (add-fits f (run f ts n) (prod f (ts n))) (run_fits f ts n)

module _ (f : Format) (g h : ℕ) (ts : ℕ → Term) (n : ℕ) where
  pub total_le : (M : ℕ) → ((i : ℕ) → i < n → T (ts i).live → product_size g h (ts i) ≤ M) → sizes_total g h ts n ≤ live_count ts n * M
  total_le M q =
      along f g h ts (λ t. product_size g h t ≤ M) (λ x k p m. p + m ≤ k * M) (live_count ts n) (sizes_total g h ts n) (omega arith)
      (λ t x k p m l c b i. omega (arith, parts (product_sign t) (product_size g h t))) n q (le_refl (live_count ts n)) (le_refl (sizes_total g h ts n))

  module _ (L : g + h ≤ low f) (q : (i : ℕ) → i < n → T (ts i).live → OnGrid f g h (ts i)) where
    -- The sum is within (count + 1) * T * 2 ^ -prec of the exact one.
    pub sum_near : live_count ts n ≤ 1024 → 4 * sizes_total g h ts n < cap f (g + h) → Close f (g + h) (run f ts n) (suc (live_count ts n) * sizes_total g h ts n) (ups g h ts n) (downs g h ts n)
    sum_near l c =
        track_close f (g + h) (run f ts n) (live_count ts n) (ups g h ts n) (downs g h ts n) l
        (along f g h ts (OnGrid f g h) (Track f (g + h)) 1024 (sizes_total g h ts n) (zero_value (g + h), refl, refl) step n q l (le_refl (sizes_total g h ts n)))
      where
        step : (t : Term) (x : Float) (k p m : ℕ) → OnGrid f g h t → k < 1024 → p + rise g h t + (m + fall g h t) ≤ sizes_total g h ts n → Track f (g + h) x k p m
            → Track f (g + h) (add f x (prod f t)) (suc k) (p + rise g h t) (m + fall g h t)
        step t x k p m o j b i =
            let s = product_sign t in
            let X = product_size g h t in
            let w : X ≤ sizes_total g h ts n = omega (arith, parts s X) in
            track_step f (g + h) x (prod f t) s X L (prod_law f g h t L o (round_cap f X (sizes_total g h ts n) (cap f (g + h)) w c)) k p m (omega (arith, room f)) (omega arith) i

    -- Where T is at most 2 ^ prec units, the sum is the exact one.
    pub sum_exact : sizes_total g h ts n ≤ 2 ^ prec f → Exact (g + h) (run f ts n) (ups g h ts n) (downs g h ts n)
    sum_exact c =
        along f g h ts (OnGrid f g h) (λ x k p m. Exact (g + h) x p m) (live_count ts n) (2 ^ prec f) (record { sign = false; amount = 0; value = zero_value (g + h); exact = refl }) step n q (le_refl (live_count ts n)) c
      where
        step : (t : Term) (x : Float) (k p m : ℕ) → OnGrid f g h t → k < live_count ts n → p + rise g h t + (m + fall g h t) ≤ 2 ^ prec f → Exact (g + h) x p m
            → Exact (g + h) (add f x (prod f t)) (p + rise g h t) (m + fall g h t)
        step t x k p m o j b i =
            let s = product_sign t in
            let X = product_size g h t in
            let w : p + m + X ≤ 2 ^ prec f = omega (arith, parts s X) in
            let e : rnd (prec f) X ≡ X = rnd_small (prec f) X (prec_pos f) (omega arith) in
            exact_step f (g + h) x (prod f t) s X p m L (rw e at (prod_law f g h t L o (rw e (under_cap f (g + h) X (omega arith))))) w i
