-- Adding and taking away 1.5 x 2 ^ (prec - 1) rounds a float below 2 ^ (prec - 2) to the nearest whole number, a tie to the even one, and what is left is exact: in both formats. Assumes nothing.
use mathlib.Core.Path.{◌≡◌, refl, sym, ap, ◌∙◌, subst}
use mathlib.Core.Logic.{◌⊎◌, inl, inr}
use Prim.Native.Nat.{ℕ, zero, suc, ◌+◌, ◌-◌, ◌*◌, ◌%◌, ◌^◌, ◌≤◌, ◌<◌, zero-le}
use native.Mathlib.Nat.{le_trans, le_of_eq, mul-one, mul-lt-mul_of_pos_right}
use native.Mathlib.Omega.{arith}
use mathlib.Core.Bool.{Bool, true, false, not}
use lib.IntN.{pos}
use lib.Pow.{pow-add, pow_pos}
use lib.Ieee.{Float, fin, Format, binary32, binary64, prec, emax, low, size, add, sub, neg}
use lib.Ieee.Digits.{size-le}
use lib.Ieee.Exact.{HasValue}
use lib.Ieee.Nearest.{closest}
use Rattle.rounding.specs.Round.{rnd}
use Rattle.rounding.specs.Signed.{above_zero, below_zero, AddsTo}
use Rattle.rounding.specs.Operation.{cap, RoundedSum}
use Rattle.rounding.proofs.RoundLaws.{Half, apart, closest_half, closest_even, closest_le, size_above, rnd_small}
use Rattle.rounding.proofs.SignedLaws.{parts}
use Rattle.rounding.proofs.ValueLaws.{rescale, neg_value}
use Rattle.rounding.proofs.FitsLaws.{prec_pos}
use Rattle.rounding.proofs.OperationLaws.{under_cap, add_law}

-- 1.5 x 2 ^ (prec - 1).
abbrev pub whole_step : Format → Float
whole_step f = fin false 3 (pos (prec f - 2))

-- x with that added and taken away.
abbrev pub stepped : Format → Float → Float
stepped f x = sub f (add f x (whole_step f)) (whole_step f)

-- ---- Rounding where the last digit that is kept counts whole numbers.
rnd_unit : (p u n : ℕ) → 0 < p → 2 ^ (p - 1) * 2 ^ u ≤ n → n < 2 ^ p * 2 ^ u → rnd p n ≡ closest n (2 ^ u) * 2 ^ u
rnd_unit p u n P l h =
    let a : size n ≤ p + u = size-le n (p + u) (subst (λ (z : ℕ). n < z) (sym (pow-add 2 p u)) h) in
    let b : p - 1 + u < size n = size_above n (p - 1 + u) (subst (λ (z : ℕ). z ≤ n) (sym (pow-add 2 (p - 1) u)) l) in
    let e : size n - p ≡ u = omega arith in
    ap (λ (z : ℕ). closest n (2 ^ z) * 2 ^ z) e

-- A quarter of 2 ^ prec, and how many of it 2 ^ prec and its half are.
abbrev pub quarter : Format → ℕ
quarter f = 2 ^ (prec f - 2)

pub quarters : (f : Format) → (2 ^ prec f ≡ 4 * quarter f) × (2 ^ (prec f - 1) ≡ 2 * quarter f)
quarters binary32 = (refl, refl)
quarters binary64 = (refl, refl)

-- ---- The numbers: n / U with the sign s, and K added, is D / U, which is rounded to c; K taken away from that is k with the sign t.
-- k has the sign s, unless it is zero.
abbrev pub OrZero : ℕ → Bool → Bool → Type 0
OrZero k t s = (k ≡ 0) ⊎ (t ≡ s)

-- The sum is above zero.
sum_plus : (s : Bool) (n B : ℕ) (w : Bool) (D : ℕ) → n < B → AddsTo s n false B w D → (w ≡ false) × AddsTo s n false B false D
sum_plus s n B false D h e = (refl, e)
sum_plus false n B true D h e = absurd (no n B D h e)
  where
    no : (n B D : ℕ) → n < B → 0 + 0 + 0 ≡ D + n + B → ⊥
    no n B D h e = omega arith
sum_plus true n B true D h e = absurd (no n B D h e)
  where
    no : (n B D : ℕ) → n < B → 0 + n + 0 ≡ D + 0 + B → ⊥
    no n B D h e = omega arith

sum_range : (s : Bool) (n P U D : ℕ) → n < P * U → AddsTo s n false (3 * P * U) false D → (2 * P * U ≤ D) × (D < 4 * P * U)
sum_range false n P U D h e = (omega arith, omega arith)
sum_range true n P U D h e = (omega arith, omega arith)

signed_nearest : (s t : Bool) (n U K c k D : ℕ) → 0 < U → AddsTo s n false (K * U) false D → Half D U c → AddsTo false c true K t k → OrZero k t s × (apart D (c * U) ≡ apart n (k * U))
signed_nearest s t n U K c k D P e h g = go s t k e (ap (λ (z : ℕ). z * U) g)
  where
    none : U ≤ 0 → ⊥
    none l = omega arith

    go : (s t : Bool) (k : ℕ) → AddsTo s n false (K * U) false D → (above_zero t k + 0 + K) * U ≡ (below_zero t k + c + 0) * U → OrZero k t s × (apart D (c * U) ≡ apart n (k * U))
    go false false k e g = (inr refl, omega arith)
    go true true k e g = (inr refl, omega arith)
    go false true zero e g = (inl refl, omega arith)
    go true false zero e g = (inl refl, omega arith)
    go false true (suc k) e g = absurd (none (omega arith))
    go true false (suc k) e g = absurd (none (omega arith))

half_apart : (n U k D c : ℕ) → Half D U c → apart D (c * U) ≡ apart n (k * U) → Half n U k
half_apart n U k D c h e = (omega arith, omega arith)

-- What is left of n.
rest_apart : (s t : Bool) (n U k : ℕ) (w : Bool) (E : ℕ) → OrZero k t s → AddsTo s n (not t) (k * U) w E → E ≡ apart n (k * U)
rest_apart s t n U k w E (inl z) e = none s w (k * U) (ap (λ (z : ℕ). z * U) z) (parts (not t) (k * U)) e
  where
    none : (s w : Bool) (B : ℕ) → B ≡ 0 * U → above_zero (not t) B + below_zero (not t) B ≡ B → AddsTo s n (not t) B w E → E ≡ apart n B
    none false false B z p e = omega arith
    none false true B z p e = omega arith
    none true false B z p e = omega arith
    none true true B z p e = omega arith
rest_apart s t n U k w E (inr z) e = like s w (subst (λ (b : Bool). AddsTo s n (not b) (k * U) w E) z e)
  where
    like : (s w : Bool) → AddsTo s n (not s) (k * U) w E → E ≡ apart n (k * U)
    like false false e = omega arith
    like false true e = omega arith
    like true false e = omega arith
    like true true e = omega arith

apart_le : (n U k : ℕ) → Half n U k → apart n (k * U) ≤ n
apart_le n U zero h = omega arith
apart_le n U (suc k) h = omega arith

even_rest : (t : Bool) (c K k : ℕ) → c % 2 ≡ 0 → K % 2 ≡ 0 → AddsTo false c true K t k → k % 2 ≡ 0
even_rest false c K k p q e = omega arith
even_rest true c K k p q e = omega arith

-- ---- The floats: x is n of 2 ^ -u with the sign s, below 2 ^ (prec - 2).
module _ (f : Format) (x : Float) (s : Bool) (u n : ℕ) (L : u ≤ low f) (v : HasValue x s n (2 ^ u)) (h : n < quarter f * 2 ^ u) where
  step_value : (z : ℕ) → HasValue (whole_step f) false (3 * quarter f * 2 ^ z) (2 ^ z)
  step_value z = (refl, sym (mul-one (3 * quarter f * 2 ^ z)))

  -- x with the step added.
  record Raised : Type 0 where
    D : ℕ
    c : ℕ
    adds : AddsTo s n false (3 * quarter f * 2 ^ u) false D
    nearest : c ≡ closest D (2 ^ u)
    short : c ≤ 2 ^ prec f
    value : HasValue (add f x (whole_step f)) false c 1

  raised : Raised
  raised = go (add_law f u x (whole_step f) s false n (3 * quarter f * 2 ^ u) L v (step_value u))
    where
      wide : (n P U : ℕ) → n < P * U → n < 3 * P * U
      wide n P U h = omega arith

      go : RoundedSum f u (add f x (whole_step f)) s n false (3 * quarter f * 2 ^ u) → Raised
      go (w, D, e, r) =
          let y = add f x (whole_step f) in
          let q = sum_plus s n (3 * quarter f * 2 ^ u) w D (wide n (quarter f) (2 ^ u) h) e in
          let b = sum_range s n (quarter f) (2 ^ u) D h q.1 in
          let top : D < 2 ^ prec f * 2 ^ u = rw (quarters f).0 b.1 in
          let c = closest D (2 ^ u) in
          let is : rnd (prec f) D ≡ c * 2 ^ u = rnd_unit (prec f) u D (prec_pos f) (rw (quarters f).1 b.0) top in
          let short : c ≤ 2 ^ prec f = closest_le D (2 ^ u) (2 ^ prec f) (pow_pos u) top in
          let fine : c * 2 ^ u < cap f u = subst (λ (z : ℕ). c * 2 ^ u < z) (sym (pow-add 2 (0 + suc (emax f)) u) ∙ ap (λ (z : ℕ). 2 ^ z) (omega arith)) (mul-lt-mul_of_pos_right (under_cap f 0 c short) (pow_pos u)) in
          record {
            D = D;
            c = c;
            adds = q.1;
            nearest = refl;
            short = short;
            value =
                rescale y false (c * 2 ^ u) (2 ^ u) c 1 (pow_pos u) (sym (mul-one (c * 2 ^ u)))
                (subst (λ (z : Bool). HasValue y z (c * 2 ^ u) (2 ^ u)) q.0 (subst (λ (z : ℕ). HasValue y w z (2 ^ u)) is (r (rw is fine))));
          }

  -- x rounded to a whole number: a half away at most, at a tie even, and with the sign of x unless it is zero.
  pub record Nearest : Type 0 where
    pub sign : Bool
    pub whole : ℕ
    pub value : HasValue (stepped f x) sign whole 1
    pub short : whole ≤ 2 ^ prec f
    pub half : Half n (2 ^ u) whole
    pub even : 2 * apart n (whole * 2 ^ u) ≡ 2 ^ u → whole % 2 ≡ 0
    pub signed : OrZero whole sign s

  pub nearest_whole : Nearest
  unfolding sub
  nearest_whole = go (add_law f 0 (add f x (whole_step f)) (neg (whole_step f)) false true raised.c (3 * quarter f) zero-le raised.value (neg_value (whole_step f) false (3 * quarter f) 1 (refl, refl)))
    where
      few : (t : Bool) (c K k : ℕ) → c ≤ K + K → AddsTo false c true K t k → k ≤ K
      few false c K k h e = omega arith
      few true c K k h e = omega arith

      low_c : raised.c ≤ 3 * quarter f + 3 * quarter f
      low_c = let a = raised.short in omega (arith, (quarters f).0)

      half : Half raised.D (2 ^ u) raised.c
      half = rw raised.nearest (closest_half raised.D (2 ^ u) (pow_pos u))

      c_even : 2 * apart raised.D (raised.c * 2 ^ u) ≡ 2 ^ u → raised.c % 2 ≡ 0
      c_even = rw raised.nearest (closest_even raised.D (2 ^ u) (pow_pos u))

      step_even : (f : Format) → 3 * quarter f % 2 ≡ 0
      step_even binary32 = refl
      step_even binary64 = refl

      go : RoundedSum f 0 (stepped f x) false raised.c true (3 * quarter f) → Nearest
      go (t, k, e, r) =
          let short : k ≤ 2 ^ prec f = omega (arith, few t raised.c (3 * quarter f) k low_c e, (quarters f).0) in
          let is : rnd (prec f) k ≡ k = rnd_small (prec f) k (prec_pos f) short in
          let b = signed_nearest s t n (2 ^ u) (3 * quarter f) raised.c k raised.D (pow_pos u) raised.adds half e in
          record {
            sign = t;
            whole = k;
            value = subst (λ (z : ℕ). HasValue (stepped f x) t z 1) is (r (rw is (under_cap f 0 k short)));
            short = short;
            half = half_apart n (2 ^ u) k raised.D raised.c half b.1;
            even = λ tie. even_rest t raised.c (3 * quarter f) k (c_even (ap (λ (y : ℕ). 2 * y) b.1 ∙ tie)) (step_even f) e;
            signed = b.0;
          }

  -- What is left of x is exact, where x has no more digits than the format keeps.
  pub rest_exact : n ≤ 2 ^ prec f → (w : Bool) × HasValue (sub f x (stepped f x)) w (apart n (nearest_whole.whole * 2 ^ u)) (2 ^ u)
  unfolding sub
  rest_exact H = go (add_law f u x (neg r) s (not z.sign) n (k * 2 ^ u) L v (neg_value r z.sign (k * 2 ^ u) (2 ^ u) (rescale r z.sign k 1 (k * 2 ^ u) (2 ^ u) (pow_pos 0) (mul-one (k * 2 ^ u)) z.value)))
    where
      z : Nearest
      z = nearest_whole

      r : Float
      r = stepped f x

      k : ℕ
      k = z.whole

      go : RoundedSum f u (add f x (neg r)) s n (not z.sign) (k * 2 ^ u) → (w : Bool) × HasValue (add f x (neg r)) w (apart n (k * 2 ^ u)) (2 ^ u)
      go (w, E, e, a) =
          let is : E ≡ apart n (k * 2 ^ u) = rest_apart s z.sign n (2 ^ u) k w E z.signed e in
          let short : E ≤ 2 ^ prec f = le_trans (le_of_eq is) (le_trans (apart_le n (2 ^ u) k z.half) H) in
          let same : rnd (prec f) E ≡ E = rnd_small (prec f) E (prec_pos f) short in
          (w, subst (λ (y : ℕ). HasValue (add f x (neg r)) w y (2 ^ u)) (same ∙ is) (a (rw same (under_cap f u E short))))
