-- A sum from +0 of negated terms, taken from +0, is the sum of the terms, to the bit: a rounding does the same for both signs, and where terms cancel both sums are +0. Assumes nothing.
use mathlib.Core.Path.{◌≡◌, refl, sym, ap, ap₂, ◌∙◌, subst}
use mathlib.Core.Bool.{Bool, true, false, not, ◌&&◌, cond}
use Prim.Native.Nat.{ℕ, zero, suc, ◌+◌, ◌-◌, ◌*◌, ◌^◌, ◌≤◌, ◌<◌}
use native.Mathlib.Nat.{le_refl, le-suc, le_trans, lt_irrefl, mul-one, mul-pos, one-mul, sub-zero, zero-add, zero-mul, zero-lt-suc}
use native.Mathlib.Omega.{arith}
use lib.Dec.{T, ltb, ltb→lt, nltb→le}
use lib.Ieee.{Float, nan, inf, fin, Format, low, up, down, round, sum, add, sub, mul, neg, fits}
use lib.Ieee.Fits.{up_pos, down_pos, round-fits, neg-fits, mul-fits}
use lib.Ieee.Scale.{round_same}
use lib.IntN.{ℤ, pos}
use Rattle.rounding.specs.Terms.{Term, prod, run}
use Rattle.rounding.specs.Value.{size_in}
use Rattle.rounding.proofs.FitsLaws.{unique}
use Rattle.rounding.proofs.NegatedLaws.{neg_neg}
use Rattle.rounding.proofs.OperationLaws.{neg_round, times_unit}
use Rattle.rounding.proofs.TermsLaws.{run_fits}
use Rattle.product.proofs.PairwiseZero.{minus_units, round_minus_zero, left_units, right_units, run_never_minus_zero}

-- ---- zero

-- +0 where s is false, and -0 where it is true.
abbrev signed_zero : Bool → Float
signed_zero s = fin s 0 (pos 0)

-- x is not -0.
abbrev NotMinusZero : Float → Type 0
NotMinusZero x = (e : ℤ) → x ≡ fin true 0 e → ⊥

zero_held : (f : Format) (s : Bool) → T (fits f (signed_zero s))
unfolding fits
zero_held f s = tt

zero_one_way : (f : Format) (s : Bool) (e : ℤ) → T (fits f (fin s 0 e)) → fin s 0 e ≡ signed_zero s
zero_one_way f s e h = unique f (fin s 0 e) (signed_zero s) s 0 1 (zero-lt-suc 0) h (zero_held f s) (refl, simp zero-mul) (refl, refl)

not_minus_zero : (s : Bool) (m : ℕ) (e : ℤ) → NotMinusZero (fin s (suc m) e)
not_minus_zero s m e d z = let w : suc m ≡ 0 = cc in omega arith

-- ---- one rounding

-- A value that the format holds is its own rounding.
round_own : (f : Format) (s : Bool) (m : ℕ) (e : ℤ) → T (fits f (fin s m e)) → round f s (m * up e * 1) (1 * down e) ≡ fin s m e
unfolding mul
round_own f false m e h = ap (λ (k : ℕ). round f false k (1 * down e)) (mul-one (m * up e) ∙ sym (one-mul (m * up e))) ∙ times_unit f false (fin false m e) h
round_own f true m e h = ap (λ (k : ℕ). round f true k (1 * down e)) (mul-one (m * up e) ∙ sym (one-mul (m * up e))) ∙ times_unit f false (fin true m e) h

round_zero : (f : Format) (s : Bool) (c : ℕ) → 0 < c → round f s 0 c ≡ signed_zero s
round_zero f s c C = round_same f s 0 c 0 1 C (zero-lt-suc 0) (sym (zero-mul c)) ∙ round_own f s 0 (pos 0) (zero_held f s)

-- ---- +0 plus a value

sum_from_zero : (f : Format) (t : Bool) (b c : ℕ) → (t ≡ true → 0 < b) → sum f false 0 t b c ≡ round f t b c
unfolding sum
sum_from_zero f false b c h = ap (λ (k : ℕ). round f false k c) (zero-add b)
sum_from_zero f true b c h = go (ltb 0 b) (nltb→le 0 b)
  where
    go : (x : Bool) → (T (not x) → b ≤ 0) → cond x (round f true (b - 0) c) (round f false (0 - b) c) ≡ round f true b c
    go true k = ap (λ (n : ℕ). round f true n c) (sub-zero b)
    go false k = absurd (omega (arith, h refl, k tt))

-- It is the value, unless that is -0.
zero_plus_kept : (f : Format) (x : Float) → T (fits f x) → NotMinusZero x → add f (signed_zero false) x ≡ x
unfolding add
zero_plus_kept f nan h k = refl
zero_plus_kept f (inf s) h k = refl
zero_plus_kept f (fin s m e) h k =
    ap (λ (a : ℕ). sum f false a s (m * up e * 1) (1 * down e)) (zero-mul (down e))
    ∙ sum_from_zero f s (m * up e * 1) (1 * down e) (some m k)
    ∙ round_own f s m e h
  where
    some : (m : ℕ) → NotMinusZero (fin s m e) → s ≡ true → 0 < m * up e * 1
    some zero k z = absurd (k e (ap (λ (b : Bool). fin b 0 e) z))
    some (suc m) k z = mul-pos (mul-pos (zero-lt-suc m) (up_pos e)) (zero-lt-suc 0)

zero_plus_zero : (f : Format) (s : Bool) → add f (signed_zero false) (signed_zero s) ≡ signed_zero false
unfolding add sum
zero_plus_zero f false = round_zero f false 1 (zero-lt-suc 0)
zero_plus_zero f true = round_zero f false 1 (zero-lt-suc 0)

-- ---- a value taken from +0

zero_minus_zero : (f : Format) (s : Bool) → sub f (signed_zero false) (signed_zero s) ≡ signed_zero false
unfolding sub neg
zero_minus_zero f s = zero_plus_zero f (not s)

-- Of what is not zero it is the negated value.
zero_minus_value : (f : Format) (s : Bool) (m : ℕ) (e : ℤ) → T (fits f (fin s (suc m) e)) → sub f (signed_zero false) (fin s (suc m) e) ≡ neg (fin s (suc m) e)
unfolding sub neg
zero_minus_value f s m e h = zero_plus_kept f (fin (not s) (suc m) e) (neg-fits f (fin s (suc m) e) h) (not_minus_zero (not s) m e)

-- To add +0 before is no matter.
zero_minus_plus : (f : Format) (x : Float) → T (fits f x) → sub f (signed_zero false) (add f (signed_zero false) x) ≡ sub f (signed_zero false) x
unfolding add
zero_minus_plus f nan h = refl
zero_minus_plus f (inf s) h = refl
zero_minus_plus f (fin s zero e) h =
    subst (λ (x : Float). sub f (signed_zero false) (add f (signed_zero false) x) ≡ sub f (signed_zero false) x) (sym (zero_one_way f s e h))
    (ap (sub f (signed_zero false)) (zero_plus_zero f s) ∙ zero_minus_zero f false ∙ sym (zero_minus_zero f s))
zero_minus_plus f (fin s (suc m) e) h = ap (sub f (signed_zero false)) (zero_plus_kept f (fin s (suc m) e) h (not_minus_zero s m e))

zero_minus_round : (f : Format) (s : Bool) (num den n : ℕ) → 0 < den → num * 2 ^ low f ≡ n * den → 0 < num → sub f (signed_zero false) (round f s num den) ≡ round f (not s) num den
unfolding sub
zero_minus_round f s num den n D w h =
    ap (add f (signed_zero false)) (neg_round f s num den)
    ∙ zero_plus_kept f (round f (not s) num den) (round-fits f (not s) num den) (λ e z. lt_irrefl 0 (subst (λ (x : ℕ). 0 < x) (round_minus_zero f (not s) num den n D w (e, z)).1 h))

zero_minus_none : (f : Format) (num den : ℕ) → 0 < den → num ≡ 0 → sub f (signed_zero false) (round f false num den) ≡ round f false num den
zero_minus_none f num den D e =
    let r : round f false num den ≡ signed_zero false = ap (λ (n : ℕ). round f false n den) e ∙ round_zero f false den D in
    ap (sub f (signed_zero false)) r ∙ zero_minus_zero f false ∙ sym r

-- ---- a sum taken from +0

module _ (f : Format) (a b c A B : ℕ) (C : 0 < c) (p : a * 2 ^ low f ≡ A * c) (q : b * 2 ^ low f ≡ B * c) where
  -- Of unlike signs: x says that a is the smaller one, and y that b is.
  zero_minus_rest : (s t x y : Bool) → (T x → a < b) → (T (not x) → b ≤ a) → (T y → b < a) → (T (not y) → a ≤ b)
      → sub f (signed_zero false) (cond x (round f t (b - a) c) (round f (s && y) (a - b) c)) ≡ cond x (round f (not t) (b - a) c) (round f (not s && y) (a - b) c)
  zero_minus_rest s t true y u v w z = zero_minus_round f t (b - a) c (B - A) C (minus_units f c b a B A q p) (omega (arith, u tt))
  zero_minus_rest false t false true u v w z = zero_minus_round f false (a - b) c (A - B) C (minus_units f c a b A B p q) (omega (arith, w tt))
  zero_minus_rest true t false true u v w z = zero_minus_round f true (a - b) c (A - B) C (minus_units f c a b A B p q) (omega (arith, w tt))
  zero_minus_rest false t false false u v w z = zero_minus_none f (a - b) c C (omega (arith, z tt))
  zero_minus_rest true t false false u v w z = zero_minus_none f (a - b) c C (omega (arith, z tt))

  zero_minus_sum : (s t : Bool) → 0 < a → sub f (signed_zero false) (sum f s a t b c) ≡ sum f (not s) a (not t) b c
  unfolding sum
  zero_minus_sum false false h = zero_minus_round f false (a + b) c (A + B) C (omega arith) (omega arith)
  zero_minus_sum true true h = zero_minus_round f true (a + b) c (A + B) C (omega arith) (omega arith)
  zero_minus_sum false true h = zero_minus_rest false true (ltb a b) (ltb b a) (ltb→lt a b) (nltb→le a b) (ltb→lt b a) (nltb→le b a)
  zero_minus_sum true false h = zero_minus_rest true false (ltb a b) (ltb b a) (ltb→lt a b) (nltb→le a b) (ltb→lt b a) (nltb→le b a)

-- x + y, where both signs turn.
zero_minus_add : (f : Format) (s : Bool) (m : ℕ) (e : ℤ) (y : Float) → T (fits f (fin s (suc m) e)) → T (fits f y) → sub f (signed_zero false) (add f (fin s (suc m) e) y) ≡ add f (neg (fin s (suc m) e)) (neg y)
unfolding add neg sub
zero_minus_add f s m e nan g h = refl
zero_minus_add f s m e (inf t) g h = refl
zero_minus_add f s m e (fin t n d) g h =
    zero_minus_sum f (suc m * up e * down d) (n * up d * down e) (down e * down d) (size_in (low f) (fin s (suc m) e)) (size_in (low f) (fin t n d)) (mul-pos (down_pos e) (down_pos d)) (left_units f s (suc m) e d g) (right_units f t n d e h) s t
    (mul-pos (mul-pos (zero-lt-suc m) (up_pos e)) (down_pos d))

pub taken_from_zero : (f : Format) (x y : Float) → T (fits f x) → T (fits f y) → ((e : ℤ) → x ≡ fin true 0 e → ⊥) → sub f (fin false 0 (pos 0)) (add f x y) ≡ add f (sub f (fin false 0 (pos 0)) x) (neg y)
unfolding sub add neg
taken_from_zero f nan y g h k = refl
taken_from_zero f (inf s) nan g h k = refl
taken_from_zero f (inf false) (inf false) g h k = refl
taken_from_zero f (inf false) (inf true) g h k = refl
taken_from_zero f (inf true) (inf false) g h k = refl
taken_from_zero f (inf true) (inf true) g h k = refl
taken_from_zero f (inf s) (fin t n d) g h k = refl
taken_from_zero f (fin true zero e) y g h k = absurd (k e refl)
taken_from_zero f (fin false zero e) y g h k =
    subst (λ (x : Float). sub f (signed_zero false) (add f x y) ≡ add f (sub f (signed_zero false) x) (neg y)) (sym (zero_one_way f false e g))
    (zero_minus_plus f y h ∙ ap (λ (x : Float). add f x (neg y)) (sym (zero_minus_zero f false)))
taken_from_zero f (fin s (suc m) e) y g h k = zero_minus_add f s m e y g h ∙ ap (λ (x : Float). add f x (neg y)) (sym (zero_minus_value f s m e g))

-- ---- a sum of terms

pub run_negated : (f : Format) (ts us : ℕ → Term) (n : ℕ) → ((j : ℕ) → j < n → (us j).live ≡ (ts j).live) → ((j : ℕ) → j < n → (us j).live ≡ true → prod f (us j) ≡ neg (prod f (ts j)))
    → sub f (fin false 0 (pos 0)) (run f us n) ≡ run f ts n
run_negated f ts us zero l p = zero_minus_zero f false
run_negated f ts us (suc n) l p = rw (← l n (le_refl (suc n))) (go (us n).live (p n (le_refl (suc n))) (run_negated f ts us n (λ j h. l j (le_trans h (le-suc n))) (λ j h. p j (le_trans h (le-suc n)))))
  where
    go : (b : Bool) → (b ≡ true → prod f (us n) ≡ neg (prod f (ts n))) → sub f (signed_zero false) (run f us n) ≡ run f ts n
        → sub f (signed_zero false) (cond b (add f (run f us n) (prod f (us n))) (run f us n)) ≡ cond b (add f (run f ts n) (prod f (ts n))) (run f ts n)
    go true q i = taken_from_zero f (run f us n) (prod f (us n)) (run_fits f us n) (mul-fits f _ (us n).right) (run_never_minus_zero f us n) ∙ ap₂ (add f) i (ap neg (q refl) ∙ neg_neg (prod f (ts n)))
    go false q i = i

pub run_same : (f : Format) (ts us : ℕ → Term) (n : ℕ) → ((j : ℕ) → j < n → (us j).live ≡ (ts j).live) → ((j : ℕ) → j < n → (us j).live ≡ true → prod f (us j) ≡ prod f (ts j)) → run f us n ≡ run f ts n
run_same f ts us zero l p = refl
run_same f ts us (suc n) l p = rw (← l n (le_refl (suc n))) (go (us n).live (p n (le_refl (suc n))) (run_same f ts us n (λ j h. l j (le_trans h (le-suc n))) (λ j h. p j (le_trans h (le-suc n)))))
  where
    go : (b : Bool) → (b ≡ true → prod f (us n) ≡ prod f (ts n)) → run f us n ≡ run f ts n → cond b (add f (run f us n) (prod f (us n))) (run f us n) ≡ cond b (add f (run f ts n) (prod f (ts n))) (run f ts n)
    go true q i = ap₂ (add f) i (q refl)
    go false q i = i
