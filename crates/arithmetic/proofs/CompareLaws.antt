-- What the reference's == and `cmp` do that equality and order don't, and what their proofs cite. Assumes nothing.
use mathlib.Core.Path.{◌≡◌, refl, sym, ap, ap₂, ◌∙◌}
use mathlib.Core.Bool.{Bool, beq, true, false, ◌&&◌, ◌||◌, cond, false≢true}
use mathlib.Core.List.{List, [], ◌∷◌}
use mathlib.Core.Logic.{◌⊎◌, ⊎_elim, inl, inr}
use Prim.Native.Nat.{ℕ, zero, suc, ◌+◌, ◌-◌, ◌*◌, ◌≤◌, ◌<◌}
use native.Mathlib.Nat.{suc_inj, suc-mul, zero-mul}
use native.Mathlib.Numerals.{add-one}
use native.Mathlib.Omega.{arith}
use lib.Dec.{eqb}
use lib.Ieee.{Float, nan, inf, fin, up, down, level, below, eq, lt, is_nan}
use lib.IntN.{ℤ, pos, negsuc}
use lib.ListN.{length, get_or, drop, length-drop, drop_of_length-le}
use lib.Pow.{pow_pos}
use lib.Seq.{drop-cons, drop-drop}
use borrow.Author.Tests.{ne_eqb, eqb-true, ltb-false, eqb-false, le-ltb, not-false}
use Rattle.masks.specs.declared.flavor.Flavor.TheVariants.{Vanilla}
use Rattle.masks.specs.declared.shape.Shape.{Shape}
use Rattle.masks.specs.Outcome.{refusal, too_many, wrong_count, unless, shape_of, nought}
use Rattle.masks.proofs.OutcomeLaws.{Valued, past, unless_done}
use Rattle.std.specs.Prelude.{Option, None, Some}
use Rattle.std.specs.Option.{unwrap_or, is_some}
use Rattle.std.specs.Ordering.{float_partial_cmp}
use Rattle.std.specs.declared.cmp.Ordering.{Ordering}
use Rattle.std.specs.declared.cmp.Ordering.TheVariants.{Less, Equal, Greater}
use Rattle.arithmetic.specs.Scalar.{is_zero, all_zero, is_scalar, is_planar, test_of, if_scalar}
use Rattle.arithmetic.specs.Compare.{compared_tests, answers_agree, same_number, same_places, refused_yes_no, equals, compared_nans, compared_numbers, or_else, compared_places, compared_counts, compared_lists, compared_by, compared}
use Rattle.arithmetic.proofs.ScalarLaws.{and_both, if_scalar_lem, if_other}

-- ---- numbers that are equal

-- -0 and +0 equal what equals zero. The numbers' sizes, each times what the other is divided by, are compared.
zero_level : (s t : Bool) (b p : ℕ) → 0 < p → level s 0 t (b * p) ≡ level t (b * 1) false 0
zero_level s t zero p h = rw (zero-mul p) (go s t)
  where
    go : (x y : Bool) → level x 0 y 0 ≡ level y 0 false 0
    go true true = refl
    go true false = refl
    go false true = refl
    go false false = refl
zero_level s t (suc b) p h =
    let e : eqb 0 (suc b * p) ≡ false = ne_eqb 0 (suc b * p) (λ z. omega (arith, suc-mul b p)) in
    let f : eqb (suc b * 1) 0 ≡ false = ne_eqb (suc b * 1) 0 (λ z. omega arith) in
    rw (e, f)

level_zero : (s t : Bool) (a p : ℕ) → 0 < p → level s (a * p) t 0 ≡ level s (a * 1) false 0
level_zero s t zero p h = rw (zero-mul p) (go s t)
  where
    go : (x y : Bool) → level x 0 y 0 ≡ level x 0 false 0
    go true true = refl
    go true false = refl
    go false true = refl
    go false false = refl
level_zero s t (suc a) p h =
    let e : eqb (suc a * p) 0 ≡ false = ne_eqb (suc a * p) 0 (λ z. omega (arith, suc-mul a p)) in
    let f : eqb (suc a * 1) 0 ≡ false = ne_eqb (suc a * 1) 0 (λ z. omega arith) in
    rw (e, f)

down_pos : (e : ℤ) → 0 < down e
down_pos (pos k) = omega arith
down_pos (negsuc k) = pow_pos (suc k)

pub zero_eq : (x y : Float) → is_zero x ≡ true → eq x y ≡ is_zero y
unfolding eq
zero_eq nan y q = absurd (false≢true q)
zero_eq (inf s) y q = absurd (false≢true q)
zero_eq (fin s m e) nan q = refl
zero_eq (fin s m e) (inf t) q = refl
zero_eq (fin s m e) (fin t n d) q =
    let a = m * up e * down (pos 0) in
    let b = 0 * up (pos 0) * down e in
    let z : m * up e ≡ 0 = omega (arith, eqb-true a b (and_both (eqb a b) (beq s false || eqb a 0) q).0) in
    rw (z, zero-mul (down d)) (zero_level s t (n * up d) (down e) (down_pos e))

eq_zero : (x y : Float) → is_zero y ≡ true → eq x y ≡ is_zero x
unfolding eq
eq_zero x nan q = absurd (false≢true q)
eq_zero x (inf t) q = absurd (false≢true q)
eq_zero nan (fin t n d) q = refl
eq_zero (inf s) (fin t n d) q = refl
eq_zero (fin s m e) (fin t n d) q =
    let a = n * up d * down (pos 0) in
    let b = 0 * up (pos 0) * down d in
    let z : n * up d ≡ 0 = omega (arith, eqb-true a b (and_both (eqb a b) (beq t false || eqb a 0) q).0) in
    rw (z, zero-mul (down e)) (level_zero s t (m * up e) (down d) (down_pos d))

below_level : (s t : Bool) (a b : ℕ) → level s a t b ≡ true → (below s a t b ≡ false) × (below t b s a ≡ false)
below_level s t a b q = go s t (eqb-true a b (and_both _ _ q).0) (and_both (eqb a b) _ q).1
  where
    go : (x y : Bool) → a ≡ b → (beq x y || eqb a 0) ≡ true → (below x a y b ≡ false) × (below y b x a ≡ false)
    go true true e f = (le-ltb b a (omega arith), le-ltb a b (omega arith))
    go true false e f = let z = eqb-true a 0 f in (le-ltb 0 (a + b) (omega arith), refl)
    go false true e f = let z = eqb-true a 0 f in (refl, le-ltb 0 (b + a) (omega arith))
    go false false e f = (le-ltb a b (omega arith), le-ltb b a (omega arith))

pub equal_compared : (x y : Float) → eq x y ≡ true → compared_numbers x y ≡ Equal
unfolding eq lt is_nan compared_numbers compared_nans
equal_compared nan y q = absurd (false≢true q)
equal_compared (inf s) nan q = absurd (false≢true q)
equal_compared (inf true) (inf true) q = refl
equal_compared (inf true) (inf false) q = absurd (false≢true q)
equal_compared (inf false) (inf true) q = absurd (false≢true q)
equal_compared (inf false) (inf false) q = refl
equal_compared (inf s) (fin t n d) q = absurd (false≢true q)
equal_compared (fin s m e) nan q = absurd (false≢true q)
equal_compared (fin s m e) (inf t) q = absurd (false≢true q)
equal_compared (fin s m e) (fin t n d) q =
    let z = below_level s t (m * up e * down d) (n * up d * down e) q in
    rw (z.0, z.1)

-- Numbers compare as Rust's partial order has them, and where it has none as NaN does.
module _ (x y : Float) where
  pub ordered : (o : Ordering) → float_partial_cmp x y ≡ Some o → compared_numbers x y ≡ o
  unfolding compared_numbers
  ordered o h = go (lt x y) (eq x y) (lt y x) refl refl refl h
    where
      given : {p q : Ordering} → Some p ≡ Some q → p ≡ q
      given e = ap (λ (t : Option Ordering). unwrap_or t Equal) e

      go : (l e g : Bool) → lt x y ≡ l → eq x y ≡ e → lt y x ≡ g → cond l (Some Less) (cond e (Some Equal) (cond g (Some Greater) None)) ≡ Some o → cond (lt x y) Less (cond (lt y x) Greater (compared_nans x y)) ≡ o
      go true e g p q r f = rw p (given f)
      go false true g p q r f = equal_compared x y q ∙ given f
      go false false true p q r f = rw (p, r) (given f)
      go false false false p q r f = absurd (none f)
        where
          none : None ≡ Some o → ⊥
          none e = false≢true (ap is_some e)

  pub unordered : float_partial_cmp x y ≡ None → compared_numbers x y ≡ compared_nans x y
  unfolding compared_numbers
  unordered h = go (lt x y) (eq x y) (lt y x) refl refl h
    where
      some : {o : Ordering} → Some o ≡ None → ⊥
      some e = false≢true (sym (ap is_some e))

      go : (l e g : Bool) → lt x y ≡ l → lt y x ≡ g → cond l (Some Less) (cond e (Some Equal) (cond g (Some Greater) None)) ≡ None → cond (lt x y) Less (cond (lt y x) Greater (compared_nans x y)) ≡ compared_nans x y
      go true e g p r f = absurd (some f)
      go false true g p r f = absurd (some f)
      go false false true p r f = absurd (some f)
      go false false false p r f = rw (p, r)

-- ---- places

module _ (a b : List Float) (i : ℕ) where
  -- At place i the numbers compare as o does.
  pub at_place : (o : Ordering) → i < length a → i < length b → compared_numbers (get_or a i nan) (get_or b i nan) ≡ o → compared_places (drop i a) (drop i b) ≡ or_else o (compared_places (drop (i + 1) a) (drop (i + 1) b))
  unfolding compared_places
  at_place o h k e = rw (drop-cons a i nan h, drop-cons b i nan k, e, add-one i)

  pub at_end : length a ≤ i → compared_places (drop i a) (drop i b) ≡ Equal
  unfolding compared_places
  at_end h = rw (drop_of_length-le a h)

-- Equal numbers are passed, one and four at a time.
same_next : (a b : List Float) (i j : ℕ) → j ≡ i + 1 → i < length a → length a ≡ length b → eq (get_or a i nan) (get_or b i nan) ≡ true → compared_places (drop i a) (drop i b) ≡ compared_places (drop j a) (drop j b)
same_next a b i j e l k q = at_place a b i Equal l (omega arith) (equal_compared _ _ q) ∙ ap (λ (n : ℕ). compared_places (drop n a) (drop n b)) (sym e)

pub four_same : (a b : List Float) (i : ℕ) (w x y z : Bool) → i + 4 ≤ length a → length a ≡ length b
    → eq (get_or a i nan) (get_or b i nan) ≡ w → eq (get_or a (i + 1) nan) (get_or b (i + 1) nan) ≡ x → eq (get_or a (i + 2) nan) (get_or b (i + 2) nan) ≡ y → eq (get_or a (i + 3) nan) (get_or b (i + 3) nan) ≡ z
    → (((w && x) && y) && z) ≡ true → compared_places (drop i a) (drop i b) ≡ compared_places (drop (i + 4) a) (drop (i + 4) b)
four_same a b i w x y z l k p q r s t =
    let u = and_both ((w && x) && y) z t in
    let v = and_both (w && x) y u.0 in
    let o = and_both w x v.0 in
    same_next a b i (i + 1) refl (omega arith) k (p ∙ o.0)
    ∙ same_next a b (i + 1) (i + 2) (omega arith) (omega arith) k (q ∙ o.1)
    ∙ same_next a b (i + 2) (i + 3) (omega arith) (omega arith) k (r ∙ v.1)
    ∙ same_next a b (i + 3) (i + 4) (omega arith) (omega arith) k (s ∙ u.1)

-- The same of what is left from place i on.
pub four_passed : (a b d e : List Float) (i : ℕ) → i + 4 ≤ length a → length a ≡ length b → d ≡ drop i a → e ≡ drop i b
    → (((eq (get_or d 0 nan) (get_or e 0 nan) && eq (get_or d 1 nan) (get_or e 1 nan)) && eq (get_or d 2 nan) (get_or e 2 nan)) && eq (get_or d 3 nan) (get_or e 3 nan)) ≡ true
    → compared_places (drop i a) (drop i b) ≡ compared_places (drop (i + 4) a) (drop (i + 4) b)
four_passed a b d e i h l p q t =
    let m : length d ≡ length a - i = ap length p ∙ length-drop i a in
    let n : length e ≡ length b - i = ap length q ∙ length-drop i b in
    sym (ap₂ compared_places p q)
    ∙ four_same d e 0 _ _ _ _ (omega (arith, m)) (omega (arith, m, n, l)) refl refl refl refl t
    ∙ ap₂ compared_places (ap (drop 4) p ∙ drop-drop 4 i a) (ap (drop 4) q ∙ drop-drop 4 i b)

-- Zeros compare as equal.
zeros_compared : (a b : List Float) → all_zero a ≡ true → all_zero b ≡ true → compared_places a b ≡ Equal
unfolding all_zero compared_places
zeros_compared [] b p q = refl
zeros_compared (x ∷ a) [] p q = refl
zeros_compared (x ∷ a) (y ∷ b) p q =
    let u = and_both (is_zero x) (all_zero a) p in
    let v = and_both (is_zero y) (all_zero b) q in
    rw (equal_compared x y (zero_eq x y u.0 ∙ v.0)) (zeros_compared a b u.1 v.1)

or_equal : (o : Ordering) → or_else o Equal ≡ o
or_equal Less = refl
or_equal Equal = refl
or_equal Greater = refl

-- Scalars compare as their numbers, and as their places.
pub scalars_compared : (a b : List Float) → is_scalar a ≡ true → is_scalar b ≡ true → compared_places a b ≡ compared_numbers (get_or a 0 nan) (get_or b 0 nan)
unfolding is_scalar compared_places
scalars_compared [] b p q = absurd (false≢true p)
scalars_compared (x ∷ a) [] p q = absurd (false≢true q)
scalars_compared (x ∷ a) (y ∷ b) p q = rw (zeros_compared a b p q) (or_equal (compared_numbers x y))

-- Numbers that equal zero are the same as those that do, and as no others.
zero_number : (x : Float) → is_zero x ≡ true → is_nan x ≡ false
unfolding eq is_nan
zero_number nan q = absurd (false≢true q)
zero_number (inf s) q = refl
zero_number (fin s m e) q = refl

or_none : (x y : Bool) → (x || (false && y)) ≡ x
or_none true y = refl
or_none false y = refl

zero_same : (x y : Float) → is_zero x ≡ true → same_number x y ≡ is_zero y
unfolding same_number
zero_same x y q = rw (zero_number x q, zero_eq x y q) (or_none (is_zero y) (is_nan y))

or_past : (x y : Bool) → (x || (y && false)) ≡ x
or_past true y = refl
or_past false true = refl
or_past false false = refl

same_zero : (x y : Float) → is_zero y ≡ true → same_number x y ≡ is_zero x
unfolding same_number
same_zero x y q = rw (zero_number y q, eq_zero x y q) (or_past (is_zero x) (is_nan x))

same_zeros : (a b : List Float) → all_zero b ≡ true → length a ≡ length b → same_places a b ≡ all_zero a
unfolding all_zero same_places
same_zeros [] [] p e = refl
same_zeros [] (y ∷ b) p e = absurd (omega arith)
same_zeros (x ∷ a) [] p e = absurd (omega arith)
same_zeros (x ∷ a) (y ∷ b) p e = let u = and_both (is_zero y) (all_zero b) p in rw (same_zero x y u.0, same_zeros a b u.1 (suc_inj e))

zeros_same : (a b : List Float) → all_zero a ≡ true → length a ≡ length b → same_places a b ≡ all_zero b
unfolding all_zero same_places
zeros_same [] [] p e = refl
zeros_same [] (y ∷ b) p e = absurd (omega arith)
zeros_same (x ∷ a) [] p e = absurd (omega arith)
zeros_same (x ∷ a) (y ∷ b) p e = let u = and_both (is_zero x) (all_zero a) p in rw (zero_same x y u.0, zeros_same a b u.1 (suc_inj e))

or_self : (x y : Bool) → (x || (x || y)) ≡ (x || y)
or_self true y = refl
or_self false y = refl

and_always : (x : Bool) → (x && true) ≡ x
and_always true = refl
and_always false = refl

or_never : (x : Bool) → (x || false) ≡ x
or_never true = refl
or_never false = refl

-- Scalars of one count are equal as their numbers are the same; of two, as these are equal.
pub scalars_same : (a b : List Float) → is_scalar a ≡ true → is_scalar b ≡ true → length a ≡ length b → (eq (get_or a 0 nan) (get_or b 0 nan) || same_places a b) ≡ same_number (get_or a 0 nan) (get_or b 0 nan)
unfolding is_scalar same_places same_number
scalars_same [] b p q e = absurd (false≢true p)
scalars_same (x ∷ a) [] p q e = absurd (false≢true q)
scalars_same (x ∷ a) (y ∷ b) p q e = rw (zeros_same a b p (suc_inj e) ∙ q, and_always (eq x y || (is_nan x && is_nan y))) (or_self (eq x y) (is_nan x && is_nan y))

and_none : (t : Bool) → (t && false) ≡ false
and_none true = refl
and_none false = refl

counts_differ : (a b : List Float) → (length a ≡ length b → ⊥) → same_places a b ≡ false
unfolding same_places
counts_differ [] [] h = absurd (h refl)
counts_differ [] (y ∷ b) h = refl
counts_differ (x ∷ a) [] h = refl
counts_differ (x ∷ a) (y ∷ b) h = rw (counts_differ a b (λ e. h (ap suc e))) (and_none (same_number x y))

-- A scalar and another value have not the same places.
rests_differ : (x y : Float) (a b : List Float) → (length a ≡ length b → same_places a b ≡ false) → same_places (x ∷ a) (y ∷ b) ≡ false
unfolding same_places
rests_differ x y a b h =
    ⊎_elim (λ (e : length a ≡ length b). rw (h e) (and_none (same_number x y))) (λ (e : length a ≡ length b → ⊥). rw (counts_differ a b e) (and_none (same_number x y)))
    (same_count (length a) (length b))
  where
    same_count : (m n : ℕ) → (m ≡ n) ⊎ (m ≡ n → ⊥)
    same_count m n = go (eqb m n) refl
      where
        go : (t : Bool) → eqb m n ≡ t → (m ≡ n) ⊎ (m ≡ n → ⊥)
        go true e = inl (eqb-true m n e)
        go false e = inr (eqb-false m n e)

pub scalar_other : (a b : List Float) → is_scalar a ≡ true → is_scalar b ≡ false → same_places a b ≡ false
unfolding is_scalar same_places
scalar_other [] b p q = absurd (false≢true p)
scalar_other (x ∷ a) [] p q = refl
scalar_other (x ∷ a) (y ∷ b) p q = rests_differ x y a b (λ e. zeros_same a b p e ∙ q)

pub other_scalar : (a b : List Float) → is_scalar a ≡ false → is_scalar b ≡ true → same_places a b ≡ false
unfolding is_scalar same_places
other_scalar a [] p q = absurd (false≢true q)
other_scalar [] (y ∷ b) p q = refl
other_scalar (x ∷ a) (y ∷ b) p q = rests_differ x y a b (λ e. same_zeros a b q e ∙ p)

pub scalars_differ : (a b : List Float) → (length a ≡ length b → ⊥) → (eq (get_or a 0 nan) (get_or b 0 nan) || same_places a b) ≡ eq (get_or a 0 nan) (get_or b 0 nan)
scalars_differ a b h = rw (counts_differ a b h) (or_never (eq (get_or a 0 nan) (get_or b 0 nan)))

-- A scalar has some place 0.
pub scalar_some : (a : List Float) → is_scalar a ≡ true → 0 < length a
unfolding is_scalar
scalar_some [] e = absurd (false≢true e)
scalar_some (x ∷ a) e = omega arith

-- Two values that are not refused have the numbers of their dimensions.
pub both_valued : (s t : Shape) (a b : List Float) → refusal (compared_tests s t a b) ≡ 0 → Valued s.dims (length a) × Valued t.dims (length b)
both_valued s t a b z =
    let p = past (too_many s.dims) _ (λ q. omega arith) z in
    let q = past (too_many t.dims) _ (λ q. omega arith) p.1 in
    let l = past (wrong_count (length a) s.dims) _ (λ q. omega arith) q.1 in
    let r = past (wrong_count (length b) t.dims) _ (λ q. omega arith) l.1 in (
      record { small = ltb-false _ _ p.0; counted = eqb-true _ _ (not-false _ l.0) },
      record { small = ltb-false _ _ q.0; counted = eqb-true _ _ (not-false _ r.0) },
    )

-- ---- two values, by whether they are scalar

module _ (s t : Shape) (a b : List Float) where
  pub agree_scalars : is_scalar a ≡ true → is_scalar b ≡ true → answers_agree (test_of s a) (test_of t b) ≡ eq (get_or a 0 nan) (get_or b 0 nan)
  unfolding answers_agree
  agree_scalars e f = if_scalar_lem s a _ _ e ∙ if_scalar_lem t b _ _ f

  pub agree_left : is_scalar a ≡ true → is_scalar b ≡ false → (answers_agree (test_of s a) (test_of t b) || same_places a b) ≡ false
  unfolding answers_agree
  agree_left e f = rw (scalar_other a b e f, if_scalar_lem s a (λ x. if_scalar (test_of t b) (eq x) false) (if_scalar (test_of t b) (λ y. false) true) e, if_other t b (eq (get_or a 0 nan)) false f)

  pub agree_right : is_scalar a ≡ false → is_scalar b ≡ true → (answers_agree (test_of s a) (test_of t b) || same_places a b) ≡ false
  unfolding answers_agree
  agree_right e f = rw (other_scalar a b e f, if_other s a (λ x. if_scalar (test_of t b) (eq x) false) (if_scalar (test_of t b) (λ y. false) true) e, if_scalar_lem t b (λ y. false) true f)

  pub agree_others : is_scalar a ≡ false → is_scalar b ≡ false → answers_agree (test_of s a) (test_of t b) ≡ true
  unfolding answers_agree
  agree_others e f = if_other s a _ _ e ∙ if_other t b _ _ f

  pub by_numbers : is_scalar a ≡ true → is_scalar b ≡ true → compared_by (test_of s a) (test_of t b) a b ≡ compared_numbers (get_or a 0 nan) (get_or b 0 nan)
  unfolding compared_by
  by_numbers e f = if_scalar_lem s a _ _ e ∙ if_scalar_lem t b _ _ f

  pub by_lists_left : is_scalar a ≡ false → compared_by (test_of s a) (test_of t b) a b ≡ compared_lists a b
  unfolding compared_by
  by_lists_left e = if_other s a _ _ e

  pub by_lists_right : is_scalar a ≡ true → is_scalar b ≡ false → compared_by (test_of s a) (test_of t b) a b ≡ compared_lists a b
  unfolding compared_by
  by_lists_right e f = if_scalar_lem s a _ _ e ∙ if_other t b _ _ f

  same_lists : length a ≡ length b → compared_lists a b ≡ compared_places a b
  unfolding compared_counts
  same_lists l = rw (le-ltb (length a) (length b) (omega arith), le-ltb (length b) (length a) (omega arith))

  -- Where the counts are equal the places decide, between scalars too.
  pub by_all_places : length a ≡ length b → compared_by (test_of s a) (test_of t b) a b ≡ compared_places a b
  by_all_places l = go (is_scalar a) (is_scalar b) refl refl
    where
      go : (x y : Bool) → is_scalar a ≡ x → is_scalar b ≡ y → compared_by (test_of s a) (test_of t b) a b ≡ compared_places a b
      go false y e f = by_lists_left e ∙ same_lists l
      go true false e f = by_lists_right e f ∙ same_lists l
      go true true e f = by_numbers e f ∙ sym (scalars_compared a b e f)

-- Place 0 decides where its numbers differ.
pub first_less : (a b : List Float) → 0 < length a → length a ≡ length b → lt (get_or a 0 nan) (get_or b 0 nan) ≡ true → compared_places a b ≡ Less
unfolding compared_places compared_numbers
first_less [] b h l e = absurd (omega arith)
first_less (x ∷ a) [] h l e = absurd (omega arith)
first_less (x ∷ a) (y ∷ b) h l e = rw e

pub first_greater : (a b : List Float) → 0 < length a → length a ≡ length b → lt (get_or a 0 nan) (get_or b 0 nan) ≡ false → lt (get_or b 0 nan) (get_or a 0 nan) ≡ true → compared_places a b ≡ Greater
unfolding compared_places compared_numbers
first_greater [] b h l e f = absurd (omega arith)
first_greater (x ∷ a) [] h l e f = absurd (omega arith)
first_greater (x ∷ a) (y ∷ b) h l e f = rw (e, f)

-- Any two values that are not scalar are equal.
pub others_equal : (s t : Shape) (a b : List Float) → refusal (compared_tests s t a b) ≡ 0 → is_scalar a ≡ false → is_scalar b ≡ false → equals s t a b ≡ record { number = 0; yes = true }
unfolding equals answers_agree
others_equal s t a b z e f =
    unless_done refused_yes_no (refusal (compared_tests s t a b)) 0 _ (sym z) refl
    ∙ (rw (if_other s a _ _ e, if_other t b _ _ f))

-- `cmp` goes round: [5] < [0, 1] < [3, 0, 0, 0] < [5].
pub record GoesRound : Type 0 where
  pub first : compared (shape_of 0 Vanilla) (shape_of 1 Vanilla) (fin false 5 (pos 0) ∷ []) (nought ∷ fin false 1 (pos 0) ∷ []) ≡ record { number = 0; order = Less }
  pub second : compared (shape_of 1 Vanilla) (shape_of 2 Vanilla) (nought ∷ fin false 1 (pos 0) ∷ []) (fin false 3 (pos 0) ∷ nought ∷ nought ∷ nought ∷ []) ≡ record { number = 0; order = Less }
  pub third : compared (shape_of 2 Vanilla) (shape_of 0 Vanilla) (fin false 3 (pos 0) ∷ nought ∷ nought ∷ nought ∷ []) (fin false 5 (pos 0) ∷ []) ≡ record { number = 0; order = Less }

pub goes_round : GoesRound
unfolding compared unless refusal test_of is_scalar all_zero is_planar if_scalar compared_by compared_numbers compared_counts compared_places eq lt
goes_round = record { first = refl; second = refl; third = refl }

-- ---- flavors play no part in `==`

if_any {ℓ} : {A : Type ℓ} (s u : Shape) (a : List Float) (f : Float → A) (y : A) → if_scalar (test_of s a) f y ≡ if_scalar (test_of u a) f y
if_any s u a f y = go (is_scalar a) refl
  where
    go : (t : Bool) → is_scalar a ≡ t → if_scalar (test_of s a) f y ≡ if_scalar (test_of u a) f y
    go true e = if_scalar_lem s a f y e ∙ sym (if_scalar_lem u a f y e)
    go false e = if_other s a f y e ∙ sym (if_other u a f y e)

agree_any : (s t u v : Shape) (a b : List Float) → answers_agree (test_of s a) (test_of t b) ≡ answers_agree (test_of u a) (test_of v b)
unfolding answers_agree
agree_any s t u v a b = go (is_scalar a) refl
  where
    go : (c : Bool) → is_scalar a ≡ c → answers_agree (test_of s a) (test_of t b) ≡ answers_agree (test_of u a) (test_of v b)
    go true e = if_scalar_lem s a (λ x. if_scalar (test_of t b) (eq x) false) _ e ∙ if_any t v b (eq (get_or a 0 nan)) false ∙ sym (if_scalar_lem u a (λ x. if_scalar (test_of v b) (eq x) false) _ e)
    go false e = if_other s a _ (if_scalar (test_of t b) (λ y. false) true) e ∙ if_any t v b (λ y. false) true ∙ sym (if_other u a _ (if_scalar (test_of v b) (λ y. false) true) e)

pub equals_dims : (s t : Shape) (a b : List Float) → equals (shape_of s.dims Vanilla) (shape_of t.dims Vanilla) a b ≡ equals s t a b
unfolding equals
equals_dims s t a b =
    ap (λ (agree : Bool). unless refused_yes_no (refusal (compared_tests s t a b)) (record { number = 0; yes = agree || same_places a b }))
    (agree_any (shape_of s.dims Vanilla) (shape_of t.dims Vanilla) s t a b)
