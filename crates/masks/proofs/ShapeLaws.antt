-- Laws of changes of shape: what they do at each mask, what the code's steps make of them, and what accepted calls give. Assumes nothing.
use mathlib.Core.Path.{◌≡◌, refl, sym, ap, ap₂, ◌∙◌}
use mathlib.Core.Bool.{Bool, true, false, ◌&&◌, ◌||◌, cond, and-true, and-false, and_comm, or_comm, false≢true, not-not}
use mathlib.Core.Logic.{⊎_elim}
use mathlib.Core.List.{List, [], ◌∷◌, map}
use Prim.Native.Nat.{ℕ, zero, suc, ◌+◌, ◌*◌, ◌/◌, ◌%◌, ◌^◌, ◌≤◌, ◌<◌, min}
use native.Mathlib.Nat.{pow-suc, add-zero}
use native.Mathlib.Numerals.{add-one}
use native.Mathlib.Omega.{arith}
use borrow.Author.Tests.{lt-ltb, le-ltb, ltb-false, eq-eqb, ne_eqb, eqb-true, eqb-false, not-false}
use lib.Dec.{eqb, ltb}
use lib.Ieee.{Float, nan, inf, fin, neg}
use lib.ListN.{length, get_or, set, take, drop, length-drop, length-map, length-set}
use lib.Pow.{pow_mono}
use lib.Seq.{length-take-le, get_or-take, get_or-drop, get_or-set_same, get_or-set_other, ext_get_or}
use Rattle.masks.specs.declared.flavor.Flavor.{Flavor}
use Rattle.masks.specs.declared.flavor.Flavor.TheVariants.{Vanilla, Projective, Cl}
use Rattle.masks.specs.declared.shape.Shape.{Shape}
use Rattle.masks.specs.Order.{order, place}
use Rattle.masks.specs.Outcome.{refusal, too_many, wrong_count, no_room, result_tests, pair_tests, unless, laid, nought, shape_of, refused_value, value, Pair, refused_pair}
use Rattle.masks.specs.Shape.{coef, negated_if, with_dims, negates, moved, resized, set_dims, promotes, promoted_coef, promoted, set_flavor, conformed, promoted_flavor, conformed_shape, both_tests, conform}
use Rattle.masks.proofs.ListLaws.{split, get_d_map, take_laid}
use Rattle.masks.proofs.OutcomeLaws.{past, Taken, taken, later_same, unless_done, passes, passed, not_refused}
use Rattle.masks.proofs.OrderLaws.{length_order, order_at, order_place, place_lt}

-- ---- a part of a list, mapped

module _ {ℓ κ} {A : Type ℓ} {B : Type κ} (f : A → B) (first count : ℕ) (xs : List A) where
  pub part_length : first + count ≤ length xs → length (map f (take count (drop first xs))) ≡ count
  part_length h =
      length-map (take count (drop first xs)) f ∙ length-take-le count (drop first xs) (omega (arith, length-drop first xs))

  pub part_at : (k : ℕ) (d : A) (e : B) → k < count → first + count ≤ length xs → get_or (map f (take count (drop first xs))) k e ≡ f (get_or xs (first + k) d)
  part_at k d e h g =
      let l : length (take count (drop first xs)) ≡ count = length-take-le count (drop first xs) (omega (arith, length-drop first xs)) in
      get_d_map f (take count (drop first xs)) k d e (omega arith)
      ∙ ap f (get_or-take count (drop first xs) k d h ∙ get_or-drop first xs k d)

-- ---- the coefficient of a mask

pub coef_inside : (d m : ℕ) (a : List Float) → m < 2 ^ d → coef d a m ≡ get_or a (place d m) nan
unfolding coef
coef_inside d m a h = rw (lt-ltb m (2 ^ d) h)

pub coef_outside : (d m : ℕ) (a : List Float) → 2 ^ d ≤ m → coef d a m ≡ nought
unfolding coef
coef_outside d m a h = rw (le-ltb m (2 ^ d) h)

-- ---- a number for each mask, in order

pub ordered_length : (f : ℕ → Float) (n : ℕ) → length (map f (order n)) ≡ 2 ^ n
ordered_length f n = length-map (order n) f ∙ length_order n

pub ordered_at : (f : ℕ → Float) (n m : ℕ) → m < 2 ^ n → coef n (map f (order n)) m ≡ f m
ordered_at f n m h =
    coef_inside n m (map f (order n)) h
    ∙ get_d_map f (order n) (place n m) 0 nan (omega (arith, place_lt n m h, length_order n)) ∙ ap f (order_place n m h)

-- a value is known by the coefficient of each mask
pub ordered : (f : ℕ → Float) (n : ℕ) (a : List Float) → length a ≡ 2 ^ n → ((m : ℕ) → m < 2 ^ n → f m ≡ coef n a m) → map f (order n) ≡ a
ordered f n a e g =
    ext_get_or nan (map f (order n)) a (ordered_length f n ∙ sym e)
    (λ i h.
    let l : i < 2 ^ n = omega (arith, ordered_length f n) in
    let o = order_at n i l in
    let m : ℕ = get_or (order n) i 0 in
    get_d_map f (order n) i 0 nan (omega (arith, length_order n)) ∙ g m o.low ∙ coef_inside n m a o.low
    ∙ ap (λ (p : ℕ). get_or a p nan) o.back)

-- a number set at a mask's place is that mask's coefficient
pub coef_set : (n k m : ℕ) (x : Float) (a : List Float) → k < 2 ^ n → m < 2 ^ n → length a ≡ 2 ^ n → coef n (set a (place n k) x) m ≡ cond (eqb m k) x (coef n a m)
coef_set n k m x a h l e = coef_inside n m (set a (place n k) x) l ∙ go (eqb m k) refl
  where
    go : (b : Bool) → eqb m k ≡ b → get_or (set a (place n k) x) (place n m) nan ≡ cond b x (coef n a m)
    go true q =
        rw (eqb-true m k q) (get_or-set_same a (place n k) x nan (omega (arith, place_lt n k h)))
    go false q =
        get_or-set_other a (place n k) (place n m) x nan
        (λ p. eqb-false m k q (sym (order_place n m l) ∙ ap (λ (i : ℕ). get_or (order n) i 0) p ∙ order_place n k h))
        ∙ sym (coef_inside n m a l)

-- ---- other dimensions

pub resized_length : (d n : ℕ) (a : List Float) → length (resized d n a) ≡ 2 ^ n
unfolding resized
resized_length d n a = ordered_length (moved d n a) n

-- what a change of dimensions does at each mask
pub resized_at : (d n m : ℕ) (a : List Float) → m < 2 ^ n → coef n (resized d n a) m ≡ moved d n a m
unfolding resized
resized_at d n m a h = ordered_at (moved d n a) n m h

negates_none : (d m : ℕ) → negates d d m ≡ false
unfolding negates
negates_none d m =
    ⊎_elim (λ (h : 3 < d). simp (ne_eqb d 3 (λ e. omega arith), and-false)) (λ (h : d ≤ 3). simp (le-ltb 3 d h, and-false)) (split 3 d)

-- to the same dimensions nothing changes
pub resized_same : (d : ℕ) (a : List Float) → d ≤ 9 → length a ≡ 2 ^ d → resized d d a ≡ a
unfolding resized
resized_same d a h e = ordered (moved d d a) d a e (λ m l. rw (negates_none d m))

neg_neg : (x : Float) → neg (neg x) ≡ x
unfolding neg
neg_neg nan = refl
neg_neg (inf s) = ap inf (not-not s)
neg_neg (fin s m e) = ap (λ (b : Bool). fin b m e) (not-not s)

twice : (b : Bool) (x : Float) → negated_if b (negated_if b x) ≡ x
twice true x = neg_neg x
twice false x = refl

-- up and down the same mask is negated
negates_back : (d n m : ℕ) → negates d n m ≡ negates n d m
unfolding negates
negates_back d n m =
    ap (λ (b : Bool). eqb m 5 && b)
    (or_comm (eqb d 3 && ltb 3 n) (ltb 3 d && eqb n 3) ∙ ap₂ ◌||◌ (and_comm (ltb 3 d) (eqb n 3)) (and_comm (eqb d 3) (ltb 3 n)))

-- up and back down nothing changes
pub resized_back : (d n : ℕ) (a : List Float) → d ≤ n → length a ≡ 2 ^ d → resized n d (resized d n a) ≡ a
unfolding resized
resized_back d n a l e =
    ordered (moved n d (resized d n a)) d a e
    (λ m h.
    let k : m < 2 ^ n = omega (arith, pow_mono {i = d} {j = n} l) in
    ap (negated_if (negates n d m)) (resized_at d n m a k) ∙ rw (negates_back d n m) (twice (negates n d m) (coef d a m)))

-- a change negates mask 101 only where there is one
pub turned_inside : (d n : ℕ) → negates d n 5 ≡ true → 5 < 2 ^ n
unfolding negates
turned_inside d n e =
    ⊎_elim (λ (l : n < 3). absurd (false≢true (simp (le-ltb 3 n (omega arith), ne_eqb n 3 (λ q. omega arith), and-false) at e)))
    (λ (l : 3 ≤ n). omega (arith, pow_mono {i = 3} {j = n} l)) (split n 3)

module _ (d n : ℕ) (a : List Float) where
  -- the coefficients at n dimensions, and the same with that of mask 101 negated
  abbrev pub as_read : List Float
  as_read = map (coef d a) (order n)

  abbrev pub turned_read : List Float
  turned_read = set as_read (place n 5) (neg (get_or as_read (place n 5) nan))

  turned_at_lem : (m : ℕ) → m < 2 ^ n → 5 < 2 ^ n → negated_if (eqb m 5) (coef d a m) ≡ coef n turned_read m
  turned_at_lem m h l = go (eqb m 5) refl ∙ sym (coef_set n 5 m _ as_read l h (ordered_length (coef d a) n))
    where
      go : (b : Bool) → eqb m 5 ≡ b → negated_if b (coef d a m) ≡ cond b (neg (get_or as_read (place n 5) nan)) (coef n as_read m)
      go true q = ap neg (ap (coef d a) (eqb-true m 5 q) ∙ sym (ordered_at (coef d a) n 5 l) ∙ coef_inside n 5 as_read l)
      go false q = sym (ordered_at (coef d a) n m h)

  -- what the code makes of what it reads
  pub resized_turned : (t : Bool) → negates d n 5 ≡ t → cond t turned_read as_read ≡ resized d n a
  unfolding resized negates
  resized_turned true e =
      sym
      (ordered (moved d n a) n turned_read (length-set as_read (place n 5) _ ∙ ordered_length (coef d a) n)
      (λ m h. rw (e, and-true) (turned_at_lem m h (turned_inside d n e))))
  resized_turned false e =
      sym (ordered (moved d n a) n as_read (ordered_length (coef d a) n) (λ m h. rw (e, and-false) (sym (ordered_at (coef d a) n m h))))

-- what was laid into a buffer is read back
pub resized_held : (d n count : ℕ) (a held buf : List Float) → count ≡ 2 ^ n → held ≡ laid (resized d n a) buf → take count held ≡ resized d n a
resized_held d n count a held buf c e = rw (e, c, take_laid (2 ^ n) (resized d n a) buf (resized_length d n a))

-- ---- a promotion

pub promoted_length : (d : ℕ) (a : List Float) → length (promoted 1 d a) ≡ 2 ^ (d + 1)
unfolding promoted
promoted_length d a = ordered_length (promoted_coef d a) (d + 1)

-- what a promotion does at each mask
pub promoted_at : (d m : ℕ) (a : List Float) → m < 2 ^ (d + 1) → coef (d + 1) (promoted 1 d a) m ≡ promoted_coef d a m
unfolding promoted
promoted_at d m a h = ordered_at (promoted_coef d a) (d + 1) m h

-- the coefficient of a mask that has bit 0 clear, and of one that has it
pub raised_even : (d m : ℕ) (a : List Float) → promoted_coef d a (2 * m) ≡ coef d a m
raised_even d m a =
    let r : 2 * m % 2 ≡ 0 = omega arith in
    let q : 2 * m / 2 ≡ m = omega arith in
    rw (eq-eqb (2 * m % 2) 0 r) (ap (coef d a) q)

pub raised_odd : (d m : ℕ) (a : List Float) → promoted_coef d a (2 * m + 1) ≡ nought
raised_odd d m a = rw (ne_eqb ((2 * m + 1) % 2) 0 (λ e. omega arith))

double_lt : (d m : ℕ) → m < 2 ^ d → 2 * m + 1 < 2 ^ (d + 1)
double_lt d m h = rw (add-one d) (omega (arith, pow-suc 2 d))

-- bit i becomes bit i + 1
pub promoted_even : (d m : ℕ) (a : List Float) → m < 2 ^ d → coef (d + 1) (promoted 1 d a) (2 * m) ≡ coef d a m
promoted_even d m a h = promoted_at d (2 * m) a (omega (arith, double_lt d m h)) ∙ raised_even d m a

-- a mask with bit 0 is new
pub promoted_odd : (d m : ℕ) (a : List Float) → m < 2 ^ d → coef (d + 1) (promoted 1 d a) (2 * m + 1) ≡ nought
promoted_odd d m a h = promoted_at d (2 * m + 1) a (double_lt d m h) ∙ raised_odd d m a

pub promoted_none : (up d : ℕ) (a : List Float) → up ≡ 0 → promoted up d a ≡ a
unfolding promoted
promoted_none up d a e = rw e

-- a number that is at most 1 and not 0
pub one : (up : ℕ) → up ≤ 1 → (up ≡ 0 → ⊥) → 1 ≡ up
one zero l h = absurd (h refl)
one (suc up) l h = omega arith

pub promoted_one : (up d : ℕ) (a : List Float) → up ≤ 1 → (up ≡ 0 → ⊥) → promoted 1 d a ≡ promoted up d a
promoted_one up d a l h = ap (λ (u : ℕ). promoted u d a) (one up l h)

-- ---- conforming

pub conformed_none : (up d n : ℕ) (a : List Float) → up ≡ 0 → resized d n a ≡ conformed up d n a
unfolding conformed promoted
conformed_none up d n a e = rw (e, add-zero d)

-- a promotion through a buffer
pub conformed_one : (up d n count : ℕ) (a held buf : List Float) → up ≤ 1 → (up ≡ 0 → ⊥) → count ≡ 2 ^ (d + 1) → held ≡ laid (promoted 1 d a) buf → resized (d + 1) n (take count held) ≡ conformed up d n a
unfolding conformed
conformed_one up d n count a held buf l h c e =
    rw (e, c, take_laid (2 ^ (d + 1)) (promoted 1 d a) buf (promoted_length d a)) (ap (λ (u : ℕ). resized (d + u) n (promoted u d a)) (one up l h))

promoted_sized : (up d : ℕ) (a : List Float) → up ≤ 1 → length a ≡ 2 ^ d → length (promoted up d a) ≡ 2 ^ (d + up)
unfolding promoted
promoted_sized zero d a l e = e ∙ ap (λ (n : ℕ). 2 ^ n) (sym (add-zero d))
promoted_sized (suc zero) d a l e = promoted_length d a
promoted_sized (suc (suc up)) d a l e = absurd (omega arith)

-- where nothing is grown, a promotion is all
pub conformed_same : (up d n : ℕ) (a : List Float) → up ≤ 1 → d + up ≡ n → n ≤ 9 → length a ≡ 2 ^ d → conformed up d n a ≡ promoted up d a
unfolding conformed
conformed_same up d n a l e h k = rw (sym e) (resized_same (d + up) (promoted up d a) (rw e h) (promoted_sized up d a l k))

pub promotes_le : (f g : Flavor) → promotes f g ≤ 1
unfolding promotes
promotes_le Vanilla Vanilla = omega arith
promotes_le Vanilla Projective = omega arith
promotes_le Vanilla (Cl p n z) = omega arith
promotes_le Projective g = omega arith
promotes_le (Cl p n z) g = omega arith

-- The code's dimensions of a promoted value are the definition's where the given ones are at most 9.
pub promoted_small : (d up n : ℕ) → n ≡ min (d + up) 255 → up ≤ 1 → d ≤ 9 → n ≡ d + up
promoted_small d up n e l h = omega arith

pub flavor_one : (up : ℕ) (f : Flavor) → (up ≡ 0 → ⊥) → Projective ≡ promoted_flavor up f
flavor_one zero f h = absurd (h refl)
flavor_one (suc up) f h = refl

-- ---- the tests of conforming two values

-- where a pair is not refused with one output, the second output's room decides
pub second_room : (d e n count countRight room roomRight : ℕ) → refusal (pair_tests d e n count countRight room) ≡ 0 → refusal (both_tests d e n count countRight room roomRight) ≡ refusal (no_room roomRight (2 ^ n) ∷ [])
unfolding refusal
second_room d e n count countRight room roomRight z =
    let p = passed d e n count countRight room z in
    rw (le-ltb 9 d p.small, le-ltb 9 e p.small_right, le-ltb 9 n p.result, eq-eqb count (2 ^ d) p.counted, eq-eqb countRight (2 ^ e) p.counted_right, le-ltb room (2 ^ n) p.roomy)

-- Where the given dimensions of either are refused, the resulting ones do not count.
pub both_tests_same : (d e n m count countRight room roomRight : ℕ) → (d ≤ 9 → e ≤ 9 → n ≡ m) → refusal (both_tests d e n count countRight room roomRight) ≡ refusal (both_tests d e m count countRight room roomRight)
both_tests_same d e n m count countRight room roomRight h =
    later_same d _ _
    (λ l.
    later_same e _ _
    (λ r. ap (λ (k : ℕ). refusal (too_many k ∷ wrong_count count d ∷ wrong_count countRight e ∷ no_room room (2 ^ k) ∷ no_room roomRight (2 ^ k) ∷ [])) (h l r)))

-- what a caller may rest on where two values are not refused
pub record Paired (d e n count countRight room roomRight : ℕ) : Type 0 where
  pub small : d ≤ 9
  pub small_right : e ≤ 9
  pub result : n ≤ 9
  pub counted : count ≡ 2 ^ d
  pub counted_right : countRight ≡ 2 ^ e
  pub roomy : 2 ^ n ≤ room
  pub roomy_right : 2 ^ n ≤ roomRight

pub paired : (d e n count countRight room roomRight : ℕ) → refusal (both_tests d e n count countRight room roomRight) ≡ 0 → Paired d e n count countRight room roomRight
paired d e n count countRight room roomRight z =
    let p = past (too_many d) _ (λ q. omega arith) z in
    let q = past (too_many e) _ (λ q. omega arith) p.1 in
    let r = past (too_many n) _ (λ q. omega arith) q.1 in
    let t = past (wrong_count count d) _ (λ q. omega arith) r.1 in
    let u = past (wrong_count countRight e) _ (λ q. omega arith) t.1 in
    let v = past (no_room room (2 ^ n)) _ (λ q. omega arith) u.1 in
    let w = past (no_room roomRight (2 ^ n)) _ (λ q. omega arith) v.1 in
    record {
      small = ltb-false _ _ p.0;
      small_right = ltb-false _ _ q.0;
      result = ltb-false _ _ r.0;
      counted = eqb-true _ _ (not-false _ t.0);
      counted_right = eqb-true _ _ (not-false _ u.0);
      roomy = ltb-false _ _ v.0;
      roomy_right = ltb-false _ _ w.0;
    }

-- ---- dimensions there and back

pub set_dims_done : (s : Shape) (n : ℕ) (a : List Float) (room : ℕ) → Taken s.dims n (length a) room (2 ^ n) → set_dims s n a room ≡ value (with_dims s n) (resized s.dims n a)
unfolding set_dims
set_dims_done s n a room t =
    unless_done refused_value (refusal (result_tests s.dims n (length a) room (2 ^ n))) 0 _ (sym (passes s.dims n (length a) room (2 ^ n) t)) refl

pub set_dims_taken : (s : Shape) (n : ℕ) (a : List Float) (room : ℕ) → (set_dims s n a room).number ≡ 0 → Taken s.dims n (length a) room (2 ^ n)
unfolding set_dims
set_dims_taken s n a room e =
    taken s.dims n (length a) room (2 ^ n) (not_refused (refusal (result_tests s.dims n (length a) room (2 ^ n))) _ e).0

-- what an accepted call grows, a call with room for the old numbers shrinks to the value that it was
pub set_dims_back : (s : Shape) (n : ℕ) (a : List Float) (room back : ℕ) → s.dims ≤ n → (set_dims s n a room).number ≡ 0 → length a ≤ back → set_dims (set_dims s n a room).shape s.dims (set_dims s n a room).coefs back ≡ value s a
set_dims_back s n a room back l e r =
    let t = set_dims_taken s n a room e in
    rw (set_dims_done s n a room t)
    (set_dims_done (with_dims s n) s.dims (resized s.dims n a) back (record { small = t.result; result = t.small; counted = resized_length s.dims n a; roomy = omega (arith, t.counted) })
    ∙ ap (value s) (resized_back s.dims n a l t.counted))

-- ---- a promotion

pub set_flavor_projective : (s : Shape) (a : List Float) (room : ℕ) → s.flavor ≡ Vanilla → (set_flavor s Projective a room).number ≡ 0 → set_flavor s Projective a room ≡ value (shape_of (s.dims + 1) Projective) (promoted 1 s.dims a)
unfolding set_flavor promotes
set_flavor_projective s a room v e =
    (not_refused _ _ e).1
    ∙ ap (λ (u : ℕ). value (shape_of (s.dims + u) Projective) (promoted u s.dims a)) (ap (λ (f : Flavor). promotes f Projective) v)

-- ---- both of two values

same_dims : (k : ℕ) (o : Pair) → o.left_shape.dims ≡ o.right_shape.dims → (unless refused_pair k o).left_shape.dims ≡ (unless refused_pair k o).right_shape.dims
unfolding unless
same_dims zero o h = h
same_dims (suc k) o h = refl

-- conforming gives equal dimensions, also where it is refused
pub conform_dims : (s t : Shape) (a b : List Float) (room roomRight : ℕ) → (conform s t a b room roomRight).left_shape.dims ≡ (conform s t a b room roomRight).right_shape.dims
unfolding conform conformed_shape
conform_dims s t a b room roomRight = same_dims _ _ refl

abbrev Sized : Pair → Type 0
Sized o = (length o.left_coefs ≡ 2 ^ o.left_shape.dims) × (length o.right_coefs ≡ 2 ^ o.right_shape.dims)

sized : (k : ℕ) (o : Pair) → Sized o → (unless refused_pair k o).number ≡ 0 → Sized (unless refused_pair k o)
unfolding unless
sized zero o h e = h
sized (suc k) o h e = absurd (omega arith)

pub conform_lengths : (s t : Shape) (a b : List Float) (room roomRight : ℕ) → (conform s t a b room roomRight).number ≡ 0 → (length (conform s t a b room roomRight).left_coefs ≡ 2 ^ (conform s t a b room roomRight).left_shape.dims) × (length (conform s t a b room roomRight).right_coefs ≡ 2 ^ (conform s t a b room roomRight).right_shape.dims)
unfolding conform conformed conformed_shape
conform_lengths s t a b room roomRight e = sized _ _ (resized_length _ _ _, resized_length _ _ _) e
