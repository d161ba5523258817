-- Laws of single blades and of one grade. Assumes nothing.
use mathlib.Core.Path.{◌≡◌, refl, sym, ap, ap₂, ◌∙◌}
use mathlib.Core.Bool.{Bool, true, false, true≢false, not, cond}
use Rattle.std.specs.Prelude.{Some, Result, Ok, Err, is_err}
use Rattle.std.specs.List.{find, range_with_len}
use Rattle.std.specs.Option.{unwrap_or}
use Rattle.masks.specs.declared.outcome.Refusal.{Refusal}
use mathlib.Core.Logic.{⊎_elim}
use mathlib.Core.List.{List, [], ◌∷◌, ◌++◌}
use Prim.Native.Nat.{ℕ, zero, suc, ◌+◌, ◌-◌, ◌^◌, ◌≤◌, ◌<◌}
use native.Mathlib.Nat.{add-zero}
use native.Mathlib.Omega.{arith}
use borrow.Author.Tests.{lt-ltb, le-ltb, ltb-true, ltb-false, eq-eqb, eqb-true, not-false}
use lib.Dec.{ltb}
use lib.Ieee.{Float}
use lib.ListN.{length, set, take, drop, length-set}
use lib.Seq.{set-append_left}
use Rattle.masks.specs.Outcome.{refusal, IsAnswer, too_many, wrong_count, no_room, value_tests, refused_value, value, laid, refused_real}
use Rattle.masks.specs.declared.shape.Shape.{Shape}
use Rattle.masks.specs.Order.{place}
use Rattle.masks.specs.Shape.{coef, with_dims, resized}
use Rattle.masks.specs.Blade.{get_blade, blade_dims, with_blade, set_blade_tests, set_blade, grade_refusal}
use Rattle.masks.proofs.ListLaws.{split}
use Rattle.masks.proofs.OutcomeLaws.{past, refuses, unless_done, not_refused, Valued, valued, value_passes}
use Rattle.masks.proofs.ShapeLaws.{coef_set, resized_length}

-- ---- the dimensions that a mask needs

-- below 9 there is room for one more
pub below_nine : (n m : ℕ) → n ≤ 9 → 2 ^ n ≤ m → m < 512 → n < 9
below_nine n m h l k =
    ⊎_elim (λ (g : n < 9). g) (λ (g : 9 ≤ n). let e : n ≡ 9 = omega arith in absurd (omega (arith, ap (λ (x : ℕ). 2 ^ x) e))) (split n 9)

pub dims_here : (k n m : ℕ) → m < 2 ^ n → blade_dims k n m ≡ n
unfolding blade_dims
dims_here zero n m h = refl
dims_here (suc k) n m h = rw (lt-ltb m (2 ^ n) h)

pub dims_next : (n m : ℕ) → n < 9 → 2 ^ n ≤ m → blade_dims (9 - n) n m ≡ blade_dims (9 - (n + 1)) (n + 1) m
unfolding blade_dims
dims_next n m h l =
    let e : 9 - n ≡ suc (9 - (n + 1)) = omega arith in
    rw (e, le-ltb m (2 ^ n) l)

pub dims_le : (k n m : ℕ) → blade_dims k n m ≤ n + k
unfolding blade_dims
dims_le zero n m = omega arith
dims_le (suc k) n m = go (ltb m (2 ^ n)) (dims_le k (n + 1) m)
  where
    go : (b : Bool) → blade_dims k (n + 1) m ≤ n + 1 + k → cond b n (blade_dims k (n + 1) m) ≤ n + suc k
    go true h = omega arith
    go false h = omega arith

-- the first of the k dimensions from n on that a mask fits in, or the ones after them
pub dims_found : (k n m : ℕ) → unwrap_or (find (λ d. ltb m (2 ^ d)) (range_with_len n k)) (n + k) ≡ blade_dims k n m
unfolding blade_dims
dims_found zero n m = omega arith
dims_found (suc k) n m = go (ltb m (2 ^ n)) (dims_found k (n + 1) m)
  where
    go : (b : Bool) → unwrap_or (find (λ d. ltb m (2 ^ d)) (range_with_len (n + 1) k)) (n + 1 + k) ≡ blade_dims k (n + 1) m → unwrap_or (cond b (Some n) (find (λ d. ltb m (2 ^ d)) (range_with_len (n + 1) k))) (n + suc k) ≡ cond b n (blade_dims k (n + 1) m)
    go true e = refl
    go false e =
        let q : n + suc k ≡ n + 1 + k = omega arith in
        ap (λ i. unwrap_or (find (λ d. ltb m (2 ^ d)) (range_with_len (n + 1) k)) i) q ∙ e

-- ---- a blade set

pub set_laid {ℓ} : {A : Type ℓ} (i : ℕ) (x : A) (xs out : List A) → i < length xs → set (laid xs out) i x ≡ laid (set xs i x) out
set_laid i x xs out h =
    set-append_left xs (drop (length xs) out) i x h ∙ ap (λ (n : ℕ). set xs i x ++ drop n out) (sym (length-set xs i x))

pub blade_here : (k d m : ℕ) (x : Float) (a : List Float) → m < 2 ^ d → with_blade k d m x a ≡ set a (place d m) x
unfolding with_blade
blade_here zero d m x a h = refl
blade_here (suc k) d m x a h = rw (lt-ltb m (2 ^ d) h)

pub blade_next : (d m : ℕ) (x : Float) (a : List Float) → d < 9 → 2 ^ d ≤ m → with_blade (9 - d) d m x a ≡ with_blade (9 - (d + 1)) (d + 1) m x (resized d (d + 1) a)
unfolding with_blade
blade_next d m x a h l =
    let e : 9 - d ≡ suc (9 - (d + 1)) = omega arith in
    rw (e, le-ltb m (2 ^ d) l)

-- what a caller may rest on where setting a blade is not refused
pub record Placed (d m count room : ℕ) : Type 0 where
  pub small : d ≤ 9
  pub low : m < 512
  pub counted : count ≡ 2 ^ d
  pub roomy : 2 ^ (blade_dims (9 - d) d m) ≤ room

pub placed : (d m count room : ℕ) → refusal (set_blade_tests d m count room) ≡ 0 → Placed d m count room
placed d m count room e =
    let p = past (too_many d) _ (λ q. omega arith) e in
    let q = past (record { fails = not (ltb m 512); number = 1 }) _ (λ q. omega arith) p.1 in
    let r = past (wrong_count count d) _ (λ q. omega arith) q.1 in
    let s = past (no_room room (2 ^ (blade_dims (9 - d) d m))) [] (λ q. omega arith) r.1 in
    record {
      small = ltb-false _ _ p.0;
      low = ltb-true _ _ (not-false _ q.0);
      counted = eqb-true _ _ (not-false _ r.0);
      roomy = ltb-false _ _ s.0;
    }

pub accepted : (d m count room : ℕ) → Placed d m count room → refusal (set_blade_tests d m count room) ≡ 0
unfolding refusal
accepted d m count room p =
    simp (le-ltb 9 d p.small, lt-ltb m 512 p.low, eq-eqb count (2 ^ d) p.counted, le-ltb room (2 ^ (blade_dims (9 - d) d m)) p.roomy)

-- a value that is grown by one dimension needs as much, and gives the same
grown : (d m room : ℕ) (a : List Float) → Placed d m (length a) room → 2 ^ d ≤ m → Placed (d + 1) m (length (resized d (d + 1) a)) room
grown d m room a p l =
    let h : d < 9 = below_nine d m p.small l p.low in
    record {
      small = omega arith;
      low = p.low;
      counted = resized_length d (d + 1) a;
      roomy = rw (← dims_next d m h l) p.roomy;
    }

pub set_blade_placed : (s : Shape) (m : ℕ) (x : Float) (a : List Float) (room : ℕ) → (set_blade s m x a room).number ≡ 0 → Placed s.dims m (length a) room
unfolding set_blade
set_blade_placed s m x a room e = placed s.dims m (length a) room (not_refused (refusal (set_blade_tests s.dims m (length a) room)) _ e).0

pub set_blade_done : (s : Shape) (m : ℕ) (x : Float) (a : List Float) (room : ℕ) → Placed s.dims m (length a) room → set_blade s m x a room ≡ value (with_dims s (blade_dims (9 - s.dims) s.dims m)) (with_blade (9 - s.dims) s.dims m x a)
unfolding set_blade
set_blade_done s m x a room p =
    unless_done refused_value (refusal (set_blade_tests s.dims m (length a) room)) 0 _ (sym (accepted s.dims m (length a) room p)) refl

pub blade_grown : (s : Shape) (m : ℕ) (x : Float) (a : List Float) (room : ℕ) → Placed s.dims m (length a) room → 2 ^ s.dims ≤ m → set_blade (with_dims s (s.dims + 1)) m x (resized s.dims (s.dims + 1) a) room ≡ set_blade s m x a room
blade_grown s m x a room p l =
    let d : ℕ = s.dims in
    let h : d < 9 = below_nine d m p.small l p.low in
    set_blade_done (with_dims s (d + 1)) m x (resized d (d + 1) a) room (grown d m room a p l)
    ∙ ap₂ (λ n xs. value (with_dims s n) xs) (sym (dims_next d m h l)) (sym (blade_next d m x a h l)) ∙ sym (set_blade_done s m x a room p)

-- ---- what is set is read back

pub blade_length : (k d m : ℕ) (x : Float) (a : List Float) → length a ≡ 2 ^ d → length (with_blade k d m x a) ≡ 2 ^ (blade_dims k d m)
unfolding with_blade blade_dims
blade_length zero d m x a e = length-set a (place d m) x ∙ e
blade_length (suc k) d m x a e =
    ⊎_elim (λ (l : m < 2 ^ d). rw (lt-ltb m (2 ^ d) l) (length-set a (place d m) x ∙ e))
    (λ (l : 2 ^ d ≤ m). rw (le-ltb m (2 ^ d) l) (blade_length k (d + 1) m x (resized d (d + 1) a) (resized_length d (d + 1) a))) (split m (2 ^ d))

put : (d m : ℕ) (x : Float) (a : List Float) → m < 2 ^ d → length a ≡ 2 ^ d → coef d (set a (place d m) x) m ≡ x
put d m x a h e = coef_set d m m x a h h e ∙ rw (eq-eqb m m refl)

got : (k d m : ℕ) (x : Float) (a : List Float) → m < 2 ^ (d + k) → length a ≡ 2 ^ d → coef (blade_dims k d m) (with_blade k d m x a) m ≡ x
unfolding with_blade blade_dims
got zero d m x a h e = put d m x a (rw add-zero at h) e
got (suc k) d m x a h e =
    ⊎_elim (λ (l : m < 2 ^ d). rw (lt-ltb m (2 ^ d) l) (put d m x a l e))
    (λ (l : 2 ^ d ≤ m).
    let q : d + suc k ≡ d + 1 + k = omega arith in
    rw (le-ltb m (2 ^ d) l) (got k (d + 1) m x (resized d (d + 1) a) (rw q at h) (resized_length d (d + 1) a)))
    (split m (2 ^ d))

pub blade_got : (d m : ℕ) (x : Float) (a : List Float) → d ≤ 9 → m < 512 → length a ≡ 2 ^ d → coef (blade_dims (9 - d) d m) (with_blade (9 - d) d m x a) m ≡ x
blade_got d m x a l h e =
    let q : d + (9 - d) ≡ 9 = omega arith in
    got (9 - d) d m x a (rw q h) e

pub get_blade_done : (s : Shape) (m : ℕ) (a : List Float) → Valued s.dims (length a) → get_blade s m a ≡ record { number = 0; value = coef s.dims a m }
unfolding get_blade refusal
get_blade_done s m a v =
    unless_done refused_real (refusal (value_tests s.dims (length a))) 0 _ (sym (value_passes s.dims (length a) [] v)) refl

-- after an accepted call the mask has the number that was set
pub get_set : (s : Shape) (m : ℕ) (x : Float) (a : List Float) (room : ℕ) → (set_blade s m x a room).number ≡ 0 → get_blade (set_blade s m x a room).shape m (set_blade s m x a room).coefs ≡ record { number = 0; value = x }
get_set s m x a room e =
    let d : ℕ = s.dims in
    let p = set_blade_placed s m x a room e in
    rw (set_blade_done s m x a room p)
    (get_blade_done (with_dims s (blade_dims (9 - d) d m)) m (with_blade (9 - d) d m x a) (record { small = omega (arith, dims_le (9 - d) d m, p.small); counted = blade_length (9 - d) d m x a p.counted })
    ∙ ap (λ (y : Float). record { number = 0; value = y }) (blade_got d m x a p.small p.low p.counted))

-- ---- one grade

-- the grade is tested after the value
pub grade_later : (s : Shape) (g : ℕ) (a : List Float) → refusal (value_tests s.dims (length a)) ≡ 0 → grade_refusal s g a ≡ cond (ltb s.dims g) 4 0
unfolding grade_refusal refusal
grade_later s g a e =
    value_passes s.dims (length a) (record { fails = ltb s.dims g; number = 4 } ∷ []) (valued s.dims (length a) [] e).0

-- what a caller may rest on where a grade is not refused
pub record Graded (s : Shape) (g : ℕ) (a : List Float) : Type 0 where
  pub value : Valued s.dims (length a)
  pub within : g ≤ s.dims

pub graded : (s : Shape) (g : ℕ) (a : List Float) → grade_refusal s g a ≡ 0 → Graded s g a
unfolding grade_refusal
graded s g a e =
    let p = valued s.dims (length a) _ e in
    let q = past (record { fails = ltb s.dims g; number = 4 }) [] (λ q. omega arith) p.1 in
    record { value = p.0; within = ltb-false _ _ q.0 }

-- a part from p of q numbers
pub part_eq {ℓ} : {A : Type ℓ} (p q b z : ℕ) (xs : List A) → p ≡ b → q ≡ z → take (p + q - p) (drop p xs) ≡ take z (drop b xs)
part_eq p q b z xs e f = let g : p + q - p ≡ z = omega arith in rw (g, e)

-- ---- an answer that is an Err, and one that is not

pub refused : (k : ℕ) (r : Result (Unit {0}) Refusal) → IsAnswer k tt r → is_err r ≡ true → k ≡ 0 → ⊥
refused k (Ok x) p e = absurd (true≢false (sym e))
refused k (Err x) p e = λ q. refuses x (sym p ∙ q)

pub unrefused : (k : ℕ) (r : Result (Unit {0}) Refusal) → IsAnswer k tt r → is_err r ≡ false → k ≡ 0
unrefused k (Ok x) p e = p.0
unrefused k (Err x) p e = absurd (true≢false e)
