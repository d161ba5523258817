-- What holds where a call is refused and where it is not; and that a contract of each kind leaves nothing open. Assumes nothing.
use mathlib.Core.Path.{◌≡◌, refl, sym, ap, ap₂, ◌∙◌}
use mathlib.Core.Bool.{Bool, true, false, not, cond}
use mathlib.Core.List.{List, [], ◌∷◌, ◌++◌}
use Prim.Native.Nat.{ℕ, zero, suc, ◌^◌, ◌≤◌}
use native.Mathlib.Omega.{arith}
use lib.Ieee.{Float}
use lib.ListN.{length}
use lib.Dec.{eqb}
use borrow.Author.Tests.{le-ltb, ltb-false, eq-eqb, eqb-true, not-false}
use Rattle.std.specs.Prelude.{Result, Ok, Err}
use Rattle.masks.specs.declared.outcome.Refusal.{Refusal}
use Rattle.masks.specs.declared.outcome.Refusal.TheVariants.{TooManyDims, WrongCount, NoRoom, NoSuchGrade, Planar, LeastPower, NoFlavor, NoSpec, Malformed, BadLog}
use Rattle.masks.specs.declared.shape.Shape.{Shape}
use Rattle.masks.specs.Order.{GivesOrder}
use Rattle.masks.specs.Outcome.{Test, refusal, too_many, wrong_count, no_room, result_tests, pair_tests, number_of, IsAnswer, unless, laid, Outcome, refused_value, Gives, Pair, refused_pair, GivesBoth, Written, refused_list, Writes}

-- ---- lists of tests

-- where no test of a list fails, the first does not, nor one of the rest
pub past : (t : Test) (ts : List Test) → (t.number ≡ 0 → ⊥) → refusal (t ∷ ts) ≡ 0 → (t.fails ≡ false) × (refusal ts ≡ 0)
unfolding refusal
past t ts n e = go t.fails e
  where
    go : (b : Bool) → cond b t.number (refusal ts) ≡ 0 → (b ≡ false) × (refusal ts ≡ 0)
    go true q = absurd (n q)
    go false q = (refl, q)

-- what a caller may rest on where a call on a value of d dimensions is not refused
pub record Taken (d n count room needed : ℕ) : Type 0 where
  pub small : d ≤ 9
  pub result : n ≤ 9
  pub counted : count ≡ 2 ^ d
  pub roomy : needed ≤ room

pub taken : (d n count room needed : ℕ) → refusal (result_tests d n count room needed) ≡ 0 → Taken d n count room needed
taken d n count room needed e =
    let p = past (too_many d) _ (λ q. omega arith) e in
    let q = past (too_many n) _ (λ q. omega arith) p.1 in
    let r = past (wrong_count count d) _ (λ q. omega arith) q.1 in
    let s = past (no_room room needed) _ (λ q. omega arith) r.1 in
    record {
      small = ltb-false _ _ p.0;
      result = ltb-false _ _ q.0;
      counted = eqb-true _ _ (not-false _ r.0);
      roomy = ltb-false _ _ s.0;
    }

-- tests that refuse nothing where more of them refuse nothing
pub fewer_pass : (ts us : List Test) → refusal (ts ++ us) ≡ 0 → refusal ts ≡ 0
unfolding refusal
fewer_pass [] us e = refl
fewer_pass (t ∷ ts) us e = go t.fails e (fewer_pass ts us)
  where
    go : (b : Bool) → cond b t.number (refusal (ts ++ us)) ≡ 0 → (refusal (ts ++ us) ≡ 0 → refusal ts ≡ 0) → cond b t.number (refusal ts) ≡ 0
    go true q f = q
    go false q f = f q

-- where tests refuse, the tests after them do not count
pub rest_same : (ts us vs : List Test) → (refusal ts ≡ 0 → refusal us ≡ refusal vs) → refusal (ts ++ us) ≡ refusal (ts ++ vs)
unfolding refusal
rest_same [] us vs h = h refl
rest_same (t ∷ ts) us vs h = go t.fails h (rest_same ts us vs)
  where
    go : (b : Bool) → (cond b t.number (refusal ts) ≡ 0 → refusal us ≡ refusal vs) → ((refusal ts ≡ 0 → refusal us ≡ refusal vs) → refusal (ts ++ us) ≡ refusal (ts ++ vs)) → cond b t.number (refusal (ts ++ us)) ≡ cond b t.number (refusal (ts ++ vs))
    go true g f = refl
    go false g f = f g

-- so it is where the dimensions are refused
pub later_same : (d : ℕ) (ts us : List Test) → (d ≤ 9 → refusal ts ≡ refusal us) → refusal (too_many d ∷ ts) ≡ refusal (too_many d ∷ us)
later_same d ts us h = rest_same (too_many d ∷ []) ts us (λ e. h (ltb-false 9 d (past (too_many d) [] (λ q. omega arith) e).0))

-- where the dimensions are refused, the numbers that are needed do not count
pub needed_same : (d n count room needed needed' : ℕ) → (n ≤ 9 → needed ≡ needed') → refusal (result_tests d n count room needed) ≡ refusal (result_tests d n count room needed')
needed_same d n count room needed needed' h =
    later_same d _ _ (λ l. later_same n _ _ (λ m. ap (λ (k : ℕ). refusal (wrong_count count d ∷ no_room room k ∷ [])) (h m)))

-- the first test fails
pub refused_first : (t : Test) (ts : List Test) → t.fails ≡ true → refusal (t ∷ ts) ≡ t.number
unfolding refusal
refused_first t ts e = rw e

-- the first test does not fail
pub refused_later : (t : Test) (ts : List Test) → t.fails ≡ false → refusal (t ∷ ts) ≡ refusal ts
unfolding refusal
refused_later t ts e = rw e

-- what a list of tests refuses, a longer one refuses
pub refused_already : (ts us : List Test) → (refusal ts ≡ 0 → ⊥) → refusal (ts ++ us) ≡ refusal ts
unfolding refusal
refused_already [] us h = absurd (h refl)
refused_already (t ∷ ts) us h = go t.fails h (refused_already ts us)
  where
    go : (b : Bool) → (cond b t.number (refusal ts) ≡ 0 → ⊥) → ((refusal ts ≡ 0 → ⊥) → refusal (ts ++ us) ≡ refusal ts) → cond b t.number (refusal (ts ++ us)) ≡ cond b t.number (refusal ts)
    go true g f = refl
    go false g f = f g

-- ---- the tests of a value, which stand before others

-- what a caller may rest on where they do not fail
pub record Valued (d count : ℕ) : Type 0 where
  pub small : d ≤ 9
  pub counted : count ≡ 2 ^ d

pub valued : (d count : ℕ) (ts : List Test) → refusal (too_many d ∷ wrong_count count d ∷ ts) ≡ 0 → Valued d count × (refusal ts ≡ 0)
valued d count ts e =
    let p = past (too_many d) _ (λ q. omega arith) e in
    let q = past (wrong_count count d) ts (λ q. omega arith) p.1 in
    (record { small = ltb-false _ _ p.0; counted = eqb-true _ _ (not-false _ q.0) }, q.1)

pub value_passes : (d count : ℕ) (ts : List Test) → Valued d count → refusal (too_many d ∷ wrong_count count d ∷ ts) ≡ refusal ts
value_passes d count ts v =
    refused_later (too_many d) _ (le-ltb 9 d v.small) ∙ refused_later (wrong_count count d) ts (ap not (eq-eqb count (2 ^ d) v.counted))

-- a number that the first tests give, they give with more behind them
pub sooner : (n : ℕ) (ts us : List Test) → n ≡ refusal ts → (n ≡ 0 → ⊥) → n ≡ refusal (ts ++ us)
unfolding refusal
sooner n [] us e h = absurd (h e)
sooner n (t ∷ ts) us e h = go t.fails e (λ q. sooner n ts us q h)
  where
    go : (b : Bool) → n ≡ cond b t.number (refusal ts) → (n ≡ refusal ts → n ≡ refusal (ts ++ us)) → n ≡ cond b t.number (refusal (ts ++ us))
    go true q f = q
    go false q f = f q

-- ---- answers

-- No refusal has the number 0.
pub refuses : (e : Refusal) → number_of e ≡ 0 → ⊥
refuses TooManyDims q = omega arith
refuses WrongCount q = omega arith
refuses NoRoom q = omega arith
refuses NoSuchGrade q = omega arith
refuses Planar q = omega arith
refuses LeastPower q = omega arith
refuses NoFlavor q = omega arith
refuses NoSpec q = omega arith
refuses Malformed q = omega arith
refuses BadLog q = omega arith

-- The refusal of a number.
abbrev refusal_at : ℕ → Refusal
refusal_at n =
    cond (eqb n 1) TooManyDims (cond (eqb n 2) WrongCount (cond (eqb n 3) NoRoom (cond (eqb n 4) NoSuchGrade (cond (eqb n 5) Planar
    (cond (eqb n 6) LeastPower (cond (eqb n 7) NoFlavor (cond (eqb n 8) NoSpec (cond (eqb n 9) Malformed BadLog))))))))

at_number : (e : Refusal) → refusal_at (number_of e) ≡ e
at_number TooManyDims = refl
at_number WrongCount = refl
at_number NoRoom = refl
at_number NoSuchGrade = refl
at_number Planar = refl
at_number LeastPower = refl
at_number NoFlavor = refl
at_number NoSpec = refl
at_number Malformed = refl
at_number BadLog = refl

-- No two refusals have one number.
pub number_one : (e f : Refusal) → number_of e ≡ number_of f → e ≡ f
number_one e f q = sym (at_number e) ∙ ap refusal_at q ∙ at_number f

-- A number and a value determine the answer.
pub answer_one : {A : Type 0} (k : ℕ) (a : A) (r q : Result A Refusal) → IsAnswer k a r → IsAnswer k a q → r ≡ q
answer_one k a (Ok x) (Ok y) p q = ap (λ z. Ok z) (p.1 ∙ sym q.1)
answer_one k a (Ok x) (Err e) p q = absurd (refuses e (sym q ∙ p.0))
answer_one k a (Err e) (Ok y) p q = absurd (refuses e (sym p ∙ q.0))
answer_one k a (Err e) (Err f) p q = ap (λ z. Err z) (number_one e f (sym p ∙ q))

-- ---- the result, or a refusal

module _ {ℓ} {A : Type ℓ} (f : ℕ → A) where
  -- n is the number k that was worked out
  pub unless_refused : (k n : ℕ) (a : A) → n ≡ k → (n ≡ 0 → ⊥) → unless f k a ≡ f n
  unfolding unless
  unless_refused zero n a e h = absurd (h e)
  unless_refused (suc k) n a e h = rw e

  pub unless_done : (k n : ℕ) (a : A) → n ≡ k → n ≡ 0 → unless f k a ≡ a
  unfolding unless
  unless_done zero n a e h = refl
  unless_done (suc k) n a e h = absurd (omega arith)

  -- the number k that was worked out is that of a refusal, or 0
  pub unless_err : (k : ℕ) (e : Refusal) (a : A) → k ≡ number_of e → unless f k a ≡ f (number_of e)
  unless_err k e a h = unless_refused k (number_of e) a (sym h) (refuses e)

  pub unless_ok : (k : ℕ) (a : A) → k ≡ 0 → unless f k a ≡ a
  unless_ok k a h = unless_done k 0 a (sym h) refl

-- a call's number is that of the refusal that was worked out
pub unless_number : {A : Type 0} (n : A → ℕ) (f : ℕ → A) (k : ℕ) (a : A) → n (f k) ≡ k → n a ≡ 0 → n (unless f k a) ≡ k
unfolding unless
unless_number n f zero a e z = z
unless_number n f (suc k) a e z = e

-- An outcome of a call with its number and its value, where the number that was worked out is that of a refusal, and where it is 0.
module _ {O A : Type 0} (n : O → ℕ) (v : O → A) (f : ℕ → O) (k : ℕ) (o : O) where
  pub answered_err : (e : Refusal) → n (f (number_of e)) ≡ number_of e → k ≡ number_of e → IsAnswer (n (unless f k o)) (v (unless f k o)) (Err e)
  answered_err e q h = ap n (unless_err f k e o h) ∙ q

  pub answered_ok : (x : A) → n o ≡ 0 → k ≡ 0 → x ≡ v o → IsAnswer (n (unless f k o)) (v (unless f k o)) (Ok x)
  answered_ok x z h q = (ap n (unless_ok f k o h) ∙ z, q ∙ sym (ap v (unless_ok f k o h)))

-- a refusal is answered and leaves the output
pub gives_refused : (k : ℕ) (e : Refusal) (o : Outcome) (out : List Float) → k ≡ number_of e → Gives (unless refused_value k o) (Err e) out out
gives_refused k e o out h = rw (unless_err refused_value k e o h) (record { answered = refl; left = refl })

pub gives_ok : (k : ℕ) (o : Outcome) (s : Shape) (before after : List Float) → k ≡ 0 → o.number ≡ 0 → s ≡ o.shape → after ≡ laid o.coefs before → Gives (unless refused_value k o) (Ok s) before after
gives_ok k o s before after h z a l = rw (unless_ok refused_value k o h) (record { answered = (z, a); left = l })

-- where no refusal was worked out, the outcome's answer is given, whatever it is
pub gives_done : (k : ℕ) (o : Outcome) (r : Result Shape Refusal) (before after : List Float) → k ≡ 0 → IsAnswer o.number o.shape r → after ≡ laid o.coefs before → Gives (unless refused_value k o) r before after
gives_done k o r before after h a l = rw (unless_ok refused_value k o h) (record { answered = a; left = l })

pub gives_both_refused : (k : ℕ) (e : Refusal) (o : Pair) (out outRight : List Float) → k ≡ number_of e → GivesBoth (unless refused_pair k o) (Err e) out out outRight outRight
gives_both_refused k e o out outRight h = rw (unless_err refused_pair k e o h) (record { answered = refl; left = refl; right = refl })

pub gives_both_done : (k : ℕ) (o : Pair) (s t : Shape) (before after beforeRight afterRight : List Float) → k ≡ 0 → o.number ≡ 0 → s ≡ o.left_shape → t ≡ o.right_shape → after ≡ laid o.left_coefs before → afterRight ≡ laid o.right_coefs beforeRight → GivesBoth (unless refused_pair k o) (Ok (s, t)) before after beforeRight afterRight
gives_both_done k o s t before after beforeRight afterRight h z a b l m =
    rw (unless_ok refused_pair k o h) (record { answered = (z, ap₂ (λ x y. (x, y)) a b); left = l; right = m })

module _ {A : Type 0} where
  pub writes_refused : (k : ℕ) (e : Refusal) (o : Written A) (out : List A) → k ≡ number_of e → Writes (unless refused_list k o) (Err e) out out
  writes_refused k e o out h = rw (unless_err refused_list k e o h) (record { counted = refl; left = refl })

  pub writes_done : (k : ℕ) (o : Written A) (n : ℕ) (before after : List A) → k ≡ 0 → o.number ≡ 0 → n ≡ length o.items → after ≡ laid o.items before → Writes (unless refused_list k o) (Ok n) before after
  writes_done k o n before after h z a l = rw (unless_ok refused_list k o h) (record { counted = (z, a); left = l })

-- ---- the tests of a call on one value or on two

pub passes : (d n count room needed : ℕ) → Taken d n count room needed → refusal (result_tests d n count room needed) ≡ 0
unfolding refusal
passes d n count room needed t =
    simp (le-ltb 9 d t.small, le-ltb 9 n t.result, eq-eqb count (2 ^ d) t.counted, le-ltb room needed t.roomy)

-- the code's number is the definition's
pub checked : (k d n count room needed : ℕ) → k ≡ refusal (result_tests d n count room needed) → (n ≤ 9 → needed ≡ 2 ^ n) → k ≡ refusal (result_tests d n count room (2 ^ n))
checked k d n count room needed e b = e ∙ needed_same d n count room needed (2 ^ n) b

-- Where the given dimensions are refused, the resulting ones do not count.
pub result_tests_same : (d n m count room : ℕ) → (d ≤ 9 → n ≡ m) → refusal (result_tests d n count room (2 ^ n)) ≡ refusal (result_tests d m count room (2 ^ m))
result_tests_same d n m count room h =
    later_same d _ _ (λ l. ap (λ (k : ℕ). refusal (too_many k ∷ wrong_count count d ∷ no_room room (2 ^ k) ∷ [])) (h l))

-- what a caller may rest on where a call on two values is not refused
pub record Passed (d e n count countRight room : ℕ) : Type 0 where
  pub small : d ≤ 9
  pub small_right : e ≤ 9
  pub result : n ≤ 9
  pub counted : count ≡ 2 ^ d
  pub counted_right : countRight ≡ 2 ^ e
  pub roomy : 2 ^ n ≤ room

pub passed : (d e n count countRight room : ℕ) → refusal (pair_tests d e n count countRight room) ≡ 0 → Passed d e n count countRight room
passed d e n count countRight room z =
    let p = past (too_many d) _ (λ q. omega arith) z in
    let q = past (too_many e) _ (λ q. omega arith) p.1 in
    let r = past (too_many n) _ (λ q. omega arith) q.1 in
    let s = past (wrong_count count d) _ (λ q. omega arith) r.1 in
    let t = past (wrong_count countRight e) _ (λ q. omega arith) s.1 in
    let u = past (no_room room (2 ^ n)) _ (λ q. omega arith) t.1 in
    record {
      small = ltb-false _ _ p.0;
      small_right = ltb-false _ _ q.0;
      result = ltb-false _ _ r.0;
      counted = eqb-true _ _ (not-false _ s.0);
      counted_right = eqb-true _ _ (not-false _ t.0);
      roomy = ltb-false _ _ u.0;
    }

-- ---- an outcome whose number is 0 is not a refusal

pub not_refused : (k : ℕ) (o : Outcome) → (unless refused_value k o).number ≡ 0 → (k ≡ 0) × (unless refused_value k o ≡ o)
unfolding unless
not_refused zero o e = (refl, refl)
not_refused (suc k) o e = absurd (omega arith)

-- ---- nothing is left open: an outcome and what the output held determine the answer and what it holds after

pub gives_one : {o : Outcome} {r r' : Result Shape Refusal} {before after after' : List Float} → Gives o r before after → Gives o r' before after' → (r ≡ r') × (after ≡ after')
gives_one {o = o} g h = (answer_one o.number o.shape _ _ g.answered h.answered, g.left ∙ sym h.left)

pub gives_both_one : {o : Pair} {r r' : Result (Shape × Shape) Refusal} {b a a' bRight aRight aRight' : List Float} → GivesBoth o r b a bRight aRight → GivesBoth o r' b a' bRight aRight' → (r ≡ r') × (a ≡ a') × (aRight ≡ aRight')
gives_both_one {o = o} g h = (answer_one o.number (o.left_shape, o.right_shape) _ _ g.answered h.answered, g.left ∙ sym h.left, g.right ∙ sym h.right)

pub writes_one : {A : Type 0} {o : Written A} {r r' : Result ℕ Refusal} {before after after' : List A} → Writes o r before after → Writes o r' before after' → (r ≡ r') × (after ≡ after')
writes_one {o = o} g h = (answer_one o.number (length o.items) _ _ g.counted h.counted, g.left ∙ sym h.left)

pub gives_order_one : {d : ℕ} {r r' : Result (Unit {0}) Refusal} {before after after' : List ℕ} → GivesOrder d r before after → GivesOrder d r' before after' → (r ≡ r') × (after ≡ after')
gives_order_one g h = (answer_one _ tt _ _ g.answered h.answered, g.left ∙ sym h.left)
