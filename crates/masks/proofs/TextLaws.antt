-- Laws of a flavor's text: the digits and parts that reading goes by, and what is written. Assumes nothing.
use mathlib.Core.Path.{◌≡◌, refl, sym, ap, subst, ◌∙◌}
use mathlib.Core.Bool.{Bool, true, false, true≢false, not, ◌&&◌, ◌||◌, cond, and-false}
use mathlib.Core.List.{List, [], ◌∷◌, ◌++◌}
use Prim.Native.Nat.{ℕ, ◌+◌, ◌-◌, ◌*◌, ◌/◌, ◌%◌, ◌≤◌, ◌<◌}
use native.Mathlib.Numerals.{add-one}
use native.Mathlib.Omega.{arith}
use lib.Dec.{T, leb, ltb}
use lib.ListN.{length, get_or, drop, length-append}
use lib.Seq.{drop-cons, sets}
use borrow.Author.Tests.{le-leb, lt-leb, lt-ltb, le-ltb, eq-eqb, ne_eqb}
use Rattle.masks.specs.declared.flavor.Flavor.{Flavor}
use Rattle.masks.specs.declared.flavor.Flavor.TheVariants.{Vanilla, Projective, Cl}
use Rattle.std.specs.Prelude.{Option, None, Some, Ok, Err}
use Rattle.masks.specs.declared.outcome.Refusal.{Refusal}
use Rattle.masks.specs.Outcome.{refusal, number_of, IsAnswer, unless}
use Rattle.masks.specs.inner.Text.{spec, spec_of, read_cl}
use Rattle.masks.specs.Text.{decimal_digit, every, same, decimal_value, unsigned, octet_of, octet, is_octet, or_zero, part, after_part, read_as, refused_read, vga, pga, begins_cl, spec_in, is_spec, cl_of, Read, read_flavor, decimal, spaced, text_of}
use Rattle.masks.proofs.ListLaws.{sets_append, same_eq}
use Rattle.masks.proofs.TextScan.{drop_end, every_end, every_not, every_on, same_nil, same_not}

-- ---- digits

-- a number grows with its digits
value_le : (l : List ℕ) (v : ℕ) → v ≤ decimal_value v l
unfolding decimal_value
value_le [] v = omega arith
value_le (c ∷ cs) v = omega (arith, value_le cs (v * 10 + (c - 48)))

value_on : (t : List ℕ) (i v : ℕ) → i < length t → decimal_value v (drop i t) ≡ decimal_value (v * 10 + (get_or t i 0 - 48)) (drop (i + 1) t)
unfolding decimal_value
value_on t i v h = rw (drop-cons t i 0 h, add-one i)

pub digit_in : (c : ℕ) → 48 ≤ c → c ≤ 57 → decimal_digit c ≡ true
digit_in c h g = rw (le-leb 48 c h, le-leb c 57 g)

octet_filled : (t : List ℕ) → 0 < length t → octet_of t ≡ cond (every decimal_digit t && leb (decimal_value 0 t) 255) (Some (decimal_value 0 t)) None
unfolding octet_of
octet_filled [] h = absurd (omega arith)
octet_filled (c ∷ cs) h = refl

-- a number is missing where there is no byte, where one is no digit, and where it is above 255
pub octet_empty : (t : List ℕ) → length t ≡ 0 → octet_of t ≡ None
unfolding octet_of
octet_empty [] h = refl
octet_empty (c ∷ cs) h = absurd (omega arith)

module _ (t : List ℕ) (filled : 0 < length t) where
  octet_word : every decimal_digit t ≡ false → octet_of t ≡ None
  octet_word e = octet_filled t filled ∙ rw e

  octet_large : 255 < decimal_value 0 t → octet_of t ≡ None
  octet_large h = octet_filled t filled ∙ rw (lt-leb _ 255 h, and-false)

  pub octet_is : every decimal_digit t ≡ true → decimal_value 0 t ≤ 255 → octet_of t ≡ Some (decimal_value 0 t)
  octet_is e h = octet_filled t filled ∙ rw (e, le-leb _ 255 h)

-- v is the number of the digits before i: the tests of the whole are those of what is left
pub record Digits (t : List ℕ) (v i : ℕ) : Type 0 where
  pub within : i ≤ length t
  pub small : v ≤ 255
  pub digital : every decimal_digit (drop i t) ≡ every decimal_digit t
  pub valued : decimal_value v (drop i t) ≡ decimal_value 0 t

module _ (t : List ℕ) (v i : ℕ) (d : Digits t v i) where
  module _ (h : i < length t) where
    pub digits_word : decimal_digit (get_or t i 0) ≡ false → octet_of t ≡ None
    digits_word e = octet_word t (omega arith) (sym d.digital ∙ every_not decimal_digit t i h e)

    pub digits_large : 255 < v * 10 + (get_or t i 0 - 48) → octet_of t ≡ None
    digits_large g =
        octet_large t (omega arith)
        (omega (arith, d.valued, value_on t i v h, value_le (drop (i + 1) t) (v * 10 + (get_or t i 0 - 48))))

    pub digits_on : decimal_digit (get_or t i 0) ≡ true → v * 10 + (get_or t i 0 - 48) ≤ 255 → Digits t (v * 10 + (get_or t i 0 - 48)) (i + 1)
    digits_on e g = record {
      within = omega arith;
      small = g;
      digital = sym (every_on decimal_digit t i h e) ∙ d.digital;
      valued = sym (value_on t i v h) ∙ d.valued;
    }

  pub digits_end : 0 < length t → length t ≤ i → octet_of t ≡ Some v
  unfolding decimal_value
  digits_end f h =
      let e : i ≡ length t = omega arith in
      let k : decimal_value 0 t ≡ v = sym d.valued ∙ ap (decimal_value v) (drop_end t i e) in
      octet_is t f (sym d.digital ∙ every_end decimal_digit t i e) (omega (arith, k)) ∙ ap Some k

-- ---- a leading +

pub unsigned_plus : (t : List ℕ) → 0 < length t → get_or t 0 0 ≡ 43 → unsigned t ≡ drop 1 t
unfolding unsigned
unsigned_plus [] h e = absurd (omega arith)
unsigned_plus (c ∷ cs) h e = rw (eq-eqb c 43 e)

pub unsigned_not : (t : List ℕ) → (get_or t 0 0 ≡ 43 → ⊥) → unsigned t ≡ t
unfolding unsigned
unsigned_not [] h = refl
unsigned_not (c ∷ cs) h = rw (ne_eqb c 43 h)

-- ---- the spec of a Cl flavor

module _ (t : List ℕ) where
  pub spec_missing : octet (part t) ≡ None → spec_of t ≡ refused_read 8
  unfolding spec_of
  spec_missing e = rw e

  module _ (p : ℕ) (e : octet (part t) ≡ Some p) where
    -- a fourth part refuses
    pub spec_four : (length (part (after_part (after_part (after_part t)))) ≡ 0 → ⊥) → spec_of t ≡ refused_read 8
    unfolding spec_of
    spec_four h = rw (e, same_not (part (after_part (after_part (after_part t)))) [] h)

    pub spec_read : length (part (after_part (after_part (after_part t)))) ≡ 0 → spec_of t ≡ read_as (Cl p (or_zero (octet (part (after_part t)))) (or_zero (octet (part (after_part (after_part t))))))
    unfolding spec_of
    spec_read h = rw (e, same_nil (part (after_part (after_part (after_part t)))) h)

  -- a spec as its definition has it
  pub spec_tested : spec_of t ≡ cond (is_spec t) (read_as (cl_of t)) (refused_read 8)
  unfolding spec_of is_spec cl_of
  spec_tested = go (octet (part t))
    where
      go : (o : Option ℕ) → spec o (after_part t) ≡ cond (is_octet o && same (part (after_part (after_part (after_part t)))) []) (read_as (Cl (or_zero o) (or_zero (octet (part (after_part t)))) (or_zero (octet (part (after_part (after_part t))))))) (refused_read 8)
      go None = refl
      go (Some p) = refl

-- ---- what is answered

-- a flavor that was read, and a refusal
pub read_done : (o : Read) (f : Flavor) → o ≡ read_as f → IsAnswer o.number o.flavor (Ok f)
read_done o f e = rw e (refl, refl)

pub read_refused : (o : Read) (x : Refusal) → o ≡ refused_read (number_of x) → IsAnswer o.number o.flavor (Err x)
read_refused o x e = rw e refl

-- ---- a text, read step by step

-- the code's steps
unfoldable pub read_text : List ℕ → Read
read_text t =
    cond (every (λ c. leb c 127) t)
    (cond (same t vga) (read_as Vanilla) (cond (same t pga) (read_as Projective) (read_cl t)))
    (refused_read 7)

-- VGA and PGA do not begin with Cl
vga_not_cl : (t : List ℕ) → same t vga ≡ true → begins_cl t ≡ false
unfolding same
vga_not_cl t e = let q : t ≡ vga = same_eq t vga (subst T (sym e) tt) in rw q

pga_not_cl : (t : List ℕ) → same t pga ≡ true → begins_cl t ≡ false
unfolding same
pga_not_cl t e = let q : t ≡ pga = same_eq t pga (subst T (sym e) tt) in rw q

-- the steps give what the two tests give
steps_tested : (a v p b s : Bool) (f : Flavor) (x : Read) → (v ≡ true → b ≡ false) → (p ≡ true → b ≡ false) → x ≡ cond s (read_as f) (refused_read 8) → unless refused_read (cond (not (a && (v || p || b))) 7 (cond (b && not s) 8 0)) (read_as (cond v Vanilla (cond p Projective f))) ≡ cond a (cond v (read_as Vanilla) (cond p (read_as Projective) (cond b x (refused_read 7)))) (refused_read 7)
unfolding unless
steps_tested false v p b s f x h k e = refl
steps_tested true true p true s f x h k e = absurd (true≢false (h refl))
steps_tested true true p false s f x h k e = refl
steps_tested true false true true s f x h k e = absurd (true≢false (k refl))
steps_tested true false true false s f x h k e = refl
steps_tested true false false true true f x h k e = sym e
steps_tested true false false true false f x h k e = sym e
steps_tested true false false false s f x h k e = refl

pub read_steps : (t : List ℕ) → read_flavor t ≡ read_text t
unfolding read_flavor read_text read_cl refusal
read_steps t =
    steps_tested (every (λ c. leb c 127) t) (same t vga) (same t pga) (begins_cl t) (is_spec (spec_in t)) (cl_of (spec_in t)) (spec_of (spec_in t)) (vga_not_cl t) (pga_not_cl t) (spec_tested (spec_in t))

-- ---- what is written

pub decimal_one : (n : ℕ) → n < 10 → decimal n ≡ (48 + n) ∷ []
unfolding decimal
decimal_one n h = rw (lt-ltb n 10 h)

pub decimal_two : (n : ℕ) → 10 ≤ n → n < 100 → decimal n ≡ (48 + n / 10) ∷ (48 + n % 10) ∷ []
unfolding decimal
decimal_two n h g = rw (le-ltb n 10 h, lt-ltb n 100 g)

pub decimal_three : (n : ℕ) → 10 ≤ n → 100 ≤ n → decimal n ≡ (48 + n / 100) ∷ (48 + n / 10 % 10) ∷ (48 + n % 10) ∷ []
unfolding decimal
decimal_three n h g = rw (le-ltb n 10 h, le-ltb n 100 g)

-- one to three bytes
pub decimal_long : (n : ℕ) → (0 < length (decimal n)) × (length (decimal n) ≤ 3)
unfolding decimal
decimal_long n = go (ltb n 10) (ltb n 100)
  where
    digits : Bool → Bool → List ℕ
    digits a b =
        cond a ((48 + n) ∷ []) (cond b ((48 + n / 10) ∷ (48 + n % 10) ∷ []) ((48 + n / 100) ∷ (48 + n / 10 % 10) ∷ (48 + n % 10) ∷ []))

    go : (a b : Bool) → (0 < length (digits a b)) × (length (digits a b) ≤ 3)
    go true b = omega arith
    go false true = omega arith
    go false false = omega arith

-- the text of a Cl flavor, by the zeros at its end
module _ (p n z : ℕ) where
  pub text_one : z ≡ 0 → n ≡ 0 → text_of (Cl p n z) ≡ 67 ∷ 108 ∷ decimal p
  unfolding text_of
  text_one e g = rw (eq-eqb z 0 e, eq-eqb n 0 g)

  pub text_two : z ≡ 0 → (n ≡ 0 → ⊥) → text_of (Cl p n z) ≡ 67 ∷ 108 ∷ (spaced p ++ spaced n)
  unfolding text_of
  text_two e g = rw (eq-eqb z 0 e, ne_eqb n 0 g)

  pub text_three : (z ≡ 0 → ⊥) → text_of (Cl p n z) ≡ 67 ∷ 108 ∷ (spaced p ++ spaced n ++ spaced z)
  unfolding text_of
  text_three e = rw (ne_eqb z 0 e)

  pub one_length : z ≡ 0 → n ≡ 0 → length (text_of (Cl p n z)) ≡ 2 + length (decimal p)
  one_length e g = rw (text_one e g) (omega arith)

  pub two_length : z ≡ 0 → (n ≡ 0 → ⊥) → length (text_of (Cl p n z)) ≡ 4 + length (decimal p) + length (decimal n)
  two_length e g = rw (text_two e g) (simp length-append (omega arith))

  pub three_length : (z ≡ 0 → ⊥) → length (text_of (Cl p n z)) ≡ 5 + length (decimal p) + length (decimal n) + length (decimal z)
  three_length e = rw (text_three e) (simp length-append (omega arith))

  -- the two letters always stand
  pub two_le : 2 ≤ length (text_of (Cl p n z))
  unfolding text_of
  two_le = omega arith

-- an output that is written from i on is written further
pub sets_more : {l m : List ℕ} (o xs ys : List ℕ) (i at : ℕ) → l ≡ sets o i xs → at ≡ i + length xs → m ≡ sets l at ys → m ≡ sets o i (xs ++ ys)
sets_more o xs ys i at e g h = h ∙ (rw (e, g) (sym (sets_append xs ys o i)))
