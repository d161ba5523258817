-- A flavor's text is read back, and its length; worked texts. Assumes nothing.
use mathlib.Core.Path.{◌≡◌, refl, sym, ap, ◌∙◌}
use mathlib.Core.Logic.{⊎_elim}
use mathlib.Core.Bool.{Bool, true, false, ◌&&◌, and-true, and-false, and_assoc, and_comm}
use mathlib.Core.List.{List, [], ◌∷◌, ◌++◌, reverse, reverse_aux, append-nil, append_assoc, reverse-append, reverse-reverse}
use Prim.Native.Nat.{ℕ, zero, suc, ◌+◌, ◌/◌, ◌%◌, ◌≤◌, ◌<◌}
use native.Mathlib.Omega.{arith}
use lib.Dec.{leb}
use lib.ListN.{length, length-reverse}
use lib.Seq.{append_snoc}
use borrow.Author.Tests.{leb-true, le-leb, lt-leb, ne_eqb}
use Rattle.masks.specs.inner.Text.{spec_of, read_cl}
use Rattle.masks.specs.declared.flavor.Flavor.{Flavor}
use Rattle.masks.specs.declared.flavor.Flavor.TheVariants.{Vanilla, Projective, Cl}
use Rattle.std.specs.Prelude.{Option, None, Some}
use Rattle.masks.specs.Outcome.{refusal, unless, Written, refused_list, listed}
use Rattle.masks.specs.Text.{blank, separator, in_part, decimal_digit, take_while, drop_while, every, same, decimal_value, unsigned, octet_of, octet, or_zero, part, after_part, read_as, refused_read, decimal, spaced, text_of, trimmed, is_spec, cl_of, read_flavor, write_tests, write_flavor, vga}
use Rattle.masks.proofs.ListLaws.{split}
use Rattle.masks.proofs.TextLaws.{read_text, read_steps, decimal_long, decimal_one, decimal_three, decimal_two, digit_in, octet_is, one_length, spec_read, text_one, text_three, text_two, three_length, two_length}

-- ---- words of digits

-- a byte that a flavor's text may have
abbrev ascii : ℕ → Bool
ascii c = leb c 127

and_both : (a b : Bool) → (a && b) ≡ true → (a ≡ true) × (b ≡ true)
and_both true b e = (refl, e)
and_both false b e = (e, cc)

module _ (c : ℕ) (d : decimal_digit c ≡ true) where
  digit_range : (48 ≤ c) × (c ≤ 57)
  digit_range =
      let e = and_both (leb 48 c) (leb c 57) d in
      (leb-true 48 c e.0, leb-true c 57 e.1)

  digit_blank : blank c ≡ false
  digit_blank =
      let r = digit_range in
      rw (lt-leb c 13 (omega arith), and-false (leb 9 c), ne_eqb c 32 (λ e. omega arith))

  digit_separator : separator c ≡ false
  digit_separator =
      let r = digit_range in
      rw (ne_eqb c 32 (λ e. omega arith), ne_eqb c 9 (λ e. omega arith), ne_eqb c 44 (λ e. omega arith))

  digit_part : in_part c ≡ true
  digit_part = rw digit_separator

  digit_ascii : ascii c ≡ true
  digit_ascii = let r = digit_range in le-leb c 127 (omega arith)

module _ (p : ℕ → Bool) where
  every_append : (xs ys : List ℕ) → every p (xs ++ ys) ≡ (every p xs && every p ys)
  unfolding every
  every_append [] ys = refl
  every_append (x ∷ xs) ys = rw (every_append xs ys) (sym (and_assoc (p x) (every p xs) (every p ys)))

  every_turned : (xs r : List ℕ) → every p (reverse_aux xs r) ≡ (every p xs && every p r)
  unfolding every
  every_turned [] r = refl
  every_turned (x ∷ xs) r =
      every_turned xs (x ∷ r)
      ∙ sym (and_assoc (every p xs) (p x) (every p r))
      ∙ ap (λ b. b && every p r) (and_comm (every p xs) (p x))

  every_reverse : (xs : List ℕ) → every p (reverse xs) ≡ every p xs
  unfolding every
  every_reverse xs = every_turned xs [] ∙ and-true (every p xs)

  -- what holds of each digit holds of each byte of a list of them
  every_digit : ((c : ℕ) → decimal_digit c ≡ true → p c ≡ true) → (xs : List ℕ) → every decimal_digit xs ≡ true → every p xs ≡ true
  unfolding every
  every_digit h [] e = refl
  every_digit h (x ∷ xs) e =
      let b = and_both (decimal_digit x) (every decimal_digit xs) e in
      rw (h x b.0, every_digit h xs b.1)

  takes_all : (w r : List ℕ) → every p w ≡ true → take_while p (w ++ r) ≡ w ++ take_while p r
  unfolding every take_while
  takes_all [] r e = refl
  takes_all (x ∷ w) r e = let b = and_both (p x) (every p w) e in rw (b.0, takes_all w r b.1)

  drops_all : (w r : List ℕ) → every p w ≡ true → drop_while p (w ++ r) ≡ drop_while p r
  unfolding every drop_while
  drops_all [] r e = refl
  drops_all (x ∷ w) r e = let b = and_both (p x) (every p w) e in rw (b.0, drops_all w r b.1)

-- digits, and at least one of them
record Word (w : List ℕ) : Type 0 where
  filled : 0 < length w
  digital : every decimal_digit w ≡ true

word_reverse : (w : List ℕ) → Word w → Word (reverse w)
word_reverse w d =
    record { filled = omega (arith, d.filled, length-reverse w); digital = every_reverse decimal_digit w ∙ d.digital }

-- nothing is dropped before a word by a test that no digit passes
drops_word : (p : ℕ → Bool) → ((c : ℕ) → decimal_digit c ≡ true → p c ≡ false) → (w r : List ℕ) → Word w → drop_while p (w ++ r) ≡ w ++ r
unfolding every drop_while
drops_word p h [] r d = absurd (omega (arith, d.filled))
drops_word p h (c ∷ w) r d = rw (h c (and_both (decimal_digit c) (every decimal_digit w) d.digital).0)

unsigned_word : (w : List ℕ) → Word w → unsigned w ≡ w
unfolding every unsigned
unsigned_word [] d = refl
unsigned_word (c ∷ w) d =
    let r = digit_range c (and_both (decimal_digit c) (every decimal_digit w) d.digital).0 in
    rw (ne_eqb c 43 (λ e. omega arith))

module _ (w r : List ℕ) (d : Word w) where
  part_word : take_while in_part r ≡ [] → part (w ++ r) ≡ w
  unfolding part
  part_word e =
      rw (drops_word separator digit_separator w r d, takes_all in_part w r (every_digit in_part digit_part w d.digital), e, append-nil w)

  after_word : drop_while in_part r ≡ r → after_part (w ++ r) ≡ r
  unfolding after_part
  after_word e =
      rw (drops_word separator digit_separator w r d, drops_all in_part w r (every_digit in_part digit_part w d.digital), e)

-- text that begins with a word and ends with one is not trimmed
trimmed_words : (w r m v : List ℕ) → Word w → Word v → w ++ r ≡ m ++ v → trimmed (w ++ r) ≡ w ++ r
unfolding trimmed
trimmed_words w r m v d f e =
    let k : drop_while blank (reverse (m ++ v)) ≡ reverse (m ++ v) =
    rw (reverse-append m v) (drops_word blank digit_blank (reverse v) (reverse m) (word_reverse v f)) in
    rw (drops_word blank digit_blank w r d, e, k) (reverse-reverse (m ++ v))

-- ---- a number is read back

decimal_digits : (n : ℕ) → n < 1000 → every decimal_digit (decimal n) ≡ true
unfolding every
decimal_digits n h =
    ⊎_elim (λ (a : n < 10). rw (decimal_one n a, digit n a))
    (λ (a : 10 ≤ n).
    ⊎_elim (λ (b : n < 100). rw (decimal_two n a b, digit (n / 10) (omega arith), digit (n % 10) (omega arith)))
    (λ (b : 100 ≤ n). rw (decimal_three n a b, digit (n / 100) (omega arith), digit (n / 10 % 10) (omega arith), digit (n % 10) (omega arith)))
    (split n 100))
    (split n 10)
  where
    digit : (k : ℕ) → k < 10 → decimal_digit (48 + k) ≡ true
    digit k g = digit_in (48 + k) (omega arith) (omega arith)

decimal_value_lem : (n : ℕ) → decimal_value 0 (decimal n) ≡ n
unfolding decimal_value
decimal_value_lem n =
    ⊎_elim (λ (a : n < 10). rw (decimal_one n a) (omega arith))
    (λ (a : 10 ≤ n).
    ⊎_elim (λ (b : n < 100). rw (decimal_two n a b) (omega arith)) (λ (b : 100 ≤ n). rw (decimal_three n a b) (omega arith)) (split n 100))
    (split n 10)

decimal_word : (n : ℕ) → n < 256 → Word (decimal n)
decimal_word n h = record { filled = (decimal_long n).0; digital = decimal_digits n (omega arith) }

pub octet_decimal : (n : ℕ) → n < 256 → octet (decimal n) ≡ Some n
unfolding octet
octet_decimal n h =
    let d = decimal_word n h in
    let v = decimal_value_lem n in
    ap octet_of (unsigned_word (decimal n) d)
    ∙ octet_is (decimal n) d.filled d.digital (omega arith)
    ∙ ap Some v

-- ---- a flavor is read back

-- the flavors that the code can hold
abbrev pub InRange : Flavor → Type 0
InRange Vanilla = Unit {0}
InRange Projective = Unit {0}
InRange (Cl p n z) = (p < 256) × (n < 256) × (z < 256)

read_letters : (w : List ℕ) → every ascii w ≡ true → read_flavor (67 ∷ 108 ∷ w) ≡ spec_of (trimmed w)
unfolding read_text read_cl every same
read_letters w e = read_steps (67 ∷ 108 ∷ w) ∙ (rw e)

-- the spec of a text whose parts are known
spec_parts : (t r s u : List ℕ) (p : ℕ) (a b : Option ℕ) → octet (part t) ≡ Some p → octet (part r) ≡ a → octet (part s) ≡ b → after_part t ≡ r → after_part r ≡ s → after_part s ≡ u → part u ≡ [] → spec_of t ≡ read_as (Cl p (or_zero a) (or_zero b))
spec_parts t r s u p a b e f g h k l m = spec_read t p e (rw (h, k, l, m)) ∙ (rw (h, k, f, g))

-- no part is left
none_part : part [] ≡ []
unfolding part take_while drop_while
none_part = refl

none_after : after_part [] ≡ []
unfolding after_part drop_while
none_after = refl

none_octet : octet (part []) ≡ None
unfolding octet octet_of unsigned part take_while drop_while
none_octet = refl

-- a word, what comes before it and what follows it: nothing, or a space and more
module _ (w : List ℕ) (d : Word w) where
  trimmed_alone : trimmed w ≡ w
  trimmed_alone = rw (append-nil w) at (trimmed_words w [] [] w d d (append-nil w))

  part_alone : part w ≡ w
  unfolding take_while
  part_alone = rw (append-nil w) at (part_word w [] d refl)

  after_alone : after_part w ≡ []
  unfolding drop_while
  after_alone = rw (append-nil w) at (after_word w [] d refl)

  module _ (t : List ℕ) where
    part_first : part (w ++ 32 ∷ t) ≡ w
    unfolding take_while
    part_first = part_word w (32 ∷ t) d refl

    after_first : after_part (w ++ 32 ∷ t) ≡ 32 ∷ t
    unfolding drop_while
    after_first = after_word w (32 ∷ t) d refl

part_space : (t : List ℕ) → part (32 ∷ t) ≡ part t
unfolding part drop_while
part_space t = refl

after_space : (t : List ℕ) → after_part (32 ∷ t) ≡ after_part t
unfolding after_part drop_while
after_space t = refl

trimmed_space : (t : List ℕ) → trimmed (32 ∷ t) ≡ trimmed t
unfolding trimmed drop_while
trimmed_space t = refl

-- one, two and three words
module _ (w : List ℕ) (p : ℕ) (d : Word w) (o : octet w ≡ Some p) where
  spec_one : spec_of (trimmed w) ≡ read_as (Cl p 0 0)
  spec_one =
      ap spec_of (trimmed_alone w d)
      ∙ spec_parts w [] [] [] p None None (ap octet (part_alone w d) ∙ o) none_octet none_octet (after_alone w d) none_after none_after none_part

  module _ (v : List ℕ) (n : ℕ) (f : Word v) (q : octet v ≡ Some n) where
    spec_two : spec_of (trimmed (32 ∷ (w ++ 32 ∷ v))) ≡ read_as (Cl p n 0)
    spec_two =
        ap spec_of (trimmed_space (w ++ 32 ∷ v) ∙ trimmed_words w (32 ∷ v) (w ++ (32 ∷ [])) v d f (sym (append_snoc w 32 v)))
        ∙ spec_parts (w ++ 32 ∷ v) (32 ∷ v) [] [] p (Some n) None (ap octet (part_first w d v) ∙ o)
        (ap octet (part_space v ∙ part_alone v f) ∙ q) none_octet (after_first w d v) (after_space v ∙ after_alone v f) none_after none_part

    spec_three : (u : List ℕ) (z : ℕ) → Word u → octet u ≡ Some z → spec_of (trimmed (32 ∷ (w ++ 32 ∷ v ++ 32 ∷ u))) ≡ read_as (Cl p n z)
    spec_three u z g k =
        let t : List ℕ = 32 ∷ (v ++ 32 ∷ u) in
        let e : w ++ 32 ∷ v ++ 32 ∷ u ≡ w ++ t = append_assoc w (32 ∷ v) (32 ∷ u) in
        let m : w ++ t ≡ (w ++ 32 ∷ v ++ (32 ∷ [])) ++ u = sym e ∙ sym (append_snoc (w ++ 32 ∷ v) 32 u) in
        ap spec_of (trimmed_space (w ++ 32 ∷ v ++ 32 ∷ u) ∙ ap trimmed e ∙ trimmed_words w t (w ++ 32 ∷ v ++ (32 ∷ [])) u d g m)
        ∙ spec_parts (w ++ t) t (32 ∷ u) [] p (Some n) (Some z) (ap octet (part_first w d (v ++ 32 ∷ u)) ∙ o)
        (ap octet (part_space (v ++ 32 ∷ u) ∙ part_first v f u) ∙ q) (ap octet (part_space u ∙ part_alone u g) ∙ k)
        (after_first w d (v ++ 32 ∷ u)) (after_space (v ++ 32 ∷ u) ∙ after_first v f u) (after_space u ∙ after_alone u g) none_part

-- no byte that is written is above 127
ascii_decimal : (n : ℕ) → n < 256 → every ascii (decimal n) ≡ true
ascii_decimal n h = every_digit ascii digit_ascii (decimal n) (decimal_word n h).digital

ascii_more : (t : List ℕ) (n : ℕ) → n < 256 → every ascii t ≡ true → every ascii (t ++ spaced n) ≡ true
unfolding every
ascii_more t n h e = every_append ascii t (spaced n) ∙ (rw (e, ascii_decimal n h))

read_back_cl : (p n z : ℕ) → p < 256 → n < 256 → z < 256 → read_flavor (text_of (Cl p n z)) ≡ read_as (Cl p n z)
unfolding every
read_back_cl p zero zero a b c =
    ap read_flavor (text_one p 0 0 refl refl)
    ∙ read_letters (decimal p) (ascii_decimal p a)
    ∙ spec_one (decimal p) p (decimal_word p a) (octet_decimal p a)
read_back_cl p (suc n) zero a b c =
    ap read_flavor (text_two p (suc n) 0 refl (λ e. omega arith))
    ∙ read_letters (spaced p ++ spaced (suc n)) (ascii_more (spaced p) (suc n) b (ascii_decimal p a))
    ∙ spec_two (decimal p) p (decimal_word p a) (octet_decimal p a) (decimal (suc n)) (suc n) (decimal_word (suc n) b) (octet_decimal (suc n) b)
read_back_cl p n (suc z) a b c =
    ap read_flavor (text_three p n (suc z) (λ e. omega arith))
    ∙ read_letters (spaced p ++ spaced n ++ spaced (suc z)) (ascii_more (spaced p ++ spaced n) (suc z) c (ascii_more (spaced p) n b (ascii_decimal p a)))
    ∙ spec_three (decimal p) p (decimal_word p a) (octet_decimal p a) (decimal n) n (decimal_word n b) (octet_decimal n b) (decimal (suc z)) (suc z) (decimal_word (suc z) c) (octet_decimal (suc z) c)

-- the text of a flavor is read as the flavor
pub text_read_back : (f : Flavor) → InRange f → read_flavor (text_of f) ≡ read_as f
unfolding text_of read_flavor refusal unless every same
text_read_back Vanilla r = refl
text_read_back Projective r = refl
text_read_back (Cl p n z) r = read_back_cl p n z r.0 r.1 r.2

-- and so is what is written
pub written_read : (f : Flavor) (room : ℕ) → InRange f → (write_flavor f room).number ≡ 0 → read_flavor (write_flavor f room).items ≡ read_as f
unfolding write_flavor unless
written_read f room r e = rw (written (refusal (write_tests f room)) (listed (text_of f)) e) (text_read_back f r)
  where
    written : (k : ℕ) (o : Written ℕ) → (unless refused_list k o).number ≡ 0 → unless refused_list k o ≡ o
    written zero o e = refl
    written (suc k) o e = absurd (omega arith)

-- ---- a text's length

cl_length : (p n z : ℕ) → length (text_of (Cl p n z)) ≤ 14
cl_length p zero zero = omega (arith, one_length p 0 0 refl refl, decimal_long p)
cl_length p (suc n) zero = omega (arith, two_length p (suc n) 0 refl (λ e. omega arith), decimal_long p, decimal_long (suc n))
cl_length p n (suc z) = omega (arith, three_length p n (suc z) (λ e. omega arith), decimal_long p, decimal_long n, decimal_long (suc z))

-- no text is longer than 14 bytes, and one is as long
pub text_length : (f : Flavor) → length (text_of f) ≤ 14
unfolding text_of
text_length Vanilla = omega arith
text_length Projective = omega arith
text_length (Cl p n z) = cl_length p n z

pub text_longest : length (text_of (Cl 255 255 255)) ≡ 14
unfolding text_of decimal
text_longest = refl

-- ---- worked texts

abbrev cl : List ℕ → List ℕ
cl t = 67 ∷ 108 ∷ t

-- Cl 3 x
pub worked_word : read_flavor (cl (32 ∷ 51 ∷ 32 ∷ 120 ∷ [])) ≡ read_as (Cl 3 0 0)
unfolding read_flavor refusal unless is_spec cl_of trimmed part after_part take_while drop_while every same octet octet_of unsigned decimal_value
worked_word = refl

-- Cl
pub worked_none : read_flavor (cl []) ≡ refused_read 8
unfolding read_flavor refusal unless is_spec cl_of trimmed part after_part take_while drop_while every same octet octet_of unsigned decimal_value
worked_none = refl

pub worked_empty : read_flavor [] ≡ refused_read 7
unfolding read_flavor refusal unless every same
worked_empty = refl

-- a newline inside is part of a word: Cl 3\n1, and Cl 3 1\n2
pub worked_newline : (read_flavor (cl (32 ∷ 51 ∷ 10 ∷ 49 ∷ [])) ≡ refused_read 8) × (read_flavor (cl (32 ∷ 51 ∷ 32 ∷ 49 ∷ 10 ∷ 50 ∷ [])) ≡ read_as (Cl 3 0 0))
unfolding read_flavor refusal unless is_spec cl_of trimmed part after_part take_while drop_while every same octet octet_of unsigned decimal_value
worked_newline = (refl, refl)

-- a text is trimmed of bytes 9 to 13 and 32, and not of 28: Cl, 11, 3, 12, and Cl, 3, 28
pub worked_blank : (read_flavor (cl (11 ∷ 51 ∷ 12 ∷ [])) ≡ read_as (Cl 3 0 0)) × (read_flavor (cl (51 ∷ 28 ∷ [])) ≡ refused_read 8)
unfolding read_flavor refusal unless is_spec cl_of trimmed part after_part take_while drop_while every same octet octet_of unsigned decimal_value
worked_blank = (refl, refl)

-- a second part that is no u8 does not shift the third: Cl 3 256 1
pub worked_large : read_flavor (cl (32 ∷ 51 ∷ 32 ∷ 50 ∷ 53 ∷ 54 ∷ 32 ∷ 49 ∷ [])) ≡ read_as (Cl 3 0 1)
unfolding read_flavor refusal unless is_spec cl_of trimmed part after_part take_while drop_while every same octet octet_of unsigned decimal_value
worked_large = refl

-- a fourth part refuses whatever it is: Cl 3 1 1 x
pub worked_four : read_flavor (cl (32 ∷ 51 ∷ 32 ∷ 49 ∷ 32 ∷ 49 ∷ 32 ∷ 120 ∷ [])) ≡ refused_read 8
unfolding read_flavor refusal unless is_spec cl_of trimmed part after_part take_while drop_while every same octet octet_of unsigned decimal_value
worked_four = refl

-- a + and zeros may lead, a second + or a - may not: Cl+0003, Cl++3, Cl-0
pub worked_sign : (read_flavor (cl (43 ∷ 48 ∷ 48 ∷ 48 ∷ 51 ∷ [])) ≡ read_as (Cl 3 0 0)) × (read_flavor (cl (43 ∷ 43 ∷ 51 ∷ [])) ≡ refused_read 8) × (read_flavor (cl (45 ∷ 48 ∷ [])) ≡ refused_read 8)
unfolding read_flavor refusal unless is_spec cl_of trimmed part after_part take_while drop_while every same octet octet_of unsigned decimal_value
worked_sign = (refl, refl, refl)

-- VGA is not trimmed: with a space after it, or before it, it is no flavor
pub worked_untrimmed : (read_flavor (vga ++ (32 ∷ [])) ≡ refused_read 7) × (read_flavor (32 ∷ vga) ≡ refused_read 7)
unfolding read_flavor refusal unless every same
worked_untrimmed = (refl, refl)

-- a byte above 127 refuses before all else: Cl 3 and 128
pub worked_byte : read_flavor (cl (32 ∷ 51 ∷ 32 ∷ 128 ∷ [])) ≡ refused_read 7
unfolding read_flavor refusal unless every
worked_byte = refl
