-- The text of a flavor, read and written, as a list of bytes. Assumes nothing.
use Rattle.std.specs.Prelude.{Bool, true, false, not, ◌&&◌, ◌||◌, cond, List, [], ◌∷◌, ◌++◌, reverse, ℕ, ◌+◌, ◌-◌, ◌*◌, ◌/◌, ◌%◌, eqb, leb, ltb, length, take, drop, Option, None, Some}
use Rattle.masks.specs.declared.flavor.Flavor.{Flavor}
use Rattle.masks.specs.declared.flavor.Flavor.TheVariants.{Vanilla, Projective, Cl}
use Rattle.masks.specs.Outcome.{Test, Written, refusal, no_room, unless, refused_list, listed}

-- ---- bytes

-- The text after Cl is trimmed of bytes 9 to 13 and 32.
abbrev pub blank : ℕ → Bool
blank c = (leb 9 c && leb c 13) || eqb c 32

-- Parts are split at space, tab and comma.
abbrev pub separator : ℕ → Bool
separator c = eqb c 32 || eqb c 9 || eqb c 44

-- A decimal digit is a byte from 48 to 57.
abbrev pub decimal_digit : ℕ → Bool
decimal_digit c = leb 48 c && leb c 57

-- ---- lists of bytes

-- `take_while` has the first bytes as long as the test holds, and `drop_while` the rest.
unfoldable pub take_while : (ℕ → Bool) → List ℕ → List ℕ
take_while p [] = []
take_while p (c ∷ cs) = cond (p c) (c ∷ take_while p cs) []

unfoldable pub drop_while : (ℕ → Bool) → List ℕ → List ℕ
drop_while p [] = []
drop_while p (c ∷ cs) = cond (p c) (drop_while p cs) (c ∷ cs)

-- `every` holds where each byte passes the test.
unfoldable pub every : (ℕ → Bool) → List ℕ → Bool
every p [] = true
every p (c ∷ cs) = p c && every p cs

-- `same` holds where two lists are equal.
unfoldable pub same : List ℕ → List ℕ → Bool
same [] [] = true
same [] (y ∷ ys) = false
same (x ∷ xs) [] = false
same (x ∷ xs) (y ∷ ys) = eqb x y && same xs ys

-- `trimmed` takes the blanks off both ends.
unfoldable pub trimmed : List ℕ → List ℕ
trimmed t = reverse (drop_while blank (reverse (drop_while blank t)))

-- ---- parts

-- A byte of a part is no separator.
abbrev pub in_part : ℕ → Bool
in_part c = not (separator c)

-- `part` is the first part that is not empty, and `after_part` what follows it.
unfoldable pub part : List ℕ → List ℕ
part t = take_while in_part (drop_while separator t)

unfoldable pub after_part : List ℕ → List ℕ
after_part t = drop_while in_part (drop_while separator t)

-- `decimal_value v` is the number of a list of decimal digits, after those that make v.
unfoldable pub decimal_value : ℕ → List ℕ → ℕ
decimal_value v [] = v
decimal_value v (c ∷ cs) = decimal_value (v * 10 + (c - 48)) cs

-- `unsigned` takes off a leading +.
unfoldable pub unsigned : List ℕ → List ℕ
unsigned [] = []
unsigned (c ∷ cs) = cond (eqb c 43) cs (c ∷ cs)

-- A u8 is at least one digit, and its digits make a number of at most 255.
unfoldable pub octet_of : List ℕ → Option ℕ
octet_of [] = None
octet_of (c ∷ cs) =
    cond (every decimal_digit (c ∷ cs) && leb (decimal_value 0 (c ∷ cs)) 255) (Some (decimal_value 0 (c ∷ cs))) None

-- `octet` reads a part as a u8: a leading + and zeros are allowed.
unfoldable pub octet : List ℕ → Option ℕ
octet p = octet_of (unsigned p)

-- `is_octet` holds of a part that is a u8.
abbrev pub is_octet : Option ℕ → Bool
is_octet (Some n) = true
is_octet None = false

-- What is no u8 counts as 0.
abbrev pub or_zero : Option ℕ → ℕ
or_zero (Some n) = n
or_zero None = 0

-- ---- reading

pub record Read : Type 0 where
  pub number : ℕ
  pub flavor : Flavor

-- A flavor that was read has number 0.
abbrev pub read_as : Flavor → Read
read_as f = record { number = 0; flavor = f }

-- A refusal has its number, and Vanilla.
abbrev pub refused_read : ℕ → Read
refused_read k = record { number = k; flavor = Vanilla }

-- `vga` is the bytes of VGA.
abbrev pub vga : List ℕ
vga = 86 ∷ 71 ∷ 65 ∷ []

-- `pga` is the bytes of PGA.
abbrev pub pga : List ℕ
pga = 80 ∷ 71 ∷ 65 ∷ []

-- Text begins with Cl; `spec_in` is what stands after it, trimmed.
abbrev pub begins_cl : List ℕ → Bool
begins_cl t = same (take 2 t) (67 ∷ 108 ∷ [])

abbrev pub spec_in : List ℕ → List ℕ
spec_in t = trimmed (drop 2 t)

-- `is_spec` holds where the first part is a u8 and there is no fourth.
unfoldable pub is_spec : List ℕ → Bool
is_spec t = is_octet (octet (part t)) && same (part (after_part (after_part (after_part t)))) []

-- `cl_of` is the flavor of a spec: a second or third part that is missing or no u8 counts as 0.
unfoldable pub cl_of : List ℕ → Flavor
cl_of t =
    Cl (or_zero (octet (part t))) (or_zero (octet (part (after_part t)))) (or_zero (octet (part (after_part (after_part t)))))

-- `flavor_of` is the flavor that a text names.
abbrev pub flavor_of : List ℕ → Flavor
flavor_of t = cond (same t vga) Vanilla (cond (same t pga) Projective (cl_of (spec_in t)))

-- 7: Flavor text is neither VGA nor PGA and doesn't begin with Cl, or has a byte above 127. 8: Text after Cl isn't a spec.
abbrev pub read_tests : List ℕ → List Test
read_tests t =
    record { fails = not (every (λ c. leb c 127) t && (same t vga || same t pga || begins_cl t)); number = 7 }
    ∷ record { fails = begins_cl t && not (is_spec (spec_in t)); number = 8 } ∷ []

-- `read_flavor` reads a text as a flavor.
unfoldable pub read_flavor : List ℕ → Read
read_flavor t = unless refused_read (refusal (read_tests t)) (read_as (flavor_of t))

-- ---- writing

-- `decimal` writes a number of at most 255.
unfoldable pub decimal : ℕ → List ℕ
decimal n =
    cond (ltb n 10) ((48 + n) ∷ [])
    (cond (ltb n 100) ((48 + n / 10) ∷ (48 + n % 10) ∷ []) ((48 + n / 100) ∷ (48 + n / 10 % 10) ∷ (48 + n % 10) ∷ []))

-- `spaced` writes a space and a number.
abbrev pub spaced : ℕ → List ℕ
spaced n = 32 ∷ decimal n

-- `text_of` writes VGA, PGA, Cl3, Cl 3 1, Cl 3 1 1: the shortest, with zeros dropped from the end.
unfoldable pub text_of : Flavor → List ℕ
text_of Vanilla = vga
text_of Projective = pga
text_of (Cl p n z) =
    67 ∷ 108
    ∷ cond (eqb z 0) (cond (eqb n 0) (decimal p) (spaced p ++ spaced n)) (spaced p ++ spaced n ++ spaced z)

-- The tests of writing a flavor's text in an output of `room` bytes.
abbrev pub write_tests : Flavor → ℕ → List Test
write_tests f room = no_room room (length (text_of f)) ∷ []

-- `write_flavor` writes a flavor's text.
unfoldable pub write_flavor : Flavor → ℕ → Written ℕ
write_flavor f room = unless refused_list (refusal (write_tests f room)) (listed (text_of f))
