-- What building makes: numbers in their places, the masks of one parity, and the packings. Assumes nothing.
use mathlib.Core.Path.{◌≡◌, refl, sym, ap, ◌∙◌}
use mathlib.Core.Bool.{Bool, true, false, cond}
use mathlib.Core.List.{List, [], ◌∷◌, ◌++◌, append-nil}
use Prim.Native.Nat.{ℕ, zero, suc, ◌+◌, ◌-◌, ◌*◌, ◌/◌, ◌%◌, ◌^◌, ◌≤◌, ◌<◌}
use native.Mathlib.Nat.{pow-suc, not-suc-le-zero}
use native.Mathlib.Decide.{ℕ_discrete}
use native.Mathlib.Omega.{arith}
use lib.Count.{ones}
use lib.Dec.{eqb}
use lib.Ieee.{Float, nan}
use lib.ListN.{length, get_or, replicate, length-append, length-replicate, get_or-replicate, replicate-append-replicate, get_or-append}
use lib.Pow.{pow_pos}
use lib.Seq.{sets}
use borrow.Author.Tests.{eq-eqb, ne_eqb, eqb-true, eqb-false, lt-ltb, le-ltb, ltb-false}
use Rattle.masks.specs.declared.flavor.Flavor.{Flavor}
use Rattle.masks.specs.declared.flavor.Flavor.TheVariants.{Vanilla}
use Rattle.masks.specs.declared.build.Packing.{Packing}
use Rattle.masks.specs.declared.build.Packing.TheVariants.{Full, Half, Grade}
use Rattle.masks.specs.declared.build.Parity.{Parity}
use Rattle.masks.specs.declared.build.Parity.TheVariants.{Even, Odd}
use Rattle.masks.specs.Order.{grade, grades_below, order, size, start, built_tests, GivesOrder}
use Rattle.masks.specs.Outcome.{refusal, too_many, no_room, laid, value, refused_value, shape_of, nought}
use Rattle.masks.specs.Build.{odd_of, padded, at_grade, one_grade, n_1_tests, n_1_blades, first_grade, side_start, side_end, packing, unpacked, of_parity, spread, packed, packed_tests, blades_of_side}
use Rattle.masks.specs.Unpack.{choose}
use Rattle.masks.proofs.ListLaws.{get_d_past, sets_laid, laid_over}
use Rattle.masks.proofs.OrderLaws.{length_grade, length_order, grade_at, size_zero, start_all, size_above, part_fits}
use Rattle.std.specs.List.{find, range_with_len}
use Rattle.std.specs.Option.{option_map}
use Rattle.std.specs.Prelude.{Result, Ok, Option, None, Some}
use Rattle.masks.specs.declared.outcome.Refusal.{Refusal}
use Rattle.masks.proofs.OutcomeLaws.{past, refused_first, refused_later, answer_one, unless_done, unless_ok}

-- ---- numbers from a place on

module _ (first : ℕ) (v : List Float) (n : ℕ) where
  -- what stands before the places past the numbers
  held : length (replicate first nought ++ v) ≡ first + length v
  held = simp (length-append, length-replicate)

  pub length_padded : first + length v ≤ n → length (padded first v n) ≡ n
  unfolding padded
  length_padded h = simp (length-append, length-replicate) (omega arith)

  pub padded_before : (k : ℕ) → k < first → get_or (padded first v n) k nan ≡ nought
  unfolding padded
  padded_before k l =
      get_or-append (replicate first nought ++ v) _ nan k (omega (arith, held))
      ∙ get_or-append (replicate first nought) v nan k (omega (arith, length-replicate first nought))
      ∙ get_or-replicate first k nought nan l

  pub padded_at : (k i : ℕ) → first + i ≡ k → i < length v → get_or (padded first v n) k nan ≡ get_or v i nan
  unfolding padded
  padded_at k i e l =
      get_or-append (replicate first nought ++ v) _ nan k (omega (arith, held))
      ∙ rw (← e) (get_d_past (replicate first nought) v first i nan (length-replicate first nought))

  -- the numbers over n places that are +0
  pub padded_over : (out : List Float) → first + length v ≤ n → n ≤ length out → sets (sets out 0 (replicate n nought)) first v ≡ laid (padded first v n) out
  unfolding padded
  padded_over out h l =
      let e : first + length v + (n - (first + length v)) ≡ n = omega arith in
      let z : replicate first nought ++ replicate (length v) nought ++ replicate (n - (first + length v)) nought ≡ replicate n nought =
      rw (replicate-append-replicate first, replicate-append-replicate (first + length v), e) in
      rw (sets_laid (replicate n nought) out (omega (arith, length-replicate n nought)), ← z)
      (laid_over (replicate first nought) (replicate (length v) nought) v _ out first (length-replicate first nought) (length-replicate (length v) nought))

-- ---- the sizes of the outer grades

pub lt_blades : (d : ℕ) → d < 2 ^ d
lt_blades zero = omega arith
lt_blades (suc d) = omega (arith, lt_blades d, pow-suc 2 d)

pub start_one : (d : ℕ) → start d 1 ≡ 1
unfolding start
start_one d = omega (arith, size_zero d)

pub size_one : (d : ℕ) → size d 1 ≡ d
unfolding size
size_one zero = refl
size_one (suc d) = omega (arith, size_zero d, size_one d)

pub size_last : (d : ℕ) → size d d ≡ 1
unfolding size
size_last zero = refl
size_last (suc d) = omega (arith, size_last d, size_above d (suc d) (omega arith))

before_last : (d : ℕ) → size (suc d) d ≡ suc d
unfolding size
before_last zero = refl
before_last (suc d) = omega (arith, before_last d, size_last (suc d))

pub size_before_last : (d : ℕ) → 0 < d → size d (d - 1) ≡ d
size_before_last zero h = absurd (not-suc-le-zero h)
size_before_last (suc d) h = let e : suc d - 1 ≡ d = omega arith in rw e (before_last d)

pub grade_fits : (d g n : ℕ) → g ≤ d → size d g ≡ n → start d g + n ≤ 2 ^ d
grade_fits d g n h e = omega (arith, part_fits d g h)

pub vector_fits : (d : ℕ) → start d 1 + d ≤ 2 ^ d
vector_fits d = omega (arith, start_one d, lt_blades d)

-- a value whose numbers stand at one grade has 2 ^ d coefficients
pub length_grade_set : (d g : ℕ) (v : List Float) → start d g + length v ≤ 2 ^ d → length (at_grade d g v) ≡ 2 ^ d
unfolding at_grade
length_grade_set d g v h = length_padded (start d g) v (2 ^ d) h

-- ---- the masks of one parity

module _ (odd : ℕ) where
  pub choose_has : (m : ℕ) (ms : List ℕ) → ones m % 2 ≡ odd → choose odd (m ∷ ms) ≡ m ∷ choose odd ms
  unfolding choose
  choose_has m ms e = rw (eq-eqb _ _ e)

  pub choose_lacks : (m : ℕ) (ms : List ℕ) → (ones m % 2 ≡ odd → ⊥) → choose odd (m ∷ ms) ≡ choose odd ms
  unfolding choose
  choose_lacks m ms e = rw (ne_eqb _ _ e)

  pub choose_append : (xs ys : List ℕ) → choose odd (xs ++ ys) ≡ choose odd xs ++ choose odd ys
  unfolding choose
  choose_append [] ys = refl
  choose_append (m ∷ xs) ys = go (of_parity odd m) (choose_append xs ys)
    where
      go : (b : Bool) → choose odd (xs ++ ys) ≡ choose odd xs ++ choose odd ys → cond b (m ∷ choose odd (xs ++ ys)) (choose odd (xs ++ ys)) ≡ cond b (m ∷ choose odd xs) (choose odd xs) ++ choose odd ys
      go true h = ap (λ l. m ∷ l) h
      go false h = h

-- the masks of a list, where each has g one bits, and g of one parity or not
abbrev pub AllOf : ℕ → List ℕ → Type 0
AllOf g ms = (k : ℕ) → k < length ms → ones (get_or ms k 0) ≡ g

module _ (odd g : ℕ) where
  choose_all : (ms : List ℕ) → g % 2 ≡ odd → AllOf g ms → choose odd ms ≡ ms
  unfolding choose
  choose_all [] e h = refl
  choose_all (m ∷ ms) e h =
      choose_has odd m ms (ap (λ x. x % 2) (h 0 (omega arith)) ∙ e) ∙ ap (λ l. m ∷ l) (choose_all ms e (λ k l. h (suc k) (omega arith)))

  choose_none : (ms : List ℕ) → (g % 2 ≡ odd → ⊥) → AllOf g ms → choose odd ms ≡ []
  unfolding choose
  choose_none [] e h = refl
  choose_none (m ∷ ms) e h =
      choose_lacks odd m ms (λ q. e (sym (ap (λ x. x % 2) (h 0 (omega arith))) ∙ q)) ∙ choose_none ms e (λ k l. h (suc k) (omega arith))

-- how many masks of one parity stand in the grades below g
unfoldable pub counted : ℕ → ℕ → ℕ → ℕ
counted odd d g = length (choose odd (grades_below d g))

pub all_grade : (d g : ℕ) → AllOf g (grade d g)
all_grade d g k l = (grade_at d g k (omega (arith, length_grade d g))).counted

module _ (odd d g : ℕ) where
  pub chosen_has : g % 2 ≡ odd → choose odd (grades_below d (suc g)) ≡ choose odd (grades_below d g) ++ grade d g
  unfolding grades_below
  chosen_has e =
      choose_append odd (grades_below d g) (grade d g) ∙ rw (choose_all odd g (grade d g) e (all_grade d g))

  pub chosen_lacks : (g % 2 ≡ odd → ⊥) → choose odd (grades_below d (suc g)) ≡ choose odd (grades_below d g)
  unfolding grades_below
  chosen_lacks e =
      choose_append odd (grades_below d g) (grade d g) ∙ rw (choose_none odd g (grade d g) e (all_grade d g), append-nil)

  pub counted_has : g % 2 ≡ odd → counted odd d (suc g) ≡ counted odd d g + size d g
  unfolding counted
  counted_has e = ap length (chosen_has e) ∙ simp (length-append, length_grade)

  pub counted_lacks : (g % 2 ≡ odd → ⊥) → counted odd d (suc g) ≡ counted odd d g
  unfolding counted
  counted_lacks e = ap length (chosen_lacks e)

pub counted_zero : (odd d : ℕ) → counted odd d 0 ≡ 0
unfolding counted grades_below choose
counted_zero odd d = refl

-- a grade of d + 1 dimensions is as large as two grades of d dimensions that follow one another
module _ (odd d : ℕ) (o : odd ≤ 1) where
  pub counted_step : (g : ℕ) → ((g % 2 ≡ odd → counted odd (suc d) (suc g) ≡ start d (suc g)) × ((g % 2 ≡ odd → ⊥) → counted odd (suc d) (suc g) ≡ start d g))
  unfolding start size
  counted_step zero =
      (λ e. omega (arith, counted_has odd (suc d) 0 e, counted_zero odd (suc d)), λ e. counted_lacks odd (suc d) 0 e ∙ counted_zero odd (suc d))
  counted_step (suc g) =
      (λ e. omega (arith, counted_has odd (suc d) (suc g) e, (counted_step g).1 (omega arith)), λ e. omega (arith, counted_lacks odd (suc d) (suc g) e, (counted_step g).0 (omega arith)))

  half : counted odd (suc d) (suc (suc d)) ≡ 2 ^ d
  unfolding start
  half =
      elim (ℕ_discrete (suc d % 2) odd) [
        | yes e ↦ omega (arith, (counted_step (suc d)).0 e, start_all d, size_above d (suc d) (omega arith))
        | no e ↦ (counted_step (suc d)).1 e ∙ start_all d
      ]

-- the number of a parity is 0 or 1
pub odd-le : (p : Parity) → odd_of p ≤ 1
odd-le Even = omega arith
odd-le Odd = omega arith

-- half of the masks have one parity
pub half_count : (odd d : ℕ) → odd ≤ 1 → 0 < d → length (choose odd (order d)) ≡ 2 ^ (d - 1)
unfolding counted order
half_count odd zero o h = absurd (not-suc-le-zero h)
half_count odd (suc d) o h = let e : suc d - 1 ≡ d = omega arith in half odd d o ∙ ap (λ x. 2 ^ x) (sym e)

pub half_twice : (odd d : ℕ) → odd ≤ 1 → 0 < d → 2 * length (choose odd (order d)) ≡ 2 ^ d
unfolding counted order
half_twice odd zero o h = absurd (not-suc-le-zero h)
half_twice odd (suc d) o h = omega (arith, half odd d o, pow-suc 2 d)

-- a half set has dimensions
pub half_some : (d n : ℕ) → 2 * n ≡ 2 ^ d → 0 < d
half_some zero n e = absurd (omega arith)
half_some (suc d) n e = omega arith

-- ---- numbers given to the masks of one parity

pub length_spread : (odd : ℕ) (ms : List ℕ) (v : List Float) → length (spread odd ms v) ≡ length ms
unfolding spread
length_spread odd [] v = refl
length_spread odd (m ∷ ms) [] = ap suc (length_spread odd ms [])
length_spread odd (m ∷ ms) (x ∷ v) = go (of_parity odd m) (length_spread odd ms v) (length_spread odd ms (x ∷ v))
  where
    go : (b : Bool) → length (spread odd ms v) ≡ length ms → length (spread odd ms (x ∷ v)) ≡ length ms → length (cond b (x ∷ spread odd ms v) (nought ∷ spread odd ms (x ∷ v))) ≡ suc (length ms)
    go true h g = ap suc h
    go false h g = ap suc g

-- a half set becomes 2 ^ d coefficients
pub length_half_set : (odd d : ℕ) (v : List Float) → length (spread odd (order d) v) ≡ 2 ^ d
length_half_set odd d v = length_spread odd (order d) v ∙ length_order d

module _ (odd m : ℕ) (ms : List ℕ) where
  pub spread_has : (x : Float) (v : List Float) → ones m % 2 ≡ odd → spread odd (m ∷ ms) (x ∷ v) ≡ x ∷ spread odd ms v
  unfolding spread
  spread_has x v e = rw (eq-eqb _ _ e)

  pub spread_lacks : (v : List Float) → (ones m % 2 ≡ odd → ⊥) → spread odd (m ∷ ms) v ≡ nought ∷ spread odd ms v
  unfolding spread
  spread_lacks [] e = refl
  spread_lacks (x ∷ v) e = rw (ne_eqb _ _ e)

-- ---- packings

-- what a packing says of n numbers in d dimensions
abbrev pub Packs : Option Packing → ℕ → ℕ → Type 0
Packs (Some Full) d n = n ≡ 2 ^ d
Packs (Some Half) d n = 2 * n ≡ 2 ^ d
Packs (Some (Grade g)) d n = (g ≤ d) × (size d g ≡ n)
Packs None d n = Unit {0}

module _ (d n : ℕ) where
  first_fits : (k g : ℕ) → g + k ≤ d + 1 → Packs (first_grade d n k g) d n
  unfolding first_grade
  first_fits zero g h = tt
  first_fits (suc k) g h = go (eqb (size d g) n) (eqb-true (size d g) n) (first_fits k (g + 1) (omega arith))
    where
      go : (b : Bool) → (b ≡ true → size d g ≡ n) → Packs (first_grade d n k (g + 1)) d n → Packs (cond b (Some (Grade g)) (first_grade d n k (g + 1))) d n
      go true e f = (omega arith, e refl)
      go false e f = f

  side : (odd : ℕ) → side_start odd d + (side_end odd d - side_start odd d) ≤ d + 1
  side zero = omega arith
  side (suc odd) = omega arith

  pub packing_fits : (odd : ℕ) → Packs (packing odd d n) d n
  unfolding packing
  packing_fits odd = go (eqb n (2 ^ d)) (eqb-true n (2 ^ d)) (eqb (2 * n) (2 ^ d)) (eqb-true (2 * n) (2 ^ d))
    where
      one : Option Packing
      one = first_grade d n (side_end odd d - side_start odd d) (side_start odd d)

      go : (b : Bool) → (b ≡ true → n ≡ 2 ^ d) → (c : Bool) → (c ≡ true → 2 * n ≡ 2 ^ d) → Packs (cond b (Some Full) (cond c (Some Half) one)) d n
      go true e c f = e refl
      go false e true f = f refl
      go false e false f = first_fits (side_end odd d - side_start odd d) (side_start odd d) (side odd)

-- the grade that is found is the first of its size among the k grades from g on
pub record First (d n k g h : ℕ) : Type 0 where
  pub from : g ≤ h
  pub within : h < g + k
  pub sized : size d h ≡ n
  pub first : (j : ℕ) → g ≤ j → j < h → size d j ≡ n → ⊥

pub first_is : (d n k g h : ℕ) → first_grade d n k g ≡ Some (Grade h) → First d n k g h
unfolding first_grade
first_is d n zero g h e = absurd (let z : ◌≡◌ {A = ℕ} 0 1 = cc in omega arith)
first_is d n (suc k) g h e = go (eqb (size d g) n) (eqb-true (size d g) n) (eqb-false (size d g) n) e (first_is d n k (g + 1) h)
  where
    go : (b : Bool) → (b ≡ true → size d g ≡ n) → (b ≡ false → size d g ≡ n → ⊥) → cond b (Some (Grade g)) (first_grade d n k (g + 1)) ≡ Some (Grade h) → (first_grade d n k (g + 1) ≡ Some (Grade h) → First d n k (g + 1) h) → First d n (suc k) g h
    go true y z q f =
        let w : g ≡ h = cc in
        record { from = omega arith; within = omega arith; sized = ap (size d) (sym w) ∙ y refl; first = λ j l m s. omega arith }
    go false y z q f =
        let r = f q in
        record {
          from = omega arith;
          within = omega arith;
          sized = r.sized;
          first = λ j l m s.
              elim (ℕ_discrete g j) [ yes w ↦ z refl (ap (size d) w ∙ s) | no w ↦ r.first j (omega arith) m s ];
        }

-- the first of a range of grades that has n numbers
pub grade_found : (d n k g : ℕ) → option_map (λ h. Grade h) (find (λ h. eqb (size d h) n) (range_with_len g k)) ≡ first_grade d n k g
unfolding first_grade
grade_found d n zero g = refl
grade_found d n (suc k) g = go (eqb (size d g) n) (grade_found d n k (g + 1))
  where
    go : (b : Bool) → option_map (λ h. Grade h) (find (λ h. eqb (size d h) n) (range_with_len (g + 1) k)) ≡ first_grade d n k (g + 1) → option_map (λ h. Grade h) (cond b (Some g) (find (λ h. eqb (size d h) n) (range_with_len (g + 1) k))) ≡ cond b (Some (Grade g)) (first_grade d n k (g + 1))
    go true e = refl
    go false e = e

module _ (odd d n : ℕ) where
  pub packing_full : n ≡ 2 ^ d → packing odd d n ≡ Some Full
  unfolding packing
  packing_full e = rw (eq-eqb n (2 ^ d) e)

  pub packing_half : (n ≡ 2 ^ d → ⊥) → 2 * n ≡ 2 ^ d → packing odd d n ≡ Some Half
  unfolding packing
  packing_half e h = rw (ne_eqb n (2 ^ d) e, eq-eqb (2 * n) (2 ^ d) h)

  packing_one : (n ≡ 2 ^ d → ⊥) → (2 * n ≡ 2 ^ d → ⊥) → packing odd d n ≡ first_grade d n (side_end odd d - side_start odd d) (side_start odd d)
  unfolding packing
  packing_one e h = rw (ne_eqb n (2 ^ d) e, ne_eqb (2 * n) (2 ^ d) h)

-- where it is one grade, the first of that size on its side
pub packing_first : (odd d n h : ℕ) → packing odd d n ≡ Some (Grade h) → First d n (side_end odd d - side_start odd d) (side_start odd d) h
unfolding packing
packing_first odd d n h e = go (eqb n (2 ^ d)) (eqb (2 * n) (2 ^ d)) e
  where
    k : ℕ
    k = side_end odd d - side_start odd d

    go : (b c : Bool) → cond b (Some Full) (cond c (Some Half) (first_grade d n k (side_start odd d))) ≡ Some (Grade h) → First d n k (side_start odd d) h
    go true c q = absurd (let z : ◌≡◌ {A = ℕ} 0 1 = cc in omega arith)
    go false true q = absurd (let z : ◌≡◌ {A = ℕ} 0 1 = cc in omega arith)
    go false false q = first_is d n k (side_start odd d) h q

-- past both tests it is the first grade of the side
module _ (d n : ℕ) (f : n ≡ 2 ^ d → ⊥) (h : 2 * n ≡ 2 ^ d → ⊥) where
  pub packing_even : packing 0 d n ≡ first_grade d n ((d + 2) / 2 - 0) 0
  packing_even = packing_one 0 d n f h

  pub packing_odd : packing 1 d n ≡ first_grade d n (d + 1 - (d + 1) / 2) ((d + 1) / 2)
  packing_odd = packing_one 1 d n f h

-- ---- refusals

module _ (d room : ℕ) where
  pub built_wide : 9 < d → refusal (built_tests d room) ≡ 1
  built_wide h = refused_first (too_many d) _ (lt-ltb 9 d h)

  pub built_short : d ≤ 9 → room < 2 ^ d → refusal (built_tests d room) ≡ 3
  built_short h l = refused_later (too_many d) _ (le-ltb 9 d h) ∙ refused_first (no_room room (2 ^ d)) _ (lt-ltb _ _ l)

  pub built_done : d ≤ 9 → 2 ^ d ≤ room → refusal (built_tests d room) ≡ 0
  unfolding refusal
  built_done h l = rw (le-ltb 9 d h, le-ltb room (2 ^ d) l)

pub built_taken : (d room : ℕ) → refusal (built_tests d room) ≡ 0 → (d ≤ 9) × (2 ^ d ≤ room)
built_taken d room e =
    let p = past (too_many d) _ (λ q. omega arith) e in
    let q = past (no_room room (2 ^ d)) _ (λ q. omega arith) p.1 in
    (ltb-false _ _ p.0, ltb-false _ _ q.0)

-- where the call is not refused, the order's masks are written
pub put_order_done : {d : ℕ} {r : Result (Unit {0}) Refusal} {before after : List ℕ} → GivesOrder d r before after → d ≤ 9 → 2 ^ d ≤ length before → (r ≡ Ok tt) × (after ≡ laid (order d) before)
put_order_done {d = d} {r = r} {before = before} g h l =
    let e = built_done d (length before) h l in
    (answer_one _ tt r (Ok tt) g.answered (e, refl), g.left ∙ ap (λ (xs : List ℕ). laid xs before) (unless_ok (λ _. []) _ (order d) e))

-- the numbers of the grade below the last are at least 2
module _ (n room : ℕ) where
  pub few : n < 2 → refusal (n_1_tests n room) ≡ 2
  unfolding refusal
  few l = rw (le-ltb 9 n (omega arith), lt-ltb n 2 l)

  pub enough : 2 ≤ n → refusal (built_tests n room) ≡ refusal (n_1_tests n room)
  unfolding refusal
  enough l = rw (le-ltb n 2 l)

module _ (d : ℕ) (p : Option Packing) (room : ℕ) where
  pub pack_wide : 9 < d → refusal (packed_tests d p room) ≡ 1
  pack_wide h = refused_first (too_many d) _ (lt-ltb 9 d h)

  module _ (h : d ≤ 9) where
    pub pack_none : unpacked p ≡ true → refusal (packed_tests d p room) ≡ 2
    unfolding refusal
    pack_none e = rw (le-ltb 9 d h, e)

    pub pack_short : unpacked p ≡ false → room < 2 ^ d → refusal (packed_tests d p room) ≡ 3
    unfolding refusal
    pack_short e l = rw (le-ltb 9 d h, e, lt-ltb room (2 ^ d) l)

    pub pack_done : unpacked p ≡ false → 2 ^ d ≤ room → refusal (packed_tests d p room) ≡ 0
    unfolding refusal
    pack_done e l = rw (le-ltb 9 d h, e, le-ltb room (2 ^ d) l)

-- ---- what a call that is not refused gives

pub one_built : (n g : ℕ) (v : List Float) (f : Flavor) (room : ℕ) → n ≤ 9 → 2 ^ n ≤ room → one_grade n g v f room ≡ value (shape_of n f) (at_grade n g v)
unfolding one_grade
one_built n g v f room h l = unless_done refused_value _ 0 _ (sym (built_done n room h l)) refl

pub n1_one : (v : List Float) (f : Flavor) (room : ℕ) → 2 ≤ length v → n_1_blades v f room ≡ one_grade (length v) (length v - 1) v f room
unfolding n_1_blades one_grade
n1_one v f room m = rw (enough (length v) room m)

module _ (odd d : ℕ) (v : List Float) (f : Flavor) (room : ℕ) (h : d ≤ 9) (l : 2 ^ d ≤ room) where
  packed_built : (p : Option Packing) → packing odd d (length v) ≡ p → unpacked p ≡ false → blades_of_side odd d v f room ≡ packed p odd d v f
  unfolding blades_of_side
  packed_built p e u = rw e (unless_done refused_value _ 0 _ (sym (pack_done d p room h u l)) refl)

  -- a full set is taken as it stands and becomes Vanilla
  pub full_built : length v ≡ 2 ^ d → blades_of_side odd d v f room ≡ value (shape_of d Vanilla) v
  full_built e = packed_built (Some Full) (packing_full odd d (length v) e) refl

  pub half_built : 2 * length v ≡ 2 ^ d → blades_of_side odd d v f room ≡ value (shape_of d f) (spread odd (order d) v)
  half_built e =
      packed_built (Some Half) (packing_half odd d (length v) (λ q. omega (arith, pow_pos d)) e) refl

  pub grade_built : (g : ℕ) → packing odd d (length v) ≡ Some (Grade g) → blades_of_side odd d v f room ≡ value (shape_of d f) (at_grade d g v)
  grade_built g e = packed_built (Some (Grade g)) e refl
