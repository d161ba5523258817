-- The order grade by grade: a grade as a part of a value, in a promotion, and among the masks of one parity. Assumes nothing.
use mathlib.Core.Path.{◌≡◌, refl, sym, ap, ap₂, ◌∙◌}
use mathlib.Core.Bool.{Bool, true, false, cond}
use mathlib.Core.Logic.{⊎_elim}
use mathlib.Core.List.{List, [], ◌∷◌, ◌++◌, map, map-append}
use Prim.Native.Nat.{ℕ, zero, suc, ◌+◌, ◌%◌, ◌^◌, ◌≤◌, ◌<◌}
use native.Mathlib.Nat.{pow-suc, le_of_suc-le-suc, not-suc-le-zero}
use native.Mathlib.Decide.{ℕ_discrete}
use native.Mathlib.Numerals.{add-one}
use native.Mathlib.Omega.{arith}
use lib.Ieee.{Float, nan}
use lib.ListN.{length, get_or, set, take, drop, replicate, length-take, length-drop, length-set, length-map, length-replicate}
use lib.Pow.{pow_pos}
use lib.Seq.{length-take-le, take_all, take-suc, drop-nil, drop-set-lt, get_or-take, get_or-drop, set-set, ext_get_or, sets}
use Rattle.masks.specs.Order.{with_bit0, without_bit0, grade, grades_below, order, size, start}
use Rattle.masks.specs.Outcome.{laid, nought}
use Rattle.masks.specs.Shape.{coef, promoted_coef, promoted}
use Rattle.masks.specs.Build.{of_parity, spread}
use Rattle.masks.specs.Unpack.{choose}
use Rattle.masks.proofs.ListLaws.{split, sets_append, sets_laid, laid_more}
use Rattle.masks.proofs.OrderLaws.{length_grade, length_below, length_order, size_zero, size_above, start_all, part_fits, order_grade}
use Rattle.masks.proofs.ShapeLaws.{promoted_length, raised_even, raised_odd}
use Rattle.masks.proofs.BuildLaws.{AllOf, all_grade, chosen_has, chosen_lacks, counted, counted_zero, counted_has, counted_lacks, counted_step, half_twice, length_spread, spread_has, spread_lacks}
use Rattle.masks.proofs.UnpackLaws.{part_read}

-- ---- a grade as a part

-- A grade ends within the order; after the last one nothing is left.
pub part_within : (d g : ℕ) → g ≤ d + 1 → start d g + size d g ≤ 2 ^ d
part_within d g h =
    ⊎_elim
    (λ (l : d < g). let e : g ≡ suc d = omega arith in omega (arith, ap (start d) e, start_all d, size_above d g l))
    (λ (l : g ≤ d). part_fits d g l) (split d g)

pub below_within : (d g : ℕ) → g ≤ d + 1 → length (grades_below d g) ≤ 2 ^ d
below_within d g h = omega (arith, length_below d g, part_within d g h)

grade_taken : (d g : ℕ) → take (size d g) (drop (start d g) (order d)) ≡ grade d g
grade_taken d g =
    ⊎_elim
    (λ (h : d < g).
    let z = size_above d g h in
    rw z (take_all 0 (grade d g) (omega (arith, length_grade d g))))
    (λ (h : g ≤ d).
    let n : length (take (size d g) (drop (start d g) (order d))) ≡ size d g =
    length-take-le (size d g) (drop (start d g) (order d)) (omega (arith, length-drop (start d g) (order d), length_order d, part_fits d g h)) in
    ext_get_or 0 (take (size d g) (drop (start d g) (order d))) (grade d g) (n ∙ sym (length_grade d g))
    (λ i l.
    let b : i < size d g = omega arith in
    get_or-take (size d g) (drop (start d g) (order d)) i 0 b ∙ get_or-drop (start d g) (order d) i 0 ∙ order_grade d g i h b))
    (split d g)

-- the numbers of a grade are a part of the value's
pub grade_part_lem : (d g : ℕ) (a : List Float) → length a ≡ 2 ^ d → map (coef d a) (grade d g) ≡ take (size d g) (drop (start d g) a)
grade_part_lem d g a e = ap (map (coef d a)) (sym (grade_taken d g)) ∙ part_read d (start d g) (size d g) a e

-- ---- a promotion

pub size_both : (d g : ℕ) → size (d + 1) (g + 1) ≡ size d g + size d (g + 1)
unfolding size
size_both d g = rw (add-one d, add-one g)

module _ (d : ℕ) (a : List Float) where
  -- masks that have bit 0, and masks that have it clear
  with_bit : (ms : List ℕ) → map (promoted_coef d a) (map with_bit0 ms) ≡ replicate (length ms) nought
  with_bit [] = refl
  with_bit (m ∷ ms) = ap₂ ◌∷◌ (raised_odd d m a) (with_bit ms)

  without_bit : (ms : List ℕ) → map (promoted_coef d a) (map without_bit0 ms) ≡ map (coef d a) ms
  without_bit [] = refl
  without_bit (m ∷ ms) = ap₂ ◌∷◌ (raised_even d m a) (without_bit ms)

  module _ (e : length a ≡ 2 ^ d) where
    promoted_grade : (g : ℕ) → map (promoted_coef d a) (grade (suc d) (suc g)) ≡ replicate (size d g) nought ++ take (size d (suc g)) (drop (start d (suc g)) a)
    unfolding grade
    promoted_grade g =
        map-append (promoted_coef d a) (map with_bit0 (grade d g)) (map without_bit0 (grade d (suc g)))
        ∙ ap₂ ◌++◌ (with_bit (grade d g) ∙ ap (λ n. replicate n nought) (length_grade d g)) (without_bit (grade d (suc g)) ∙ grade_part_lem d (suc g) a e)

    promoted_first : map (promoted_coef d a) (grades_below (d + 1) 1) ≡ get_or a 0 nan ∷ []
    unfolding grades_below grade start
    promoted_first =
        rw (add-one d)
        (without_bit (grade d 0) ∙ grade_part_lem d 0 a e ∙ rw (size_zero d) (take-suc a 0 nan (omega (arith, pow_pos d))))

    -- grade 0 written
    pub promoted_begun : (out : List Float) → 0 < length out → set out 0 (get_or a 0 nan) ≡ laid (map (promoted_coef d a) (grades_below (d + 1) 1)) (set out 0 (get_or a 0 nan))
    promoted_begun out h =
        rw promoted_first
        (sym (set-set out 0 (get_or a 0 nan) (get_or a 0 nan)) ∙ sets_laid (get_or a 0 nan ∷ []) (set out 0 (get_or a 0 nan)) (omega (arith, length-set out 0 (get_or a 0 nan))))

    -- the next grade written
    pub promoted_next : {below i k count : ℕ} (g : ℕ) (out : List Float) → below ≡ size d g → i ≡ start d (g + 1) → k ≡ start (d + 1) (g + 1) → count ≡ size d (g + 1) → g ≤ d → 2 ^ (d + 1) ≤ length out → sets (sets (laid (map (promoted_coef d a) (grades_below (d + 1) (g + 1))) out) k (replicate below nought)) (k + below) (take count (drop i a)) ≡ laid (map (promoted_coef d a) (grades_below (d + 1) (g + 1 + 1))) out
    unfolding grades_below
    promoted_next g out eb ei ek ec h r =
        let n : ℕ = start (suc d) (suc g) in
        let f : ℕ → Float = promoted_coef d a in
        let zs : List Float = replicate (size d g) nought in
        let ts : List Float = take (size d (suc g)) (drop (start d (suc g)) a) in
        let xs : List Float = map f (grades_below (suc d) (suc g)) in
        rw (eb, ei, ek, ec, add-one d, add-one g, add-one (suc g))
        (ap (λ (k : ℕ). sets (sets (laid xs out) n zs) (n + k) ts) (sym (length-replicate (size d g) nought)) ∙ sym (sets_append zs ts (laid xs out) n)
        ∙ laid_more xs (zs ++ ts) (map f (grades_below (suc d) (suc (suc g)))) out n (length-map (grades_below (suc d) (suc g)) f ∙ length_below (suc d) (suc g))
        (sym (map-append f (grades_below (suc d) (suc g)) (grade (suc d) (suc g)) ∙ ap (λ l. xs ++ l) (promoted_grade g)))
        (omega (arith, part_within (suc d) (suc g) (omega arith), length_grade (suc d) (suc g), length-map (grade (suc d) (suc g)) f, ap length (promoted_grade g), ap (λ (k : ℕ). 2 ^ k) (add-one d))))

  -- all grades written, over what grade 0 was written into
  pub promoted_all : (g : ℕ) (out : List Float) (x : Float) → g ≡ d + 1 → laid (map (promoted_coef d a) (grades_below (d + 1) (g + 1))) (set out 0 x) ≡ laid (promoted 1 d a) out
  unfolding promoted order
  promoted_all g out x e =
      rw (e, add-one (d + 1))
      (ap (λ l. promoted 1 d a ++ l) (drop-set-lt (length (promoted 1 d a)) out 0 x (omega (arith, promoted_length d a, pow_pos (d + 1)))))

-- ---- the masks of one parity

-- those of the grades below g are among those of all
pub counted_within : (odd d g : ℕ) → odd ≤ 1 → 0 < d → g ≤ d + 1 → counted odd d g ≤ length (choose odd (order d))
unfolding start
counted_within odd zero g o z h = absurd (not-suc-le-zero z)
counted_within odd (suc d) zero o z h = omega (arith, counted_zero odd (suc d))
counted_within odd (suc d) (suc g) o z h =
    let p = part_within d g (omega arith) in
    let t = half_twice odd (suc d) o z in
    elim (ℕ_discrete (g % 2) odd) [
      | yes e ↦ omega (arith, (counted_step odd d o g).0 e, pow-suc 2 d)
      | no e ↦ omega (arith, (counted_step odd d o g).1 e, pow-suc 2 d)
    ]

module _ (odd d g : ℕ) where
  pub counted_more : g % 2 ≡ odd → counted odd d (g + 1) ≡ counted odd d g + size d g
  counted_more e = rw (add-one g) (counted_has odd d g e)

  pub counted_same : (g % 2 ≡ odd → ⊥) → counted odd d (g + 1) ≡ counted odd d g
  counted_same e = rw (add-one g) (counted_lacks odd d g e)

  pub taken_length : (a : List Float) → length (map (coef d a) (choose odd (grades_below d g))) ≡ counted odd d g
  unfolding counted
  taken_length a = length-map (choose odd (grades_below d g)) (coef d a)

  -- a grade of that parity read, and one of the other passed
  pub taken_more : (a out : List Float) → length a ≡ 2 ^ d → g % 2 ≡ odd → counted odd d g + size d g ≤ length out → sets (laid (map (coef d a) (choose odd (grades_below d g))) out) (counted odd d g) (take (size d g) (drop (start d g) a)) ≡ laid (map (coef d a) (choose odd (grades_below d (g + 1)))) out
  taken_more a out e p r =
      let xs : List Float = map (coef d a) (choose odd (grades_below d g)) in
      rw (add-one g)
      (laid_more xs (take (size d g) (drop (start d g) a)) _ out (counted odd d g) (taken_length a)
      (sym (ap (map (coef d a)) (chosen_has odd d g p) ∙ map-append (coef d a) (choose odd (grades_below d g)) (grade d g) ∙ ap (λ l. xs ++ l) (grade_part_lem d g a e)))
      (omega (arith, length-take (size d g) (drop (start d g) a))))

  pub taken_same : (a out : List Float) → (g % 2 ≡ odd → ⊥) → laid (map (coef d a) (choose odd (grades_below d g))) out ≡ laid (map (coef d a) (choose odd (grades_below d (g + 1)))) out
  taken_same a out p = rw (add-one g, chosen_lacks odd d g p)

-- ---- numbers given to the masks of one parity

module _ (odd : ℕ) where
  spread_append : (xs ys : List ℕ) (v : List Float) → spread odd (xs ++ ys) v ≡ spread odd xs v ++ spread odd ys (drop (length (choose odd xs)) v)
  unfolding spread choose
  spread_append [] ys v = refl
  spread_append (m ∷ xs) ys [] =
      ap (λ l. nought ∷ l)
      (spread_append xs ys [] ∙ ap (λ w. spread odd xs [] ++ spread odd ys w) (drop-nil (length (choose odd xs)) ∙ sym (drop-nil (length (choose odd (m ∷ xs))))))
  spread_append (m ∷ xs) ys (x ∷ v) = go (of_parity odd m) (spread_append xs ys v) (spread_append xs ys (x ∷ v))
    where
      go : (b : Bool) → spread odd (xs ++ ys) v ≡ spread odd xs v ++ spread odd ys (drop (length (choose odd xs)) v) → spread odd (xs ++ ys) (x ∷ v) ≡ spread odd xs (x ∷ v) ++ spread odd ys (drop (length (choose odd xs)) (x ∷ v)) → cond b (x ∷ spread odd (xs ++ ys) v) (nought ∷ spread odd (xs ++ ys) (x ∷ v)) ≡ cond b (x ∷ spread odd xs v) (nought ∷ spread odd xs (x ∷ v)) ++ spread odd ys (drop (length (cond b (m ∷ choose odd xs) (choose odd xs))) (x ∷ v))
      go true p q = ap (λ l. x ∷ l) p
      go false p q = ap (λ l. nought ∷ l) q

  -- masks that are all of that parity, and masks of which none is
  module _ (g : ℕ) where
    spread_all : (ms : List ℕ) (v : List Float) → g % 2 ≡ odd → AllOf g ms → length ms ≤ length v → spread odd ms v ≡ take (length ms) v
    unfolding spread
    spread_all [] v e h l = refl
    spread_all (m ∷ ms) [] e h l = absurd (not-suc-le-zero l)
    spread_all (m ∷ ms) (x ∷ v) e h l =
        spread_has odd m ms x v (ap (λ n. n % 2) (h 0 (omega arith)) ∙ e)
        ∙ ap (λ t. x ∷ t) (spread_all ms v e (λ k i. h (suc k) (omega arith)) (le_of_suc-le-suc l))

    spread_none : (ms : List ℕ) (v : List Float) → (g % 2 ≡ odd → ⊥) → AllOf g ms → spread odd ms v ≡ replicate (length ms) nought
    unfolding spread
    spread_none [] v e h = refl
    spread_none (m ∷ ms) v e h =
        spread_lacks odd m ms v (λ q. e (sym (ap (λ n. n % 2) (h 0 (omega arith))) ∙ q))
        ∙ ap (λ t. nought ∷ t) (spread_none ms v e (λ k i. h (suc k) (omega arith)))

module _ (odd d g : ℕ) (v out : List Float) where
  -- the next grade laid, where ys has its numbers
  spread_laid : (ys : List Float) → spread odd (grade d g) (drop (counted odd d g) v) ≡ ys → g ≤ d → 2 ^ d ≤ length out → sets (laid (spread odd (grades_below d g) v) out) (start d g) ys ≡ laid (spread odd (grades_below d (g + 1)) v) out
  unfolding grades_below counted
  spread_laid ys e h r =
      rw (add-one g)
      (laid_more (spread odd (grades_below d g) v) ys _ out (start d g) (length_spread odd (grades_below d g) v ∙ length_below d g)
      (sym (spread_append odd (grades_below d g) (grade d g) v ∙ ap (λ l. spread odd (grades_below d g) v ++ l) e))
      (omega (arith, part_fits d g h, ap length e, length_spread odd (grade d g) (drop (counted odd d g) v), length_grade d g)))

  -- a grade of that parity takes numbers, and one of the other is +0
  pub spread_more : g % 2 ≡ odd → counted odd d g + size d g ≤ length v → g ≤ d → 2 ^ d ≤ length out → sets (laid (spread odd (grades_below d g) v) out) (start d g) (take (size d g) (drop (counted odd d g) v)) ≡ laid (spread odd (grades_below d (g + 1)) v) out
  spread_more p l =
      spread_laid (take (size d g) (drop (counted odd d g) v))
      (spread_all odd g (grade d g) (drop (counted odd d g) v) p (all_grade d g) (omega (arith, length-drop (counted odd d g) v, length_grade d g)) ∙ rw (length_grade d g))

  pub spread_zeros : (g % 2 ≡ odd → ⊥) → g ≤ d → 2 ^ d ≤ length out → sets (laid (spread odd (grades_below d g) v) out) (start d g) (replicate (size d g) nought) ≡ laid (spread odd (grades_below d (g + 1)) v) out
  spread_zeros p =
      spread_laid (replicate (size d g) nought)
      (spread_none odd g (grade d g) (drop (counted odd d g) v) p (all_grade d g) ∙ rw (length_grade d g))
