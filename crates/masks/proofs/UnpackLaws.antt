-- What unpacking reads: the masks that are chosen, and their coefficients; and that what was built is read back. Assumes nothing.
use mathlib.Core.Path.{◌≡◌, refl, sym, ap, ◌∙◌, subst}
use mathlib.Core.Bool.{Bool, true, false, cond}
use mathlib.Core.List.{List, [], ◌∷◌, map, append_assoc}
use Prim.Native.Nat.{ℕ, zero, suc, ◌+◌, ◌-◌, ◌*◌, ◌%◌, ◌^◌, ◌≤◌, ◌<◌}
use native.Mathlib.Omega.{arith}
use native.Mathlib.Decide.{ℕ_discrete}
use borrow.Author.Tests.{eq-eqb, ne_eqb, le-ltb}
use lib.Count.{ones, ones_in, ones-ones}
use lib.Ieee.{Float, nan}
use lib.ListN.{length, get_or, take, drop, length-take, length-drop, length-map, replicate, length-replicate}
use lib.Seq.{length-take-le, drop_at, take_at, sets}
use lib.Pow.{pow_pos, ones_lt}
use Rattle.masks.specs.declared.shape.Shape.{Shape}
use Rattle.masks.specs.declared.flavor.Flavor.{Flavor}
use Rattle.masks.specs.declared.flavor.Flavor.TheVariants.{Vanilla}
use Rattle.masks.specs.declared.build.Packing.TheVariants.{Grade}
use Rattle.std.specs.Prelude.{Some}
use Rattle.masks.specs.Order.{grade, grades_below, order, size, start, index_of, place}
use Rattle.masks.specs.Outcome.{Outcome, shape_of, refusal, result_tests, unless, laid, refused_list, listed, nought}
use Rattle.masks.specs.Flavor.{added_dims}
use Rattle.masks.specs.Shape.{coef}
use Rattle.masks.specs.Blade.{get_blade, grade_refusal, grade_part}
use Rattle.masks.specs.Build.{padded, at_grade, one_grade, vector, n_1_blades, scalar, pseudoscalar, packing, of_parity, spread, blades_of_side}
use Rattle.masks.specs.Unpack.{choose, half_masks, unpack_all, half_of, unpack_half, unpack_own_half, unpack_vector}
use Rattle.masks.proofs.ListLaws.{take_laid, sets_laid}
use Rattle.masks.proofs.OrderLaws.{length_order, size_zero, rank, grade_has, place_ranked, place_lt, order_place, order_at}
use Rattle.masks.proofs.OutcomeLaws.{unless_done, passes}
use Rattle.masks.proofs.ShapeLaws.{coef_inside, coef_outside, ordered_length, ordered_at, ordered}
use Rattle.masks.proofs.BladeLaws.{get_blade_done}
use Rattle.masks.proofs.BuildLaws.{padded_at, lt_blades, start_one, size_one, size_last, size_before_last, grade_fits, vector_fits, length_grade_set, choose_has, choose_lacks, half_count, half_twice, half_some, length_half_set, spread_has, spread_lacks, Packs, packing_fits, one_built, n1_one, full_built, half_built, grade_built}

-- ---- half of the blades

module _ (odd lone d : ℕ) where
  pub lone_mask : d ≡ 0 → half_masks odd lone d ≡ lone ∷ []
  unfolding half_masks
  lone_mask e = rw (eq-eqb d 0 e)

  pub half_masks_lem : (d ≡ 0 → ⊥) → half_masks odd lone d ≡ choose odd (order d)
  unfolding half_masks
  half_masks_lem e = rw (ne_eqb d 0 e)

-- half of the masks, and one where there are no dimensions
pub length_half : (odd lone d : ℕ) → odd ≤ 1 → length (half_masks odd lone d) ≡ 2 ^ (d - 1)
unfolding half_masks
length_half odd lone zero o = refl
length_half odd lone (suc d) o =
    ap length (half_masks_lem odd lone (suc d) (λ e. omega arith)) ∙ half_count odd (suc d) o (omega arith)

-- functions that agree at each mask of a list agree at those that are chosen of it
chosen_same : (f g : ℕ → Float) (odd : ℕ) (ms : List ℕ) → ((k : ℕ) → k < length ms → f (get_or ms k 0) ≡ g (get_or ms k 0)) → map f (choose odd ms) ≡ map g (choose odd ms)
unfolding choose
chosen_same f g odd [] h = refl
chosen_same f g odd (m ∷ ms) h =
    go (of_parity odd m) (h 0 (omega arith)) (chosen_same f g odd ms (λ k l. h (suc k) (omega arith)))
  where
    go : (b : Bool) → f m ≡ g m → map f (choose odd ms) ≡ map g (choose odd ms) → map f (cond b (m ∷ choose odd ms) (choose odd ms)) ≡ map g (cond b (m ∷ choose odd ms) (choose odd ms))
    go true p q = rw (p, q)
    go false p q = q

-- half of what was read into a buffer is that half of the value
pub half_held : (odd dims d count : ℕ) (a held buf : List Float) → count ≡ 2 ^ d → held ≡ laid (map (coef dims a) (order d)) buf → map (coef d (take count held)) (choose odd (order d)) ≡ map (coef dims a) (choose odd (order d))
half_held odd dims d count a held buf c e =
    rw (e, c, take_laid (2 ^ d) (map (coef dims a) (order d)) buf (ordered_length (coef dims a) d))
    (chosen_same (coef d (map (coef dims a) (order d))) (coef dims a) odd (order d)
    (λ k l. ordered_at (coef dims a) d (get_or (order d) k 0) (order_at d k (omega (arith, length_order d))).low))

-- ---- what the code answers

pub counts : (n : ℕ) (f : ℕ → Float) (ms : List ℕ) → n ≡ length ms → n ≡ length (map f ms)
counts n f ms e = rw (length-map ms f, e)

-- the masks of grade 1 are as many as the dimensions
pub vector_length : (d : ℕ) → length (take d (drop 1 (order d))) ≡ d
vector_length d =
    length-take-le d (drop 1 (order d)) (omega (arith, length_order d, lt_blades d, length-drop 1 (order d)))

-- ---- what a call that is not refused gives

module _ (s : Shape) (a : List Float) (h : s.dims ≤ 9) (e : length a ≡ 2 ^ s.dims) where
  accepted : (d room needed : ℕ) → d ≤ 9 → needed ≤ room → refusal (result_tests s.dims d (length a) room needed) ≡ 0
  accepted d room needed l m =
      passes s.dims d (length a) room needed (record { small = h; result = l; counted = e; roomy = m })

  pub all_unpacked : (d room : ℕ) → d ≤ 9 → 2 ^ d ≤ room → unpack_all s d a room ≡ listed (map (coef s.dims a) (order d))
  unfolding unpack_all
  all_unpacked d room l m = unless_done refused_list _ 0 _ (sym (accepted d room (2 ^ d) l m)) refl

  pub half_unpacked : (odd lone d room : ℕ) → d ≤ 9 → 2 ^ (d - 1) ≤ room → half_of odd lone s.dims d a room ≡ listed (map (coef s.dims a) (half_masks odd lone d))
  unfolding half_of
  half_unpacked odd lone d room l m = unless_done refused_list _ 0 _ (sym (accepted d room (2 ^ (d - 1)) l m)) refl

  pub vector_unpacked : (room : ℕ) → s.dims ≤ room → unpack_vector s a room ≡ listed (map (coef s.dims a) (take s.dims (drop 1 (order s.dims))))
  unfolding unpack_vector
  vector_unpacked room m = unless_done refused_list _ 0 _ (sym (accepted s.dims room s.dims h m)) refl

  pub part_taken : (g : ℕ) → g ≤ s.dims → grade_part s g a ≡ take (size s.dims g) (drop (start s.dims g) a)
  unfolding grade_part grade_refusal refusal unless
  part_taken g l = rw (le-ltb 9 s.dims h, eq-eqb (length a) (2 ^ s.dims) e, le-ltb s.dims g l)

-- ---- what was built is read back: coefficients

module _ {ℓ κ} {A : Type ℓ} {B : Type κ} (f : A → B) where
  map_take : (n : ℕ) (l : List A) → map f (take n l) ≡ take n (map f l)
  map_take zero l = refl
  map_take (suc n) [] = refl
  map_take (suc n) (x ∷ l) = ap (λ t. f x ∷ t) (map_take n l)

  map_drop : (n : ℕ) (l : List A) → map f (drop n l) ≡ drop n (map f l)
  map_drop zero l = refl
  map_drop (suc n) [] = refl
  map_drop (suc n) (x ∷ l) = map_drop n l

-- all blades of a value are its numbers
pub all_back : (d : ℕ) (a : List Float) → length a ≡ 2 ^ d → map (coef d a) (order d) ≡ a
all_back d a e = ordered (coef d a) d a e (λ m h. refl)

-- a part of the order reads that part of them
pub part_read : (d first count : ℕ) (a : List Float) → length a ≡ 2 ^ d → map (coef d a) (take count (drop first (order d))) ≡ take count (drop first a)
part_read d first count a e =
    map_take (coef d a) count (drop first (order d))
    ∙ ap (take count) (map_drop (coef d a) first (order d) ∙ ap (drop first) (all_back d a e))

-- the vector, written from the front
pub vector_read : (d : ℕ) (a out : List Float) → length a ≡ 2 ^ d → d ≤ length out → sets out 0 (take d (drop 1 a)) ≡ laid (map (coef d a) (take d (drop 1 (order d)))) out
vector_read d a out e h =
    rw (part_read d 1 d a e) (sets_laid (take d (drop 1 a)) out (omega (arith, length-take d (drop 1 a))))

-- the numbers of a grade, where they were put
pub grade_back : (d g : ℕ) (v : List Float) → size d g ≡ length v → take (size d g) (drop (start d g) (at_grade d g v)) ≡ v
unfolding at_grade padded
grade_back d g v e =
    rw (append_assoc (replicate (start d g) nought) v, drop_at (replicate (start d g) nought) _ (start d g) (length-replicate (start d g) nought))
    (take_at v _ (size d g) (sym e))

pub vector_back : (v : List Float) → map (coef (length v) (at_grade (length v) 1 v)) (take (length v) (drop 1 (order (length v)))) ≡ v
vector_back v =
    let n : ℕ = length v in
    let a : List Float = at_grade n 1 v in
    part_read n 1 n a (length_grade_set n 1 v (vector_fits n))
    ∙ (rw (size_one n, start_one n) at (grade_back n 1 v (size_one n)))

-- where each mask of a list has its number of a half set, those of that parity have the numbers that were given
module _ (odd : ℕ) (f : ℕ → Float) where
  abbrev Back : List ℕ → Type 0
  Back ms = (v : List Float) → length v ≡ length (choose odd ms) → map f ms ≡ spread odd ms v → map f (choose odd ms) ≡ v

  given_has : (m : ℕ) (ms : List ℕ) (v : List Float) → ones m % 2 ≡ odd → Back ms → length v ≡ suc (length (choose odd ms)) → f m ∷ map f ms ≡ spread odd (m ∷ ms) v → f m ∷ map f (choose odd ms) ≡ v
  given_has m ms [] p ih l e = absurd (omega arith)
  given_has m ms (x ∷ v) p ih l e =
      let q : f m ∷ map f ms ≡ x ∷ spread odd ms v = e ∙ spread_has odd m ms x v p in
      let r : map f (choose odd ms) ≡ v = ih v (omega arith) (cc) in
      cc

  given_back : (ms : List ℕ) → Back ms
  unfolding choose
  given_back [] [] l e = refl
  given_back [] (x ∷ v) l e = absurd (omega arith)
  given_back (m ∷ ms) v l e =
      elim (ℕ_discrete (ones m % 2) odd) [
        | yes p ↦ rw (choose_has odd m ms p) (given_has m ms v p (given_back ms) (l ∙ ap length (choose_has odd m ms p)) e)
        | no p ↦
            let q : f m ∷ map f ms ≡ nought ∷ spread odd ms v = e ∙ spread_lacks odd m ms v p in
            rw (choose_lacks odd m ms p) (given_back ms v (l ∙ ap length (choose_lacks odd m ms p)) (cc))
      ]

pub half_back : (odd d : ℕ) (v : List Float) → odd ≤ 1 → 2 * length v ≡ 2 ^ d → map (coef d (spread odd (order d) v)) (choose odd (order d)) ≡ v
half_back odd d v o e =
    let a : List Float = spread odd (order d) v in
    given_back odd (coef d a) (order d) v (omega (arith, half_twice odd d o (half_some d (length v) e))) (all_back d a (length_half_set odd d v))

-- the masks of the other parity have +0
spread_other : (odd : ℕ) (ms : List ℕ) (v : List Float) (k : ℕ) → k < length ms → (ones (get_or ms k 0) % 2 ≡ odd → ⊥) → get_or (spread odd ms v) k nan ≡ nought
unfolding spread
spread_other odd [] v k l p = absurd (omega arith)
spread_other odd (m ∷ ms) v zero l p = rw (spread_lacks odd m ms v p)
spread_other odd (m ∷ ms) [] (suc k) l p = spread_other odd ms [] k (omega arith) p
spread_other odd (m ∷ ms) (x ∷ v) (suc k) l p =
    go (of_parity odd m) (spread_other odd ms v k (omega arith) p) (spread_other odd ms (x ∷ v) k (omega arith) p)
  where
    go : (b : Bool) → get_or (spread odd ms v) k nan ≡ nought → get_or (spread odd ms (x ∷ v)) k nan ≡ nought → get_or (cond b (x ∷ spread odd ms v) (nought ∷ spread odd ms (x ∷ v))) (suc k) nan ≡ nought
    go true y z = y
    go false y z = z

pub half_other : (odd d m : ℕ) (v : List Float) → m < 2 ^ d → (ones m % 2 ≡ odd → ⊥) → coef d (spread odd (order d) v) m ≡ nought
half_other odd d m v h p =
    coef_inside d m (spread odd (order d) v) h
    ∙ spread_other odd (order d) v (place d m) (omega (arith, place_lt d m h, length_order d)) (rw (order_place d m h) p)

-- one grade of a value whose numbers stand there
pub part_back : (d g : ℕ) (v : List Float) (f : Flavor) → d ≤ 9 → g ≤ d → size d g ≡ length v → grade_part (shape_of d f) g (at_grade d g v) ≡ v
part_back d g v f h l e =
    part_taken (shape_of d f) (at_grade d g v) h (length_grade_set d g v (grade_fits d g (length v) l e)) g l ∙ grade_back d g v e

length_one : (d g : ℕ) (x : Float) → g ≤ d → size d g ≡ 1 → length (at_grade d g (x ∷ [])) ≡ 2 ^ d
length_one d g x l e = length_grade_set d g (x ∷ []) (grade_fits d g 1 l e)

-- the one number of a grade, at its mask
pub single_back : (d g m : ℕ) (x : Float) → m < 2 ^ d → ones m ≡ g → size d g ≡ 1 → coef d (at_grade d g (x ∷ [])) m ≡ x
unfolding at_grade
single_back d g m x h e s =
    let r : rank d g m ≡ 0 = omega (arith, (grade_has d g m h e).inside) in
    coef_inside d m (at_grade d g (x ∷ [])) h ∙ padded_at (start d g) (x ∷ []) (2 ^ d) (place d m) 0 (sym (place_ranked d m h ∙ (rw (e, r)))) (omega arith)

-- ---- no dimensions

-- at 0 dimensions that are stated, the scalar
pub stated_none : (s : Shape) (a : List Float) (odd into : ℕ) → s.dims ≤ 9 → length a ≡ 2 ^ s.dims → 1 ≤ into → unpack_half odd s 0 a into ≡ listed (coef s.dims a 0 ∷ [])
stated_none s a odd into h e m =
    half_unpacked s a h e odd 0 0 into (omega arith) m ∙ rw (lone_mask odd 0 0 refl)

one_number : (x : Float) → coef 0 (x ∷ []) 0 ≡ x
unfolding coef place index_of order grades_below grade
one_number x = refl

-- at 0 dimensions of its own, the scalar for even, and 0 for odd
module _ (f : Flavor) (x : Float) (into : ℕ) (m : 1 ≤ into) where
  pub own_even_none : unpack_own_half 0 (shape_of 0 f) (x ∷ []) into ≡ listed (x ∷ [])
  own_even_none = stated_none (shape_of 0 f) (x ∷ []) 0 into (omega arith) refl m ∙ ap (λ y. listed (y ∷ [])) (one_number x)

  pub own_odd_none : unpack_own_half 1 (shape_of 0 f) (x ∷ []) into ≡ listed (nought ∷ [])
  own_odd_none = half_unpacked (shape_of 0 f) (x ∷ []) (omega arith) refl 1 1 0 into (omega arith) m ∙ rw (lone_mask 1 1 0 refl, coef_outside 0 1 (x ∷ []) (omega arith))

-- ---- what was built is read back: the outcomes of calls that are not refused

-- A grade that was built is read back, and where it has one number, that is read back at its mask.
module _ (n g : ℕ) (f : Flavor) (room : ℕ) (h : n ≤ 9) (l : 2 ^ n ≤ room) (i : g ≤ n) where
  pub part_round : (v : List Float) → size n g ≡ length v → grade_part (one_grade n g v f room).shape g (one_grade n g v f room).coefs ≡ v
  part_round v e = rw (one_built n g v f room h l) (part_back n g v f h i e)

  pub single_round : (m : ℕ) (x : Float) → m < 2 ^ n → ones m ≡ g → size n g ≡ 1 → get_blade (one_grade n g (x ∷ []) f room).shape m (one_grade n g (x ∷ []) f room).coefs ≡ record { number = 0; value = x }
  single_round m x b o e =
      rw (one_built n g (x ∷ []) f room h l)
      (get_blade_done (shape_of n f) m (at_grade n g (x ∷ [])) (record { small = h; counted = length_one n g x i e }) ∙ rw (single_back n g m x b o e))

module _ (v : List Float) (f : Flavor) (room : ℕ) (h : length v ≤ 9) (l : 2 ^ length v ≤ room) where
  pub vector_round : (into : ℕ) → length v ≤ into → unpack_vector (vector v f room).shape (vector v f room).coefs into ≡ listed v
  unfolding vector
  vector_round into m =
      rw (one_built (length v) 1 v f room h l)
      (vector_unpacked (shape_of (length v) f) (at_grade (length v) 1 v) h (length_grade_set (length v) 1 v (vector_fits (length v))) into m ∙ ap listed (vector_back v))

  pub n1_round : 2 ≤ length v → grade_part (n_1_blades v f room).shape (length v - 1) (n_1_blades v f room).coefs ≡ v
  n1_round m =
      rw (n1_one v f room m) (part_round (length v) (length v - 1) f room h l (omega arith) v (size_before_last (length v) (omega arith)))

module _ (d : ℕ) (x : Float) (f : Flavor) (room : ℕ) (h : d + added_dims f ≤ 9) (l : 2 ^ (d + added_dims f) ≤ room) where
  abbrev n : ℕ
  n = d + added_dims f

  pub scalar_round : get_blade (scalar d x f room).shape 0 (scalar d x f room).coefs ≡ record { number = 0; value = x }
  unfolding scalar ones ones_in
  scalar_round = single_round n 0 f room h l (omega arith) 0 x (pow_pos n) refl (size_zero n)

  pub scalar_part : grade_part (scalar d x f room).shape 0 (scalar d x f room).coefs ≡ x ∷ []
  unfolding scalar
  scalar_part = part_round n 0 f room h l (omega arith) (x ∷ []) (size_zero n)

  pub pseudoscalar_round : get_blade (pseudoscalar d x f room).shape (2 ^ n - 1) (pseudoscalar d x f room).coefs ≡ record { number = 0; value = x }
  unfolding pseudoscalar
  pseudoscalar_round = single_round n n f room h l (omega arith) (2 ^ n - 1) x (ones_lt n) (ones-ones n) (size_last n)

  pub pseudoscalar_part : grade_part (pseudoscalar d x f room).shape n (pseudoscalar d x f room).coefs ≡ x ∷ []
  unfolding pseudoscalar
  pseudoscalar_part = part_round n n f room h l (omega arith) (x ∷ []) (size_last n)

  -- at 0 dimensions that are stated, the scalar
  pub scalar_unpacked : (odd into : ℕ) → 1 ≤ into → unpack_half odd (scalar d x f room).shape 0 (scalar d x f room).coefs into ≡ listed (x ∷ [])
  unfolding scalar ones ones_in
  scalar_unpacked odd into m =
      rw (one_built n 0 (x ∷ []) f room h l)
      (stated_none (shape_of n f) (at_grade n 0 (x ∷ [])) odd into h (length_one n 0 x (omega arith) (size_zero n)) m ∙ rw (single_back n 0 0 x (pow_pos n) refl (size_zero n)))

-- blades on the left (0), with even unpacking, and on the right (1), with odd unpacking
module _ (odd d : ℕ) (v : List Float) (f : Flavor) (room : ℕ) (h : d ≤ 9) (l : 2 ^ d ≤ room) where
  abbrev built : Outcome
  built = blades_of_side odd d v f room

  pub full_round : (into : ℕ) → length v ≡ 2 ^ d → 2 ^ d ≤ into → unpack_all built.shape d built.coefs into ≡ listed v
  full_round into e m =
      rw (full_built odd d v f room h l e) (all_unpacked (shape_of d Vanilla) v h e d into h m ∙ ap listed (all_back d v e))

  module _ (o : odd ≤ 1) (e : 2 * length v ≡ 2 ^ d) (into : ℕ) (m : 2 ^ (d - 1) ≤ into) where
    read_back : (lone : ℕ) → half_of odd lone d d (spread odd (order d) v) into ≡ listed v
    read_back lone =
        half_unpacked (shape_of d f) (spread odd (order d) v) h (length_half_set odd d v) odd lone d into h m
        ∙ rw (half_masks_lem odd lone d (λ z. omega (arith, half_some d (length v) e)), half_back odd d v o e)

    -- at stated dimensions, and at its own
    pub half_round : unpack_half odd built.shape d built.coefs into ≡ listed v
    half_round = rw (half_built odd d v f room h l e) (read_back 0)

    pub own_half_round : unpack_own_half odd built.shape built.coefs into ≡ listed v
    own_half_round = rw (half_built odd d v f room h l e) (read_back odd)

  pub grade_round : (g : ℕ) → packing odd d (length v) ≡ Some (Grade g) → grade_part built.shape g built.coefs ≡ v
  grade_round g e =
      let p : (g ≤ d) × (size d g ≡ length v) = subst (λ q. Packs q d (length v)) e (packing_fits d (length v) odd) in
      rw (grade_built odd d v f room h l g e) (part_back d g v f h p.0 p.1)
