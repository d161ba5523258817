-- Laws of the record in which a sheet's shapes travel, which lists no more than it holds, and of its list in bytes. Assumes nothing.
use mathlib.Core.Path.{◌≡◌, refl, sym, ap, ap₂, ◌∙◌}
use mathlib.Core.Logic.{⊎_elim}
use mathlib.Core.List.{List, [], ◌∷◌, ◌++◌, map, append-nil}
use Prim.Native.Nat.{ℕ, zero, suc, ◌+◌, ◌*◌, ◌/◌, ◌≤◌, ◌<◌, min}
use native.Mathlib.Nat.{mul-suc}
use native.Mathlib.Omega.{arith}
use lib.ListN.{length, get_or, take, drop, length-append, length-map, length-replicate, drop_of_length-le}
use lib.Seq.{sets, length-take-le, take_all, take-append-le}
use borrow.Author.Tests.{lt-ltb, le-ltb}
use Rattle.std.specs.Prelude.{Ok, Err}
use Rattle.masks.specs.declared.flavor.Flavor.TheVariants.{Vanilla}
use Rattle.masks.specs.declared.outcome.Refusal.TheVariants.{NoRoom}
use Rattle.masks.specs.declared.shape.Shape.{Shape}
use Rattle.masks.specs.Outcome.{refusal, unless, listed, shape_of, laid, Writes}
use Rattle.masks.specs.ShapeBytes.{shape_bytes, shape_from}
use Rattle.masks.proofs.ListLaws.{split, take_laid, get_d_map, sets_laid}
use Rattle.masks.proofs.OutcomeLaws.{writes_refused, writes_done}
use Rattle.masks.proofs.ShapeBytesLaws.{shape_bytes-length, first_five}
use Rattle.sheets.specs.declared.shapes.Shapes.{Shapes}
use Rattle.sheets.specs.Bytes.{all_bytes, parts}
use Rattle.sheets.specs.Format.{shape_in}
use Rattle.sheets.specs.Shapes.{blank_shapes, shapes_of, listed_shapes, said_shapes, list_bytes, shape_list}
use Rattle.sheets.proofs.BytesLaws.{all_bytes_same, all_bytes-length, parts_length, get_d-parts}

pub blank_length : length blank_shapes ≡ 64
unfolding blank_shapes
blank_length = length-replicate 64 (shape_of 0 Vanilla)

-- ---- any record

pub listed_length : (s : Shapes) → length s.held ≡ 64 → s.count ≤ 64 → length (listed_shapes s) ≡ s.count
listed_length s e h = length-take-le s.count s.held (omega arith)

-- as many as are held are all that can be listed
pub listed_most : (s : Shapes) → length s.held ≡ 64 → take (min s.count 64) s.held ≡ listed_shapes s
listed_most s e =
    ⊎_elim (λ (h : s.count < 64). let n : min s.count 64 ≡ s.count = omega arith in ap (λ (k : ℕ). take k s.held) n)
    (λ (h : 64 ≤ s.count). take_all (min s.count 64) s.held (omega arith) ∙ sym (take_all s.count s.held (omega arith)))
    (split s.count 64)

-- ---- a record made of a list

-- 64 shapes fill it
filled : (xs : List Shape) → length xs ≡ 64 → laid xs blank_shapes ≡ xs
filled xs e = ap (λ (l : List Shape). xs ++ l) (drop_of_length-le blank_shapes {i = length xs} (omega (arith, blank_length))) ∙ append-nil xs

-- it lists the first 64
pub listed_first : (ss : List Shape) → listed_shapes (shapes_of ss) ≡ take 64 ss
listed_first ss =
    ⊎_elim (λ (h : 64 < length ss).
    let n : length (take 64 ss) ≡ 64 = length-take-le 64 ss (omega arith) in
    ap (take (length ss)) (filled (take 64 ss) n) ∙ take_all (length ss) (take 64 ss) (omega arith))
    (λ (h : length ss ≤ 64). rw (take_all 64 ss h) (take_laid (length ss) ss blank_shapes refl))
    (split 64 (length ss))

-- and all where there are no more
pub listed-shapes_of : (ss : List Shape) → length ss ≤ 64 → listed_shapes (shapes_of ss) ≡ ss
listed-shapes_of ss h = listed_first ss ∙ take_all 64 ss h

-- what is made of a list's first 64 items, laid over a blank record
pub made_shapes : {A : Type 0} (g : A → Shape) (xs : List A) (n : ℕ) (held : List Shape) → n ≡ min (length xs) 64 → held ≡ laid (map g (take n xs)) blank_shapes → record { count = length xs; held = held } ≡ shapes_of (map g xs)
made_shapes g xs n held e h =
    ap₂ (λ (count : ℕ) (l : List Shape). record { count = count; held = l }) (sym (length-map xs g))
    (h ∙ ap (λ (l : List Shape). laid l blank_shapes) (first xs n ∙ most))
  where
    first : (ys : List _) (k : ℕ) → map g (take k ys) ≡ take k (map g ys)
    first ys zero = refl
    first [] (suc k) = refl
    first (y ∷ ys) (suc k) = ap (λ l. g y ∷ l) (first ys k)

    most : take n (map g xs) ≡ take 64 (map g xs)
    most =
        ⊎_elim (λ (l : length xs < 64). take_all n (map g xs) (omega (arith, length-map xs g)) ∙ sym (take_all 64 (map g xs) (omega (arith, length-map xs g))))
        (λ (l : 64 ≤ length xs). let q : n ≡ 64 = omega arith in ap (λ (k : ℕ). take k (map g xs)) q)
        (split (length xs) 64)

-- ---- a list of shapes in bytes, w to a shape

pub said_shapes-length : (w : ℕ) (b : List ℕ) → length (said_shapes w b) ≡ length b / w
unfolding said_shapes
said_shapes-length w b = length-map (parts w (length b / w) b) shape_from ∙ parts_length w (length b / w) b

-- shape i is what the bytes from w * i on say
pub said_shapes-at : (w : ℕ) (b : List ℕ) (i : ℕ) → 5 ≤ w → i < length b / w → get_or (said_shapes w b) i (shape_of 0 Vanilla) ≡ shape_from (drop (w * i) b)
unfolding said_shapes
said_shapes-at w b i g h =
    get_d_map shape_from (parts w (length b / w) b) i [] (shape_of 0 Vanilla) (omega (arith, parts_length w (length b / w) b))
    ∙ ap shape_from (get_d-parts w (length b / w) b i h)
    ∙ first_five w (drop (w * i) b) g

-- all six bytes of each
pub six_whole : (ss : List Shape) → all_bytes (shape_in 6) ss ≡ all_bytes shape_bytes ss
six_whole = all_bytes_same (shape_in 6) shape_bytes (λ s. take_all 6 (shape_bytes s) (omega (arith, shape_bytes-length s)))

-- the first w of a shape's six bytes, in eight of them
pub padded_first : (w : ℕ) → w ≤ 6 → (ss : List Shape) → all_bytes (λ s. take w (shape_bytes s ++ 0 ∷ 0 ∷ [])) ss ≡ all_bytes (shape_in w) ss
padded_first w h =
    all_bytes_same (λ s. take w (shape_bytes s ++ 0 ∷ 0 ∷ [])) (shape_in w) (λ s. take-append-le w (shape_bytes s) (0 ∷ 0 ∷ []) (omega (arith, shape_bytes-length s)))

pub padded_length : (s : Shape) → length (shape_bytes s ++ 0 ∷ 0 ∷ []) ≡ 8
padded_length s = omega (arith, length-append (shape_bytes s) (0 ∷ 0 ∷ []), shape_bytes-length s)

-- six to each that is listed
pub list_bytes_each : (s : Shapes) → length (list_bytes s) ≡ 6 * length (listed_shapes s)
list_bytes_each s = all_bytes-length shape_bytes 6 shape_bytes-length (listed_shapes s)

pub list_bytes-length : (s : Shapes) → length s.held ≡ 64 → length (list_bytes s) ≡ 6 * min s.count 64
list_bytes-length s e =
    list_bytes_each s ∙ ap (λ (k : ℕ). 6 * k) (ap length (sym (listed_most s e)) ∙ length-take-le (min s.count 64) s.held (omega arith))

-- ---- a list that is written

-- refused where it has no room
pub list_refused : (s : Shapes) (out : List ℕ) → length out < 6 * length (listed_shapes s) → Writes (shape_list s (length out)) (Err NoRoom) out out
unfolding shape_list refusal
list_refused s out h =
    writes_refused _ NoRoom _ out (rw (lt-ltb (length out) (length (list_bytes s)) (omega (arith, list_bytes_each s))))

-- and else written from the front
pub list_done : (s : Shapes) (n : ℕ) (out after : List ℕ) → n ≡ 6 * length (listed_shapes s) → n ≤ length out → after ≡ sets out 0 (all_bytes (shape_in 6) (listed_shapes s)) → Writes (shape_list s (length out)) (Ok n) out after
unfolding shape_list refusal
list_done s n out after e h w =
    let l : n ≡ length (list_bytes s) = omega (arith, list_bytes_each s) in
    writes_done _ _ _ out after (rw (le-ltb (length out) (length (list_bytes s)) (omega arith))) refl l
    (w ∙ ap (sets out 0) (six_whole (listed_shapes s)) ∙ sets_laid (list_bytes s) out (omega arith))

-- the whole list where there are no more than are held, and room
pub list_whole : (ss : List Shape) (room : ℕ) → length ss ≤ 64 → 6 * length ss ≤ room → shape_list (shapes_of ss) room ≡ listed (all_bytes shape_bytes ss)
unfolding shape_list refusal unless
list_whole ss room h l =
    rw (listed-shapes_of ss h, le-ltb room (length (all_bytes shape_bytes ss)) (omega (arith, all_bytes-length shape_bytes 6 shape_bytes-length ss)))
