-- Laws of a sheet's bytes and limits, by the list of shapes, or test by test. Assumes nothing.
use mathlib.Core.Path.{◌≡◌, refl, ap, ◌∙◌}
use mathlib.Core.Bool.{Bool, true, false, ◌||◌, true≢false, or_assoc, or-true}
use mathlib.Core.List.{List, [], ◌∷◌, ◌++◌}
use Prim.Native.Nat.{ℕ, zero, suc, ◌+◌, ◌*◌, ◌≤◌, ◌<◌}
use native.Mathlib.Nat.{le_of_suc-le-suc, not-suc-le-zero}
use native.Mathlib.Numerals.{add-one}
use native.Mathlib.Omega.{arith}
use lib.Dec.{ltb}
use lib.ListN.{length, get_or, take, length-append}
use lib.Seq.{take-suc, length-take-le}
use borrow.Author.Tests.{lt-ltb, le-ltb, ltb-false, eqb-true, eq-eqb, not-false}
use Rattle.std.specs.List.{list_any}
use Rattle.masks.specs.declared.flavor.Flavor.TheVariants.{Vanilla}
use Rattle.masks.specs.declared.shape.Shape.{Shape}
use Rattle.masks.specs.Outcome.{shape_of, refusal}
use Rattle.masks.specs.ShapeBytes.{shape_bytes, shape_from}
use Rattle.masks.specs.Text.{same}
use Rattle.masks.proofs.ListLaws.{same_eq}
use Rattle.masks.proofs.OrderLaws.{blades_le}
use Rattle.masks.proofs.OutcomeLaws.{past}
use Rattle.masks.proofs.ShapeBytesLaws.{shape_bytes-length, shape_back, first_five}
use Rattle.sheets.specs.Format.{Sheet, shape_in, pattern_bytes, sheet_bytes, any_above_nine, blade_total, limits}
use Rattle.sheets.specs.Read.{is_sheet}
use Rattle.sheets.proofs.BytesLaws.{little_endian-length, section_length}

-- ---- bytes

-- `shape_in w` has w bytes, of six at most.
pub shape_in-length : (w : ℕ) → w ≤ 6 → (s : Shape) → length (shape_in w s) ≡ w
shape_in-length w h s = length-take-le w (shape_bytes s) (omega (arith, shape_bytes-length s))

pub five_length : (s : Shape) → length (shape_in 5 s) ≡ 5
five_length = shape_in-length 5 (omega arith)

-- A shape comes back from its first five bytes.
pub five_back : (s : Shape) → shape_from (shape_in 5 s) ≡ s
five_back s = first_five 5 (shape_bytes s) (omega arith) ∙ shape_back s

pub sheet_bytes-length : (s : Sheet) → length (sheet_bytes s) ≡ 6 + 5 * length s.shapes + 8 * length s.patterns
unfolding sheet_bytes
sheet_bytes-length s =
    rw (length-append, section_length (shape_in 5) 5 five_length 2 s.shapes, section_length pattern_bytes 8 (little_endian-length 8) 4 s.patterns)
    (omega arith)

pub same_true : (a b : List ℕ) → same a b ≡ true → a ≡ b
same_true a b e = same_eq a b (rw e tt)

pub same_refl : (a : List ℕ) → same a a ≡ true
unfolding same
same_refl [] = refl
same_refl (x ∷ xs) = rw (eq-eqb x x refl) (same_refl xs)

-- ---- limits

-- the test of the library's `any`
pub above_any : (ss : List Shape) → list_any (λ s. ltb 9 s.dims) ss ≡ any_above_nine ss
unfolding any_above_nine
above_any [] = refl
above_any (s ∷ ss) = ap (λ (b : Bool). ltb 9 s.dims || b) (above_any ss)

pub above_append : (xs ys : List Shape) → any_above_nine (xs ++ ys) ≡ any_above_nine xs || any_above_nine ys
unfolding any_above_nine
above_append [] ys = refl
above_append (s ∷ xs) ys = rw (above_append xs ys, or_assoc)

-- neither of two tests holds
neither : (a b : Bool) → a || b ≡ false → (a ≡ false) × (b ≡ false)
neither true b e = absurd (true≢false e)
neither false b e = (refl, e)

-- none of the first shapes is above 9 where none of more of them is
pub above_take : (i : ℕ) (ss : List Shape) → any_above_nine ss ≡ false → any_above_nine (take i ss) ≡ false
unfolding any_above_nine
above_take zero ss e = refl
above_take (suc i) [] e = refl
above_take (suc i) (s ∷ ss) e = let p = neither (ltb 9 s.dims) (any_above_nine ss) e in rw p.0 (above_take i ss p.1)

-- nor of one more where that is not either
pub above_next : (ss : List Shape) (i : ℕ) → i < length ss → (get_or ss i (shape_of 0 Vanilla)).dims ≤ 9 → any_above_nine (take i ss) ≡ false → any_above_nine (take (i + 1) ss) ≡ false
unfolding any_above_nine
above_next ss i h l e =
    let s = get_or ss i (shape_of 0 Vanilla) in
    rw (add-one i, take-suc ss i (shape_of 0 Vanilla) h, above_append (take i ss) (s ∷ []), e, le-ltb 9 s.dims l)

-- one that is above 9
pub above_at : (i : ℕ) (ss : List Shape) → i < length ss → 9 < (get_or ss i (shape_of 0 Vanilla)).dims → any_above_nine ss ≡ true
unfolding any_above_nine
above_at i [] h g = absurd (not-suc-le-zero h)
above_at zero (s ∷ ss) h g = rw (lt-ltb 9 s.dims g)
above_at (suc i) (s ∷ ss) h g = rw (above_at i ss (le_of_suc-le-suc h) g) (or-true (ltb 9 s.dims))

-- each of shapes none of which is above 9
pub dims_at : (i : ℕ) (ss : List Shape) → i < length ss → any_above_nine ss ≡ false → (get_or ss i (shape_of 0 Vanilla)).dims ≤ 9
unfolding any_above_nine
dims_at i [] h e = absurd (not-suc-le-zero h)
dims_at zero (s ∷ ss) h e = ltb-false 9 s.dims (neither (ltb 9 s.dims) (any_above_nine ss) e).0
dims_at (suc i) (s ∷ ss) h e = dims_at i ss (le_of_suc-le-suc h) (neither (ltb 9 s.dims) (any_above_nine ss) e).1

pub blade_total-append : (xs ys : List Shape) → blade_total (xs ++ ys) ≡ blade_total xs + blade_total ys
unfolding blade_total
blade_total-append [] ys = omega arith
blade_total-append (s ∷ xs) ys = omega (arith, blade_total-append xs ys)

pub blade_total-le : (ss : List Shape) → any_above_nine ss ≡ false → blade_total ss ≤ 512 * length ss
unfolding any_above_nine blade_total
blade_total-le [] e = omega arith
blade_total-le (s ∷ ss) e =
    let p = neither (ltb 9 s.dims) (any_above_nine ss) e in
    omega (arith, blade_total-le ss p.1, blades_le s.dims (ltb-false 9 s.dims p.0))

-- what holds of a sheet within its limits
pub record Within (n : ℕ) (ss : List Shape) (m : ℕ) : Type 0 where
  pub small : any_above_nine ss ≡ false
  pub few : n ≤ 64
  pub limited : m ≤ 4096
  pub matched : m ≡ blade_total ss

pub within : (n : ℕ) (ss : List Shape) (m : ℕ) → refusal (limits n ss m) ≡ 0 → Within n ss m
within n ss m e =
    let p = past _ _ (λ q. omega arith) e in
    let q = past _ _ (λ q. omega arith) p.1 in
    let r = past _ _ (λ q. omega arith) q.1 in
    let t = past _ _ (λ q. omega arith) r.1 in
    record {
      small = p.0;
      few = ltb-false _ _ q.0;
      limited = ltb-false _ _ r.0;
      matched = eqb-true _ _ (not-false _ t.0);
    }

pub within_back : (n : ℕ) (ss : List Shape) (m : ℕ) → Within n ss m → refusal (limits n ss m) ≡ 0
unfolding refusal
within_back n ss m w = rw (w.small, le-ltb 64 n w.few, le-ltb 4096 m w.limited, eq-eqb m (blade_total ss) w.matched)

pub sheet_within : (s : Sheet) → is_sheet s ≡ true → Within (length s.shapes) s.shapes (length s.patterns)
sheet_within s e = within (length s.shapes) s.shapes (length s.patterns) (eqb-true _ _ e)

pub within_sheet : (s : Sheet) → Within (length s.shapes) s.shapes (length s.patterns) → is_sheet s ≡ true
within_sheet s w = eq-eqb _ _ (within_back (length s.shapes) s.shapes (length s.patterns) w)
