use mathlib.Core.Path.{◌≡◌, refl, sym, ap, ◌∙◌}
use mathlib.Core.Bool.{Bool, true, false, not, ◌&&◌, and-true, and-false, and_assoc}
use mathlib.Core.List.{List, [], ◌∷◌}
use Prim.Native.Nat.{ℕ, zero, suc, ◌+◌, ◌≤◌, ◌<◌}
use native.Mathlib.Omega.{arith}
use borrow.Author.Tests.{lt-ltb, le-ltb, eq-eqb, ne_eqb}
use lib.Dec.{eqb, ltb}
use lib.ListN.{length, get_or, take, drop}
use lib.Seq.{drop-cons, take_all}
use Rattle.masks.specs.Text.{same}
use Rattle.masks.specs.ShapeBytes.{shape_from}
use Rattle.sheets.specs.inner.Checks.{is_shape}
use Rattle.sheets.proofs.FormatLaws.{same_refl}
use Rattle.sheets.proofs.read.is_shape.Goals.{Joined-p-eq0, then-p-eq0, else-p-eq0}
use Rattle.sheets.proofs.read.is_shape.Goals as goal

-- five bytes
five : (b : List ℕ) → length b ≡ 5 → b ≡ get_or b 0 0 ∷ get_or b 1 0 ∷ get_or b 2 0 ∷ get_or b 3 0 ∷ get_or b 4 0 ∷ []
five b h =
    let next : (i n : ℕ) → i < length b → take (suc n) (drop i b) ≡ get_or b i 0 ∷ take n (drop (suc i) b) = λ i n l. rw (drop-cons b i 0 l) in
    sym (take_all 5 b (omega arith))
    ∙ rw (next 0 4 (omega arith), next 1 3 (omega arith), next 2 2 (omega arith), next 3 1 (omega arith), next 4 0 (omega arith))

-- more than nine dimensions
too_many : (d k p n z : ℕ) → 9 < d → is_shape (d ∷ k ∷ p ∷ n ∷ z ∷ []) ≡ false
unfolding is_shape
too_many d k p n z h = rw (lt-ltb 9 d h)

-- kind 2 with any p, n, z
of_cl : (d k p n z : ℕ) → d ≤ 9 → k ≡ 2 → is_shape (d ∷ k ∷ p ∷ n ∷ z ∷ []) ≡ true
unfolding is_shape shape_from
of_cl d k p n z h e = rw (e, le-ltb 9 d h) (same_refl (d ∷ 2 ∷ p ∷ n ∷ z ∷ []))

-- no kind
no_kind : (d k p n z : ℕ) → 2 < k → is_shape (d ∷ k ∷ p ∷ n ∷ z ∷ []) ≡ false
unfolding is_shape shape_from same
no_kind d zero p n z h = absurd (omega arith)
no_kind d (suc zero) p n z h = absurd (omega arith)
no_kind d (suc (suc k)) p n z h = rw (ne_eqb (suc (suc k)) 2 (λ e. omega arith), and-false (eqb d d)) (and-false (not (ltb 9 d)))

-- kinds 0 and 1 have zeros
zeros : (d p n z : ℕ) → d ≤ 9 → (not (ltb 9 d) && (eqb d d && (eqb p 0 && (eqb n 0 && (eqb z 0 && true))))) ≡ (eqb p 0 && eqb n 0 && eqb z 0)
zeros d p n z h = rw (le-ltb 9 d h, eq-eqb d d refl, and-true (eqb z 0)) (sym (and_assoc (eqb p 0) (eqb n 0) (eqb z 0)))

of_others : (d k p n z : ℕ) → d ≤ 9 → k < 2 → is_shape (d ∷ k ∷ p ∷ n ∷ z ∷ []) ≡ (eqb p 0 && eqb n 0 && eqb z 0)
unfolding is_shape shape_from same
of_others d zero p n z h g = zeros d p n z h
of_others d (suc zero) p n z h g = zeros d p n z h
of_others d (suc (suc k)) p n z h g = absurd (omega arith)

-- v being what the tests of p and n say, the test of z is left
z_left : (b : List ℕ) (v : Bool) → length b ≡ 5 → get_or b 0 0 ≤ 9 → (get_or b 1 0 ≡ 2 → ⊥) → get_or b 1 0 ≤ 2 → v ≡ (eqb (get_or b 2 0) 0 && eqb (get_or b 3 0) 0) → is_shape b ≡ (v && eqb (get_or b 4 0) 0)
z_left b v l d k h e =
    ap is_shape (five b l) ∙ of_others _ _ _ _ _ d (omega arith) ∙ ap (λ (x : Bool). x && eqb (get_or b 4 0) 0) (sym e)

-- where the tests of p and n meet
met : (j : Joined-p-eq0) → j.if-p-eq0.none ≡ (eqb (get_or j.args.five.now 2 0) 0 && eqb (get_or j.args.five.now 3 0) 0)
met j =
    let p = get_or j.args.five.now 2 0 in
    let n = eqb (get_or j.args.five.now 3 0) 0 in
    elim j.if-p-eq0.branch [
      | then-p-eq0 w ↦ w.none-is ∙ sym (ap (λ (b : Bool). b && n) (eq-eqb p 0 w.if-p-eq0.true))
      | else-p-eq0 w ↦ w.none-is ∙ ne_eqb p 0 w.if-p-eq0.false ∙ sym (ap (λ (b : Bool). b && n) (ne_eqb p 0 w.if-p-eq0.false))
    ]

pub returns-then-dims-gt-MAX_DIMS : goal.returns-then-dims-gt-MAX_DIMS
returns-then-dims-gt-MAX_DIMS c =
    sym (ap is_shape (five c.args.five.now c.told-five) ∙ too_many _ _ _ _ _ c.if-dims-gt-MAX_DIMS.true)

pub returns-then-kind-eq2 : goal.returns-then-kind-eq2
returns-then-kind-eq2 c =
    sym (ap is_shape (five c.args.five.now c.told-five) ∙ of_cl _ _ _ _ _ c.if-dims-gt-MAX_DIMS.false c.if-kind-eq2.true)

pub returns-then-kind-gt2 : goal.returns-then-kind-gt2
returns-then-kind-gt2 c =
    sym (ap is_shape (five c.args.five.now c.told-five) ∙ no_kind _ _ _ _ _ c.if-kind-gt2.true)

-- kinds 0 and 1, p, n and z being bytes 2, 3 and 4
others : (b : List ℕ) → length b ≡ 5 → get_or b 0 0 ≤ 9 → (get_or b 1 0 ≡ 2 → ⊥) → get_or b 1 0 ≤ 2 → is_shape b ≡ (eqb (get_or b 2 0) 0 && eqb (get_or b 3 0) 0 && eqb (get_or b 4 0) 0)
others b l d k h = ap is_shape (five b l) ∙ of_others _ _ _ _ _ d (omega arith)

pub returns-then-none : goal.returns-then-none
returns-then-none c =
    let m = sym c.if-none.true ∙ met (goal.at.returns-then-none c).Joined-p-eq0 in
    sym (z_left c.args.five.now true c.told-five c.if-dims-gt-MAX_DIMS.false c.if-kind-eq2.false c.if-kind-gt2.false m)

pub returns-else-none : goal.returns-else-none
returns-else-none c =
    let m = sym c.if-none.false ∙ met (goal.at.returns-else-none c).Joined-p-eq0 in
    c.if-none.false ∙ sym (z_left c.args.five.now false c.told-five c.if-dims-gt-MAX_DIMS.false c.if-kind-eq2.false c.if-kind-gt2.false m)
