-- A minus sign passes through a product: it may stand before either factor or before the whole, and a metric of -1 before the left factor may stand before the right one. Assumes nothing.
use mathlib.Core.Path.{◌≡◌, refl, sym, ap, ◌∙◌}
use mathlib.Core.Bool.{Bool, true, false, not, cond, not-not}
use Prim.Native.Nat.{◌*◌}
use lib.Dec.{T, eqb}
use lib.Ieee.{Float, nan, inf, fin, Format, unlike, up, down, mul, neg, fits}
use Rattle.rounding.specs.Operation.{signed_one}
use Rattle.rounding.specs.Terms.{Term, prod}
use Rattle.rounding.proofs.OperationLaws.{neg_round, times_unit}

pub neg_neg : (x : Float) → neg (neg x) ≡ x
unfolding neg
neg_neg nan = refl
neg_neg (inf s) = ap inf (not-not s)
neg_neg (fin s m e) = ap (λ (b : Bool). fin b m e) (not-not s)

-- ---- One factor negated.
unlike_not_left : (s t : Bool) → unlike (not s) t ≡ not (unlike s t)
unlike_not_left false false = refl
unlike_not_left false true = refl
unlike_not_left true false = refl
unlike_not_left true true = refl

unlike_not_right : (s t : Bool) → unlike s (not t) ≡ not (unlike s t)
unlike_not_right false false = refl
unlike_not_right false true = refl
unlike_not_right true false = refl
unlike_not_right true true = refl

-- An infinity times a number: nan where that is zero.
neg_unless : (z : Bool) {s : Bool} (t : Bool) → s ≡ not t → cond z nan (inf s) ≡ neg (cond z nan (inf t))
unfolding neg
neg_unless true t e = refl
neg_unless false t e = ap inf e

pub mul_neg_left : (f : Format) (x y : Float) → mul f (neg x) y ≡ neg (mul f x y)
unfolding mul neg
mul_neg_left f nan y = refl
mul_neg_left f (inf s) nan = refl
mul_neg_left f (inf s) (inf t) = ap inf (unlike_not_left s t)
mul_neg_left f (inf s) (fin t n d) = neg_unless (eqb n 0) (unlike s t) (unlike_not_left s t)
mul_neg_left f (fin s m e) nan = refl
mul_neg_left f (fin s m e) (inf t) = neg_unless (eqb m 0) (unlike s t) (unlike_not_left s t)
mul_neg_left f (fin s m e) (fin t n d) = rw (unlike_not_left s t) (sym (neg_round f (unlike s t) (m * up e * (n * up d)) (down e * down d)))

pub mul_neg_right : (f : Format) (x y : Float) → mul f x (neg y) ≡ neg (mul f x y)
unfolding mul neg
mul_neg_right f nan y = refl
mul_neg_right f (inf s) nan = refl
mul_neg_right f (inf s) (inf t) = ap inf (unlike_not_right s t)
mul_neg_right f (inf s) (fin t n d) = neg_unless (eqb n 0) (unlike s t) (unlike_not_right s t)
mul_neg_right f (fin s m e) nan = refl
mul_neg_right f (fin s m e) (inf t) = neg_unless (eqb m 0) (unlike s t) (unlike_not_right s t)
mul_neg_right f (fin s m e) (fin t n d) = rw (unlike_not_right s t) (sym (neg_round f (unlike s t) (m * up e * (n * up d)) (down e * down d)))

-- ---- A metric of -1.
pub one_times : (f : Format) (s : Bool) (x : Float) → T (fits f x) → mul f (signed_one s) x ≡ cond s (neg x) x
one_times = times_unit

-- (-1 x a) x b is a x -b.
pub minus_moves : (f : Format) (x y : Float) → T (fits f x) → mul f (mul f (signed_one true) x) y ≡ mul f x (neg y)
minus_moves f x y t = ap (λ (z : Float). mul f z y) (one_times f true x t) ∙ mul_neg_left f x y ∙ sym (mul_neg_right f x y)

pub prod_signed : (f : Format) (t : Term) → T (fits f t.left) → prod f t ≡ mul f t.left (cond t.minus (neg t.right) t.right)
prod_signed f t h = go t.minus
  where
    go : (s : Bool) → mul f (mul f (signed_one s) t.left) t.right ≡ mul f t.left (cond s (neg t.right) t.right)
    go true = minus_moves f t.left t.right h
    go false = ap (λ (z : Float). mul f z t.right) (one_times f false t.left h)
