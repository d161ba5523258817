-- The metric of a pair is -1, 0 or 1, and where it is not 0 it becomes the float 1 or -1. Assumes nothing.
use mathlib.Core.Path.{◌≡◌, refl, sym, ap, ◌∙◌}
use mathlib.Core.Logic.{◌⊎◌, inl, inr}
use mathlib.Core.Bool.{Bool, true, false, ◌&&◌, cond, false≢true}
use Prim.Native.Nat.{ℕ, zero, suc, ◌+◌}
use lib.Dec.{eqb, ltb}
use lib.Ieee.{Format, binary32, binary64, of_int, round, units, odd, size, span, climb}
use lib.IntN.{ℤ, pos, negsuc, ◌*ℤ◌, pow, one, zero-*ℤ}
use Rattle.clifford.specs.Blade.{Blade, has}
use Rattle.clifford.specs.Sign.{sign}
use Rattle.clifford.specs.Metric.{shared, metric}
use Rattle.clifford.specs.Pairs.{nonzero}
use Rattle.clifford.proofs.SignLaws.{sign_suc}
use Rattle.rounding.specs.Operation.{signed_one}
use Rattle.masks.specs.declared.flavor.Flavor.{Flavor}
use Rattle.masks.specs.declared.flavor.Flavor.TheVariants.{Vanilla, Projective, Cl}
use Rattle.masks.specs.Flavor.{metric_of}
use Rattle.product.specs.declared.mode.Mode.{Mode}
use Rattle.product.specs.Mode.{takes, squares, flavor_for, pair_metric}
use Rattle.product.specs.inner.Pairwise.{negative}

-- A whole number is -1, 0 or 1.
abbrev pub Unital : ℤ → Type 0
Unital m = (m ≡ negsuc 0) ⊎ ((m ≡ pos 0) ⊎ (m ≡ pos 1))

minus_one : Unital (negsuc 0)
minus_one = inl refl

nothing : Unital (pos 0)
nothing = inr (inl refl)

plus_one : Unital (pos 1)
plus_one = inr (inr refl)

choose : (t : Bool) (x y : ℤ) → Unital x → Unital y → Unital (cond t x y)
choose true x y u v = u
choose false x y u v = v

unital_mul : (x y : ℤ) → Unital x → Unital y → Unital (x *ℤ y)
unital_mul x y (inl e) (inl g) = rw (e, g) plus_one
unital_mul x y (inl e) (inr (inl g)) = rw (e, g) nothing
unital_mul x y (inl e) (inr (inr g)) = rw (e, g) minus_one
unital_mul x y (inr (inl e)) v = rw (e, zero-*ℤ y) nothing
unital_mul x y (inr (inr e)) (inl g) = rw (e, g) minus_one
unital_mul x y (inr (inr e)) (inr (inl g)) = rw (e, g) nothing
unital_mul x y (inr (inr e)) (inr (inr g)) = rw (e, g) plus_one

unital_sign : (k : ℕ) → Unital (sign k)
unfolding sign pow one
unital_sign zero = plus_one
unital_sign (suc k) = rw (sign_suc k) (unital_mul (negsuc 0) (sign k) minus_one (unital_sign k))

unital_shared : (g : ℕ → ℤ) → ((i : ℕ) → Unital (g i)) → (d : ℕ) (a b : Blade) → Unital (shared g d a b)
unfolding shared
unital_shared g u zero a b = plus_one
unital_shared g u (suc i) a b = unital_mul (shared g i a b) _ (unital_shared g u i a b) (choose (a i && b i) (g i) (pos 1) (u i) plus_one)

pub unital_flavor : (f : Flavor) (i : ℕ) → Unital (metric_of f i)
unfolding metric_of
unital_flavor Vanilla i = plus_one
unital_flavor Projective i = choose (eqb i 0) (pos 0) (pos 1) nothing plus_one
unital_flavor (Cl p n z) i = choose (ltb i z) (pos 0) _ nothing (choose (ltb i (z + n)) (negsuc 0) (pos 1) minus_one plus_one)

unit_float : (f : Format) (s : Bool) → round f s 1 1 ≡ signed_one s
unfolding round units odd size span climb
unit_float binary32 s = refl
unit_float binary64 s = refl

as_float : (f : Format) (m : ℤ) → Unital m → nonzero m ≡ true → of_int f m ≡ signed_one (negative m)
unfolding of_int
as_float f m (inl e) h = rw e (unit_float f true)
as_float f m (inr (inl e)) h = absurd (false≢true (sym (ap nonzero e) ∙ h))
as_float f m (inr (inr e)) h = rw e (unit_float f false)

module _ (mode : Mode) (flavor : Flavor) (d a b : ℕ) where
  -- The metric of a pair is -1, 0 or 1.
  pub metric_unital : (pair_metric mode flavor d a b ≡ negsuc 0) ⊎ ((pair_metric mode flavor d a b ≡ pos 0) ⊎ (pair_metric mode flavor d a b ≡ pos 1))
  unfolding pair_metric metric
  metric_unital =
      choose (takes mode a b) (metric (squares mode flavor) d a b) (pos 0)
      (unital_mul (sign _) (shared (squares mode flavor) d (has a) (has b)) (unital_sign _) (unital_shared _ (unital_flavor (flavor_for mode flavor)) d (has a) (has b)))
      nothing

  -- As a float, a metric that is not 0 is 1 or -1, by its sign.
  pub metric_sign : (f : Format) → nonzero (pair_metric mode flavor d a b) ≡ true → of_int f (pair_metric mode flavor d a b) ≡ signed_one (negative (pair_metric mode flavor d a b))
  metric_sign f h = as_float f (pair_metric mode flavor d a b) metric_unital h
