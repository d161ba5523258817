-- The counts of contributing pairs, in closed form: nulls is the number of basis vectors below d that square to 0. Assumes nothing.
use mathlib.Core.Path.{◌≡◌, refl, ◌∙◌, ap}
use mathlib.Core.Bool.{Bool, true, false, cond}
use Prim.Native.Nat.{ℕ, zero, suc, ◌+◌, ◌-◌, ◌*◌, ◌^◌, ◌<◌, ◌≤◌}
use native.Mathlib.Nat.{le_refl, sub-zero, sub_self}
use native.Mathlib.Omega.{arith}
use lib.Dec.{eqb-suc-zero}
use lib.IntN.{ℤ}
use lib.Pow.{pow_pos}
use Rattle.clifford.specs.Blade.{count}
use Rattle.clifford.specs.Pairs.{nonzero, nulls}
use Rattle.clifford.proofs.PairsLaws as Counted
use Rattle.masks.specs.declared.flavor.Flavor.{Flavor}
use Rattle.masks.specs.declared.flavor.Flavor.TheVariants.{Vanilla, Projective}
use Rattle.masks.specs.Flavor.{metric_of, null_flavor}
use Rattle.masks.proofs.FlavorLaws.{null_metric}
use Rattle.product.specs.declared.mode.Mode.TheVariants.{All, Left, Right, Inner, Outer}
use Rattle.product.specs.Mode.{takes, flavor_for}
use Rattle.product.specs.Pairwise.{pairs_of}
use Rattle.product.proofs.PairsBounds.{power_grows}

-- `nulls_of f d` is k.
abbrev pub nulls_of : Flavor → ℕ → ℕ
nulls_of f d = nulls (metric_of f) d

pub pairs_all : (f : Flavor) (d : ℕ) → pairs_of All f d ≡ 4 ^ (d - nulls_of f d) * 3 ^ nulls_of f d
unfolding pairs_of takes flavor_for
pairs_all f = Counted.pairs_all (metric_of f)

pub pairs_left : (f : Flavor) (d : ℕ) → pairs_of Left f d ≡ 3 ^ (d - nulls_of f d) * 2 ^ nulls_of f d
unfolding pairs_of takes flavor_for
pairs_left f = Counted.pairs_left (metric_of f)

pub pairs_right : (f : Flavor) (d : ℕ) → pairs_of Right f d ≡ 3 ^ (d - nulls_of f d) * 2 ^ nulls_of f d
unfolding pairs_of takes flavor_for
pairs_right f = Counted.pairs_right (metric_of f)

-- Inner's pairs and those of equal masks together are Left's and Right's.
pub pairs_inner : (f : Flavor) (d : ℕ) → pairs_of Inner f d + 2 ^ (d - nulls_of f d) ≡ 2 * (3 ^ (d - nulls_of f d) * 2 ^ nulls_of f d)
unfolding pairs_of takes flavor_for
pairs_inner f d =
    added (pairs_of Inner f d) (2 ^ (d - nulls_of f d)) (3 ^ (d - nulls_of f d)) (2 ^ nulls_of f d) (Counted.pairs_inner (metric_of f) d)
    (power_grows 2 3 (d - nulls_of f d) (d - nulls_of f d) (omega arith) (omega arith) (le_refl (d - nulls_of f d))) (pow_pos (nulls_of f d))
  where
    added : (m n x y : ℕ) → m ≡ 2 * (x * y) - n → n ≤ x → 0 < y → m + n ≡ 2 * (x * y)
    added m n x zero e h l = absurd (omega arith)
    added m n x (suc y) e h l = omega arith

-- ---- the numbers of null vectors

-- Where no vector below d is null they count 0, and where each is they count d.
nulls_each : (g : ℕ → ℤ) (d : ℕ) (t : Bool) → ((i : ℕ) → i < d → nonzero (g i) ≡ t) → nulls g d ≡ cond t 0 d
unfolding nulls count
nulls_each g zero true h = refl
nulls_each g zero false h = refl
nulls_each g (suc d) true h = rw (h d (omega arith)) (omega (arith, nulls_each g d true (λ i l. h i (omega arith))))
nulls_each g (suc d) false h = rw (h d (omega arith)) (omega (arith, nulls_each g d false (λ i l. h i (omega arith))))

null_nulls : (d : ℕ) → d ≤ 255 → nulls_of null_flavor d ≡ d
null_nulls d h = nulls_each (metric_of null_flavor) d false (λ i l. ap nonzero (null_metric i (omega arith)))

vanilla_nulls : (d : ℕ) → nulls_of Vanilla d ≡ 0
unfolding metric_of
vanilla_nulls d = nulls_each (metric_of Vanilla) d true (λ i l. refl)

projective_nulls : (d : ℕ) → nulls_of Projective (suc d) ≡ 1
unfolding nulls count metric_of
projective_nulls zero = refl
projective_nulls (suc d) = rw (eqb-suc-zero d) (omega (arith, projective_nulls d))

-- ---- the counts of some flavors

pub pairs_outer : (f : Flavor) (d : ℕ) → d ≤ 255 → pairs_of Outer f d ≡ 3 ^ d
unfolding pairs_of takes flavor_for
pairs_outer f d h = Counted.pairs_all (metric_of null_flavor) d ∙ rw (null_nulls d h, sub_self d) (omega arith)

-- These are document 01's counts.
pub vanilla_all : (d : ℕ) → pairs_of All Vanilla d ≡ 4 ^ d
vanilla_all d = pairs_all Vanilla d ∙ rw (vanilla_nulls d, sub-zero d) (omega arith)

pub vanilla_left : (d : ℕ) → pairs_of Left Vanilla d ≡ 3 ^ d
vanilla_left d = pairs_left Vanilla d ∙ rw (vanilla_nulls d, sub-zero d) (omega arith)

pub vanilla_right : (d : ℕ) → pairs_of Right Vanilla d ≡ 3 ^ d
vanilla_right d = pairs_right Vanilla d ∙ rw (vanilla_nulls d, sub-zero d) (omega arith)

pub vanilla_inner : (d : ℕ) → pairs_of Inner Vanilla d ≡ 2 * 3 ^ d - 2 ^ d
vanilla_inner d = let e = rw (vanilla_nulls d, sub-zero d) at (pairs_inner Vanilla d) in omega (arith, e)

pub projective_all : (d : ℕ) → pairs_of All Projective (suc d) ≡ 3 * 4 ^ d
projective_all d = pairs_all Projective (suc d) ∙ rw (projective_nulls d, one_less d) (omega arith)
  where
    one_less : (d : ℕ) → suc d - 1 ≡ d
    one_less d = omega arith
