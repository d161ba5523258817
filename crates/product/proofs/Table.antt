-- The numbers of pairs in document 01's worked table, computed. Assumes nothing.
use mathlib.Core.Path.{◌≡◌, refl}
use lib.Count.{ones, ones_in}
use lib.IntN.{pow, one}
use Rattle.clifford.specs.Blade.{has, count}
use Rattle.clifford.specs.Sign.{sign}
use Rattle.clifford.specs.Metric.{swaps, shared, turned, metric}
use Rattle.clifford.specs.Sum.{total}
use Rattle.clifford.specs.Pairs.{within, pairs}
use Rattle.masks.specs.declared.flavor.Flavor.TheVariants.{Vanilla, Projective}
use Rattle.masks.specs.Flavor.{metric_of}
use Rattle.product.specs.declared.mode.Mode.TheVariants.{All, Left, Right, Inner, Outer}
use Rattle.product.specs.Mode.{takes, flavor_for, pair_metric}
use Rattle.product.specs.Pairwise.{pairs_of}

pub record Rows : Type 0 where
  pub all_pairs : pairs_of All Vanilla 3 ≡ 64
  pub left_pairs : pairs_of Left Vanilla 3 ≡ 27
  pub right_pairs : pairs_of Right Vanilla 3 ≡ 27
  pub inner_pairs : pairs_of Inner Vanilla 3 ≡ 46
  pub outer_pairs : pairs_of Outer Vanilla 3 ≡ 27
  pub projective_pairs : pairs_of All Projective 3 ≡ 48

pub table : Rows
unfolding ones ones_in pair_metric pairs_of pairs takes within flavor_for metric_of metric swaps total count shared has sign pow one turned
table =
    record {
      all_pairs = refl;
      left_pairs = refl;
      right_pairs = refl;
      inner_pairs = refl;
      outer_pairs = refl;
      projective_pairs = refl;
    }
