-- Of the masks of a's place, b's place and the place their pair goes to, each is the xor of the other two: b's place and the place that is gone to fix a's. Assumes nothing.
use mathlib.Core.Path.{◌≡◌, ap, ◌∙◌}
use Prim.Native.Nat.{ℕ, ◌^◌, ◌<◌}
use lib.Bits.{bit_xor, xor_comm, xor_lt}
use Rattle.clifford.proofs.BladeLaws.{xor_cancel}
use Rattle.masks.specs.declared.flavor.Flavor.{Flavor}
use Rattle.masks.specs.Order.{place}
use Rattle.masks.proofs.OrderLaws.{order_at, order_place, place_lt}
use Rattle.product.specs.declared.mode.Mode.{Mode}
use Rattle.product.specs.Pairwise.{mask_at, place_at}
use Rattle.product.specs.inner.Pairwise.{partner}

pub partner_low : (d j k : ℕ) → j < 2 ^ d → k < 2 ^ d → partner d j k < 2 ^ d
partner_low d j k hj hk = xor_lt d (mask_at d j) (mask_at d k) (order_at d j hj).low (order_at d k hk).low

pub partner_place : (d j k : ℕ) → j < 2 ^ d → k < 2 ^ d → place d (partner d j k) < 2 ^ d
partner_place d j k hj hk = place_lt d (partner d j k) (partner_low d j k hj hk)

-- Two masks brought together twice leave the other: a xor (a xor b) is b.
xor_twice : (d j k : ℕ) → j < 2 ^ d → k < 2 ^ d → bit_xor (mask_at d j) (partner d j k) ≡ mask_at d k
xor_twice d j k hj hk =
    ap (bit_xor (mask_at d j)) (xor_comm (mask_at d j) (mask_at d k)) ∙ xor_cancel d (mask_at d k) (mask_at d j) (order_at d k hk).low (order_at d j hj).low

module _ (mode : Mode) (flavor : Flavor) (d : ℕ) where
  pub place_at_lt : (i j : ℕ) → i < 2 ^ d → j < 2 ^ d → place_at mode flavor d i j < 2 ^ d
  unfolding place_at
  place_at_lt i j hi hj = partner_place d i j hi hj

  -- Where the pair of i and j goes, j's partner is i's mask.
  pub partner_there : (i j : ℕ) → i < 2 ^ d → j < 2 ^ d → partner d j (place_at mode flavor d i j) ≡ mask_at d i
  unfolding place_at
  partner_there i j hi hj =
      ap (bit_xor (mask_at d j)) (order_place d (partner d i j) (partner_low d i j hi hj) ∙ xor_comm (mask_at d i) (mask_at d j))
      ∙ xor_twice d j i hj hi

  -- The pair of j and its partner for k goes to k.
  pub partner_goes : (j k : ℕ) → j < 2 ^ d → k < 2 ^ d → place_at mode flavor d (place d (partner d j k)) j ≡ k
  unfolding place_at
  partner_goes j k hj hk =
      ap (λ (m : ℕ). place d (bit_xor m (mask_at d j))) (order_place d (partner d j k) (partner_low d j k hj hk))
      ∙ ap (place d) (xor_comm (partner d j k) (mask_at d j) ∙ xor_twice d j k hj hk)
      ∙ (order_at d k hk).back
