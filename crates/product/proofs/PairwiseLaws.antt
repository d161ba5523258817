-- Document 01's order of the pairs gives each place the sum of its own pairs: for each place of b, the one place of a whose mask differs from b's by k's. Assumes nothing.
use mathlib.Core.Path.{◌≡◌, refl, sym, ap, ◌∙◌}
use mathlib.Core.Bool.{Bool, true, false, cond}
use mathlib.Core.List.{List, map}
use mathlib.Core.Logic.{◌≢◌}
use Prim.Native.Nat.{ℕ, zero, suc, ◌^◌, ◌<◌, ◌≤◌}
use native.Mathlib.Decide.{dec_lt}
use native.Mathlib.Nat.{le_refl, le_of_lt, zero-add}
use native.Mathlib.Omega.{arith}
use lib.Arith.{lt_of_le-ne}
use lib.Dec.{eqb, ltb}
use lib.Ieee.{Float, nan, fin, Format, add, mul, of_int}
use lib.IntN.{ℤ}
use lib.ListN.{get_or, set, length, length-set, length-map, length-replicate, get_or-replicate}
use lib.Seq.{get_or-set_same, get_or-set_other}
use borrow.Author.Tests.{eqb-true, eqb-false, lt-ltb, le-ltb}
use Rattle.clifford.specs.Sum.{total}
use Rattle.clifford.specs.Pairs.{nonzero}
use Rattle.rounding.specs.Operation.{signed_one}
use Rattle.rounding.specs.Snap.{snap}
use Rattle.rounding.specs.Terms.{Term, prod}
use Rattle.masks.specs.declared.flavor.Flavor.{Flavor}
use Rattle.masks.specs.Order.{place, up_from}
use Rattle.masks.specs.Outcome.{nought}
use Rattle.masks.proofs.ListLaws.{get_d_map}
use Rattle.masks.proofs.OrderLaws.{order_at}
use Rattle.product.specs.declared.mode.Mode.{Mode}
use Rattle.product.specs.Mode.{pair_metric}
use Rattle.product.specs.Pairwise.{mask_at, metric_at, place_at, term, add_pair, inside, product, pairs_of, sums}
use Rattle.product.specs.inner.Pairwise.{negative, partner, gathered, sum_at}
use Rattle.product.specs.Accuracy.{contributing}
use Rattle.product.proofs.MetricSigns.{metric_sign}
use Rattle.product.proofs.PairsTotal.{contributing_pairs}
use Rattle.product.proofs.PairwisePartners.{partner_place, place_at_lt, partner_there, partner_goes}
use Rattle.product.proofs.ListLaws.{by_places}
use Rattle.product.proofs.PairwiseZero.{run_never_minus_zero}

-- A test of h against one number more gives the same, unless h is that number.
ltb_other : (h n : ℕ) → h ≢ n → ltb h n ≡ ltb h (suc n)
ltb_other h n e = elim (dec_lt h n) [
  | yes l ↦ lt-ltb h n l ∙ sym (lt-ltb h (suc n) (omega arith))
  | no l ↦ le-ltb h n (omega arith) ∙ sym (le-ltb h (suc n) (lt_of_le-ne (omega arith) (λ q. e (sym q))))
]

-- ---- a store that is made where t says so

module _ (t : Bool) (r : List Float) (k : ℕ) (x : Float) where
  store_length : length (cond t (set r k x) r) ≡ length r
  store_length = elim t as (λ b. length (cond b (set r k x) r) ≡ length r) [ true ↦ length-set r k x | false ↦ refl ]

  store_here : k < length r → get_or (cond t (set r k x) r) k nan ≡ cond t x (get_or r k nan)
  store_here h = elim t as (λ b. get_or (cond b (set r k x) r) k nan ≡ cond b x (get_or r k nan)) [ true ↦ get_or-set_same r k x nan h | false ↦ refl ]

  store_elsewhere : (n : ℕ) → n ≢ k → get_or (cond t (set r k x) r) n nan ≡ get_or r n nan
  store_elsewhere n h = elim t as (λ b. get_or (cond b (set r k x) r) n nan ≡ get_or r n nan) [ true ↦ get_or-set_other r k n x nan h | false ↦ refl ]

-- `taken t x` is the sum x with the term t.
abbrev taken : Format → Term → Float → Float
taken f t x = cond t.live (add f x (prod f t)) x

module _ (mode : Mode) (flavor : Flavor) (d : ℕ) where
  -- The pairs of all coefficients together are those of the product.
  pub pairs_total : total (2 ^ d) (λ k. contributing mode flavor d k) ≡ pairs_of mode flavor d
  pairs_total = contributing_pairs mode flavor d

  module _ (f : Format) (a b : List Float) where
    add_length : (i j : ℕ) (r : List Float) → length (add_pair mode flavor d f a b i j r) ≡ length r
    unfolding add_pair
    add_length i j r = store_length (nonzero (metric_at mode flavor d i j)) r (place_at mode flavor d i j) _

    inside_length : (j n : ℕ) (r : List Float) → length (inside mode flavor d f a b j n r) ≡ length r
    unfolding inside
    inside_length j zero r = refl
    inside_length j (suc i) r = add_length i j (inside mode flavor d f a b j i r) ∙ inside_length j i r

    pub sums_length : (n : ℕ) → length (sums mode flavor d f a b n) ≡ 2 ^ d
    unfolding sums
    sums_length zero = length-replicate (2 ^ d) nought
    sums_length (suc j) = inside_length j (2 ^ d) (sums mode flavor d f a b j) ∙ sums_length j

    pub product_length : length (product mode flavor d f a b) ≡ 2 ^ d
    unfolding product
    product_length = length-map (sums mode flavor d f a b (2 ^ d)) (snap f) ∙ sums_length (2 ^ d)

    -- The pair of i and j, at the place it goes to, is the term that is gathered there.
    pair_gathered : (i j : ℕ) (x : Float) → i < 2 ^ d → j < 2 ^ d
        → cond (nonzero (metric_at mode flavor d i j)) (add f x (term mode flavor d f a b i j)) x ≡ taken f (gathered mode flavor d a b (place_at mode flavor d i j) j) x
    unfolding metric_at term gathered
    pair_gathered i j x hi hj = rw (partner_there mode flavor d i j hi hj, (order_at d i hi).back) (go (nonzero m) refl)
      where
        m : ℤ
        m = pair_metric mode flavor d (mask_at d i) (mask_at d j)

        go : (t : Bool) → nonzero m ≡ t
            → cond t (add f x (mul f (mul f (of_int f m) (get_or a i nan)) (get_or b j nan))) x ≡ cond t (add f x (mul f (mul f (signed_one (negative m)) (get_or a i nan)) (get_or b j nan))) x
        go true e = rw (metric_sign mode flavor d (mask_at d i) (mask_at d j) f e)
        go false e = refl

    -- A pair leaves its term at the place it goes to.
    add_here : (i j : ℕ) (r : List Float) → i < 2 ^ d → j < 2 ^ d → length r ≡ 2 ^ d
        → get_or (add_pair mode flavor d f a b i j r) (place_at mode flavor d i j) nan ≡ taken f (gathered mode flavor d a b (place_at mode flavor d i j) j) (get_or r (place_at mode flavor d i j) nan)
    unfolding add_pair
    add_here i j r hi hj l =
        store_here (nonzero (metric_at mode flavor d i j)) r (place_at mode flavor d i j) _ (omega (arith, place_at_lt mode flavor d i j hi hj))
        ∙ pair_gathered i j (get_or r (place_at mode flavor d i j) nan) hi hj

    -- It leaves the other places as they are.
    add_elsewhere : (i j k : ℕ) (r : List Float) → k ≢ place_at mode flavor d i j → get_or (add_pair mode flavor d f a b i j r) k nan ≡ get_or r k nan
    unfolding add_pair
    add_elsewhere i j k r h = store_elsewhere (nonzero (metric_at mode flavor d i j)) r (place_at mode flavor d i j) _ k h

    -- Of a's places below n, one alone brings something to place k.
    one_hit : (j k n : ℕ) (r : List Float) → j < 2 ^ d → k < 2 ^ d → n ≤ 2 ^ d → length r ≡ 2 ^ d
        → get_or (inside mode flavor d f a b j n r) k nan ≡ cond (ltb (place d (partner d j k)) n) (taken f (gathered mode flavor d a b k j) (get_or r k nan)) (get_or r k nan)
    unfolding inside
    one_hit j k zero r hj hk hn l = rw (le-ltb (place d (partner d j k)) 0 (omega arith))
    one_hit j k (suc i) r hj hk hn l = go (one_hit j k i r hj hk (le_of_lt hn) l) (eqb k (place_at mode flavor d i j)) refl
      where
        old : List Float
        old = inside mode flavor d f a b j i r

        from : ℕ
        from = place d (partner d j k)

        sum : Float → Float
        sum x = taken f (gathered mode flavor d a b k j) x

        go : get_or old k nan ≡ cond (ltb from i) (sum (get_or r k nan)) (get_or r k nan) → (t : Bool) → eqb k (place_at mode flavor d i j) ≡ t
            → get_or (add_pair mode flavor d f a b i j old) k nan ≡ cond (ltb from (suc i)) (sum (get_or r k nan)) (get_or r k nan)
        go ih true e =
            let q : k ≡ place_at mode flavor d i j = eqb-true _ _ e in
            let here : from ≡ i = ap (λ (p : ℕ). place d (partner d j p)) q ∙ ap (place d) (partner_there mode flavor d i j hn hj) ∙ (order_at d i hn).back in
            rw (lt-ltb from (suc i) (omega arith))
            (rw (← q) at (add_here i j old hn hj (inside_length j i r ∙ l)) ∙ ap sum (ih ∙ rw (le-ltb from i (omega arith))))
        go ih false e =
            let q : k ≢ place_at mode flavor d i j = eqb-false _ _ e in
            let other : from ≢ i = λ h. q (sym (partner_goes mode flavor d j k hj hk) ∙ ap (λ (p : ℕ). place_at mode flavor d p j) h) in
            add_elsewhere i j k old q ∙ ih ∙ rw (ltb_other from i other)

    -- After b's places below n, place k has the sum of its own pairs.
    below : (n k : ℕ) → n ≤ 2 ^ d → k < 2 ^ d → get_or (sums mode flavor d f a b n) k nan ≡ sum_at mode flavor d a b f k n
    unfolding sums sum_at
    below zero k hn hk = get_or-replicate (2 ^ d) k nought nan hk
    below (suc j) k hn hk =
        one_hit j k (2 ^ d) (sums mode flavor d f a b j) hn hk (le_refl (2 ^ d)) (sums_length j)
        ∙ rw (lt-ltb (place d (partner d j k)) (2 ^ d) (partner_place d j k hn hk), below j k (le_of_lt hn) hk)

    pub sums_at : (k : ℕ) → k < 2 ^ d → get_or (sums mode flavor d f a b (2 ^ d)) k nan ≡ sum_at mode flavor d a b f k (2 ^ d)
    sums_at k h = below (2 ^ d) k (le_refl (2 ^ d)) h

    pub product_at_lem : (k : ℕ) → k < 2 ^ d → get_or (product mode flavor d f a b) k nan ≡ snap f (sum_at mode flavor d a b f k (2 ^ d))
    unfolding product
    product_at_lem k h =
        get_d_map (snap f) (sums mode flavor d f a b (2 ^ d)) k nan nan (omega (arith, sums_length (2 ^ d)))
        ∙ ap (snap f) (sums_at k h)

    pub product_gathered : product mode flavor d f a b ≡ map (λ k. snap f (sum_at mode flavor d a b f k (2 ^ d))) (up_from 0 (2 ^ d))
    product_gathered =
        by_places (λ k. snap f (sum_at mode flavor d a b f k (2 ^ d))) 0 (2 ^ d) (product mode flavor d f a b) product_length
        (λ k h. rw (zero-add k) (product_at_lem k h))

    -- A product's sum before the snap is never -0.
    pub never_minus_zero : (k : ℕ) → k < 2 ^ d → (e : ℤ) → get_or (sums mode flavor d f a b (2 ^ d)) k nan ≡ fin true 0 e → ⊥
    unfolding sum_at
    never_minus_zero k h e z = run_never_minus_zero f (gathered mode flavor d a b k) (2 ^ d) e (sym (sums_at k h) ∙ z)

    -- So the only -0 in a product comes from the snap.
    pub minus_zero_snapped : (k : ℕ) → k < 2 ^ d → (e : ℤ) → get_or (product mode flavor d f a b) k nan ≡ fin true 0 e
        → get_or (product mode flavor d f a b) k nan ≢ get_or (sums mode flavor d f a b (2 ^ d)) k nan
    minus_zero_snapped k h e z q = never_minus_zero k h e (sym q ∙ z)
