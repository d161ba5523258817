-- The laws of `with_pairs`: what the sums are at each mask, one pair more, and two tests that no mask passes both of. Assumes nothing.
use mathlib.Core.Path.{◌≡◌, refl, sym, ◌∙◌, ap, ap₂}
use mathlib.Core.Bool.{Bool, true, false, ◌&&◌, ◌||◌, cond, true≢false, or-false}
use mathlib.Core.List.{List, [], ◌∷◌}
use mathlib.Core.Logic.{◌≢◌}
use Prim.Native.Nat.{ℕ, zero, suc, ◌%◌, ◌^◌, ◌<◌}
use native.Mathlib.Omega.{arith}
use native.Mathlib.Nat.{mod-lt, zero-lt-suc}
use native.Mathlib.Decide.{ℕ_discrete}
use lib.Bits.{bit_and, bit_xor, xor_comm, xor_lt}
use lib.Count.{ones}
use lib.Dec.{eqb}
use lib.Ieee.{Float, nan, binary64, add, mul, neg}
use lib.ListN.{length, get_or, set, length-set}
use lib.Seq.{get_or-set_same, get_or-set_other}
use borrow.Author.Tests.{eq-eqb, ne_eqb}
use Rattle.clifford.proofs.BladeLaws.{xor_cancel}
use Rattle.product.specs.declared.metric.Blade.{Blade}
use Rattle.product.specs.inner.Sums.{signed_product, with_pairs}
use Rattle.product.proofs.ListLaws.{places_length, places_at, places_same}

-- b's number y or its negative, as the code picks it.
picked : (y : Float) (k : ℕ) → k < 2 → get_or (y ∷ neg y ∷ []) k nan ≡ cond (eqb k 1) (neg y) y
picked y zero h = refl
picked y (suc zero) h = refl
picked y (suc (suc k)) h = absurd (omega arith)

-- The pair of a mask that passes one of two tests.
both_at : (g p : Float) (x z : Bool) → (x && z) ≡ false → cond z (add binary64 (cond x (add binary64 g p) g) p) (cond x (add binary64 g p) g) ≡ cond (x || z) (add binary64 g p) g
both_at g p true true e = absurd (true≢false e)
both_at g p true false e = refl
both_at g p false true e = refl
both_at g p false false e = refl

-- The pair of the mask m, added as `add_pair` does.
abbrev pub with_pair : ℕ → Blade → Float → List Float → List Float → List Float
with_pair m b y am r =
    set r (bit_xor m b.mask) (add binary64 (get_or r (bit_xor m b.mask) nan) (mul binary64 (get_or am m nan) (get_or (y ∷ neg y ∷ []) (ones (bit_and m b.flips) % 2) nan)))

module _ (b : Blade) (y : Float) (am : List Float) where
  -- The sum at c, with the pair of c's mask of a where that passes the test.
  abbrev sum_at : (ℕ → Bool) → List Float → ℕ → Float
  sum_at t r c = cond (t (bit_xor c b.mask)) (add binary64 (get_or r c nan) (signed_product b y am (bit_xor c b.mask))) (get_or r c nan)

  pub pairs_length : (t : ℕ → Bool) (r : List Float) → length (with_pairs t b y am r) ≡ length r
  unfolding with_pairs
  pairs_length t r = places_length (length r) (sum_at t r)

  pub pairs_at : (t : ℕ → Bool) (r : List Float) (c : ℕ) → c < length r → get_or (with_pairs t b y am r) c nan ≡ sum_at t r c
  unfolding with_pairs
  pairs_at t r c h = places_at (length r) (sum_at t r) c h

  pairs_same : (t : ℕ → Bool) (r l : List Float) → length l ≡ length r → ((c : ℕ) → c < length r → get_or l c nan ≡ sum_at t r c) → l ≡ with_pairs t b y am r
  unfolding with_pairs
  pairs_same t r l e h = places_same (length r) (sum_at t r) l e h

  -- Tests that agree at a sum's mask of a give the same sum.
  at_ext : (t u : ℕ → Bool) (r : List Float) (c : ℕ) → t (bit_xor c b.mask) ≡ u (bit_xor c b.mask) → sum_at t r c ≡ sum_at u r c
  at_ext t u r c e = ap (λ x. cond x (add binary64 (get_or r c nan) (signed_product b y am (bit_xor c b.mask))) (get_or r c nan)) e

  module _ (d : ℕ) (low : b.mask < 2 ^ d) (r : List Float) (size : length r ≡ 2 ^ d) where
    -- The mask of a that a sum's mask has a pair with.
    other : (c : ℕ) → c < length r → bit_xor c b.mask < 2 ^ d
    other c h = xor_lt d c b.mask (omega arith) low

    back : (m : ℕ) → m < 2 ^ d → bit_xor (bit_xor m b.mask) b.mask ≡ m
    back m h = xor_comm (bit_xor m b.mask) b.mask ∙ xor_cancel d m b.mask h low

    pub pairs_ext : (t u : ℕ → Bool) → ((m : ℕ) → m < 2 ^ d → t m ≡ u m) → with_pairs t b y am r ≡ with_pairs u b y am r
    pairs_ext t u e =
        pairs_same u r (with_pairs t b y am r) (pairs_length t r) (λ c h. pairs_at t r c h ∙ at_ext t u r c (e (bit_xor c b.mask) (other c h)))

    pub pairs_none : (t : ℕ → Bool) → ((m : ℕ) → m < 2 ^ d → t m ≡ false) → with_pairs t b y am r ≡ r
    pairs_none t e = sym (pairs_same t r r refl (λ c h. at_ext (λ m. false) t r c (sym (e (bit_xor c b.mask) (other c h)))))

    pub pairs_both : (t u : ℕ → Bool) → ((m : ℕ) → m < 2 ^ d → (t m && u m) ≡ false)
        → with_pairs u b y am (with_pairs t b y am r) ≡ with_pairs (λ m. t m || u m) b y am r
    pairs_both t u e =
        let w = with_pairs t b y am r in
        pairs_same (λ m. t m || u m) r (with_pairs u b y am w) (pairs_length u w ∙ pairs_length t r)
        (λ c h.
        let m = bit_xor c b.mask in
        let p = signed_product b y am m in
        pairs_at u w c (omega (arith, pairs_length t r))
        ∙ ap (λ (g : Float). cond (u m) (add binary64 g p) g) (pairs_at t r c h)
        ∙ both_at (get_or r c nan) p (t m) (u m) (e m (other c h)))

    -- One mask more: its pair is added at its place, and the other sums stay.
    pub pairs_more : (t u : ℕ → Bool) (m : ℕ) → m < 2 ^ d → t m ≡ false → ((k : ℕ) → k < 2 ^ d → u k ≡ (t k || eqb k m))
        → with_pair m b y am (with_pairs t b y am r) ≡ with_pairs u b y am r
    pairs_more t u m h none more =
        let w = with_pairs t b y am r in
        let place = bit_xor m b.mask in
        let sign = ones (bit_and m b.flips) % 2 in
        let v = add binary64 (get_or w place nan) (mul binary64 (get_or am m nan) (get_or (y ∷ neg y ∷ []) sign nan)) in
        let inside : place < length r = omega (arith, xor_lt d m b.mask h low) in
        let added : u m ≡ true = more m h ∙ ap₂ (λ x z. x || z) none (eq-eqb m m refl) in
        let there : get_or (set w place v) place nan ≡ sum_at u r place =
        get_or-set_same w place v nan (omega (arith, pairs_length t r))
        ∙ ap₂ (λ (g s : Float). add binary64 g (mul binary64 (get_or am m nan) s))
        (pairs_at t r place inside ∙ at_ext t (λ k. false) r place (ap t (back m h) ∙ none)) (picked y sign (mod-lt (ones (bit_and m b.flips)) (zero-lt-suc 1)))
        ∙ ap (λ x. cond x (add binary64 (get_or r place nan) (signed_product b y am m)) (get_or r place nan)) (sym added)
        ∙ ap (λ (k : ℕ). cond (u k) (add binary64 (get_or r place nan) (signed_product b y am k)) (get_or r place nan)) (sym (back m h))
        in
        let elsewhere : (c : ℕ) → c < length r → c ≢ place → get_or (set w place v) c nan ≡ sum_at u r c =
        λ c l ne.
        let k = bit_xor c b.mask in
        let apart : eqb k m ≡ false = ne_eqb k m (λ e. ne (sym (back c (omega arith)) ∙ ap (λ (j : ℕ). bit_xor j b.mask) e)) in
        get_or-set_other w place c v nan ne ∙ pairs_at t r c l
        ∙ at_ext t u r c (sym (more k (other c l) ∙ ap (λ x. t k || x) apart ∙ or-false (t k)))
        in
        pairs_same u r (set w place v) (length-set w place v ∙ pairs_length t r)
        (λ c l. elim (ℕ_discrete c place) [ yes e ↦ ap (λ (k : ℕ). get_or (set w place v) k nan) e ∙ there ∙ ap (sum_at u r) (sym e) | no ne ↦ elsewhere c l ne ])
