-- The order that is given for some dimensions, and what is reported of it where the outputs have room and where not. Assumes nothing.
use mathlib.Core.Path.{◌≡◌, refl, sym, ap, ◌∙◌}
use mathlib.Core.List.{List, [], map}
use Prim.Native.Nat.{ℕ, zero, suc, ◌^◌, ◌≤◌, ◌<◌}
use native.Mathlib.Omega.{arith}
use lib.ListN.{length, length-map, take}
use lib.Seq.{take_at}
use borrow.Author.Tests.{lt-ltb, le-ltb, ltb-false}
use Rattle.masks.specs.declared.order.Order.{Order}
use Rattle.masks.specs.declared.outcome.Refusal.{Refusal}
use Rattle.masks.specs.Order.{order, place, up_from, places_of, held, order_tests, refused_order, OrderAnswer, order_given, blades_or_none}
use Rattle.masks.specs.Outcome.{refusal, too_many, no_room, unless, laid, number_of}
use Rattle.masks.proofs.OrderLaws.{blades_le, none_counted, order_given_lem, take_masks, up_length, masks_length, places_length}
use Rattle.masks.proofs.OutcomeLaws.{past, refused_already, refused_first, refused_later, unless_number, refuses}
use Rattle.exports.specs.Order.{order_of_tests, ReportsOrderOf}
use Rattle.exports.proofs.ReportsLaws.{kept_reported, done_reported}

-- ---- the order that is given

-- Its number is that of the test of the dimensions.
given_number : (d : ℕ) → (order_given d).number ≡ refusal (order_tests d)
unfolding order_given
given_number d = unless_number (λ (o : OrderAnswer). o.number) refused_order (refusal (order_tests d)) _ refl refl

-- Where it is 0 they are at most 9.
given_small : (d : ℕ) → (order_given d).number ≡ 0 → d ≤ 9
given_small d z = ltb-false 9 d (past (too_many d) [] (λ q. omega arith) (sym (given_number d) ∙ z)).0

take_places : (d : ℕ) → take (2 ^ d) (places_of d) ≡ map (place d) (up_from 0 (2 ^ d))
unfolding places_of held
take_places d =
    take_at (map (place d) (up_from 0 (2 ^ d))) _ (2 ^ d) (length-map (up_from 0 (2 ^ d)) (place d) ∙ up_length 0 (2 ^ d))

-- What is known of the order o of d dimensions, and of the number n of its masks.
pub record Sorted (d : ℕ) (o : Order) (n : ℕ) : Type 0 where
  pub small : d ≤ 9
  pub counted : n ≡ 2 ^ d
  pub few : n ≤ 512
  pub masks_full : length o.masks ≡ 512
  pub places_full : length o.places ≡ 512
  pub masks_in : take n o.masks ≡ order d
  pub places_in : take n o.places ≡ map (place d) (up_from 0 (2 ^ d))

pub sorted : (d : ℕ) (o : Order) (n : ℕ) → ((order_given d).number ≡ 0) × (o ≡ (order_given d).order) → n ≡ blades_or_none d → Sorted d o n
sorted d o n g f =
    let h = given_small d g.0 in
    let q = g.1 ∙ order_given_lem refl h in
    let m = none_counted f h in
    record {
      small = h;
      counted = m;
      few = omega (arith, m, blades_le d h);
      masks_full = ap (λ (o : Order). length o.masks) q ∙ masks_length d h;
      places_full = ap (λ (o : Order). length o.places) q ∙ places_length d h;
      masks_in = ap (λ (k : ℕ). take k o.masks) m ∙ ap (λ (o : Order). take (2 ^ d) o.masks) q ∙ take_masks d;
      places_in = ap (λ (k : ℕ). take k o.places) m ∙ ap (λ (o : Order). take (2 ^ d) o.places) q ∙ take_places d;
    }

-- ---- what is reported

module _ (d : ℕ) (masks places : List ℕ) (count : ℕ) where
  -- A refusal reports and writes nothing.
  order_refused : (n : ℕ) → n ≡ refusal (order_of_tests d (length masks) (length places)) → (n ≡ 0 → ⊥) → ReportsOrderOf d n masks masks places places count count
  unfolding unless
  order_refused zero e h = absurd (h refl)
  order_refused (suc n) e h = record { reports = rw (← e) (kept_reported (suc n) h); left = refl; right = refl }

  -- The dimensions are above 9.
  pub dims_refused : (n : ℕ) (e : Refusal) → (order_given d).number ≡ number_of e → n ≡ number_of e → ReportsOrderOf d n masks masks places places count count
  dims_refused n e g q =
      let z : n ≡ 0 → ⊥ = λ (z : n ≡ 0). refuses e (sym q ∙ z) in
      let r : n ≡ refusal (order_tests d) = q ∙ sym g ∙ given_number d in
      order_refused n (r ∙ sym (refused_already (order_tests d) _ (λ y. z (r ∙ y)))) z

  module _ (n : ℕ) (small : d ≤ 9) (e : n ≡ 2 ^ d) where
    -- One of the outputs is shorter than the count.
    pub masks_short : (r : ℕ) → r ≡ 3 → length masks < n → ReportsOrderOf d r masks masks places places count count
    masks_short r z h =
        order_refused r (z ∙ sym (refused_later (too_many d) _ (le-ltb 9 d small) ∙ refused_first (no_room (length masks) (2 ^ d)) _ (lt-ltb (length masks) (2 ^ d) (omega arith)))) (λ q. omega arith)

    pub places_short : (r : ℕ) → r ≡ 3 → n ≤ length masks → length places < n → ReportsOrderOf d r masks masks places places count count
    places_short r z g h =
        order_refused r (z ∙ sym (refused_later (too_many d) _ (le-ltb 9 d small) ∙ refused_later (no_room (length masks) (2 ^ d)) _ (le-ltb (length masks) (2 ^ d) (omega arith)) ∙ refused_first (no_room (length places) (2 ^ d)) [] (lt-ltb (length places) (2 ^ d) (omega arith)))) (λ q. omega arith)

    roomy : n ≤ length masks → n ≤ length places → refusal (order_of_tests d (length masks) (length places)) ≡ 0
    unfolding refusal
    roomy g h =
        rw (le-ltb 9 d small, le-ltb (length masks) (2 ^ d) (omega arith), le-ltb (length places) (2 ^ d) (omega arith))

-- Both outputs have room.
pub order_reported : (d : ℕ) (o : Order) (n : ℕ) (masks masks' places places' : List ℕ) (count : ℕ) → Sorted d o n → n ≤ length masks → n ≤ length places → masks' ≡ laid (take n o.masks) masks → places' ≡ laid (take n o.places) places → ReportsOrderOf d 0 masks masks' places places' count n
unfolding unless
order_reported d o n masks masks' places places' count s g h e f =
    let r = roomy d masks places count n s.small s.counted g h in
    record {
      reports = done_reported _ r s.counted;
      left = e ∙ ap (λ l. laid l masks) s.masks_in;
      right = f ∙ ap (λ l. laid l places) s.places_in;
    }
