-- The reverse and the inverse reverse. Assumes nothing.
use mathlib.Core.Path.{◌≡◌, refl, sym, ap, ◌∙◌}
use mathlib.Core.Bool.{Bool, true, false, not, not-not}
use mathlib.Core.List.{List, [], ◌∷◌, map, map-map}
use Prim.Native.Nat.{ℕ, ◌%◌, ◌^◌, ◌≤◌, ◌<◌}
use native.Mathlib.Omega.{arith}
use lib.Count.{ones}
use lib.Dec.{ltb}
use lib.Ieee.{Float, nan, inf, fin, neg}
use lib.ListN.{length, get_or, take}
use Rattle.std.specs.Prelude.{Ok}
use Rattle.masks.specs.declared.shape.Shape.{Shape}
use Rattle.masks.specs.Order.{order}
use Rattle.masks.specs.Outcome.{Gives, laid, value}
use Rattle.masks.specs.Shape.{coef, negated_if, set_dims}
use Rattle.masks.proofs.ListLaws.{get_d_map}
use Rattle.masks.proofs.OrderLaws.{length_order, order_at}
use Rattle.masks.proofs.ShapeLaws.{coef_inside, ordered_length, ordered_at, ordered}
use Rattle.product.specs.Pairwise.{mask_at}
use Rattle.product.specs.Reverse.{reversed}
use Rattle.arithmetic.specs.Kept.{kept}
use Rattle.arithmetic.specs.Reverse.{reverse, inv_reversed}
use Rattle.arithmetic.proofs.KeptLaws.{Accepted, kept_value, copy_accepted, copy_changed}

-- ---- one number

neg_neg : (x : Float) → neg (neg x) ≡ x
unfolding neg
neg_neg nan = refl
neg_neg (inf s) = ap inf (not-not s)
neg_neg (fin s m e) = ap (λ (b : Bool). fin b m e) (not-not s)

negated_twice : (b : Bool) (x : Float) → negated_if b (negated_if b x) ≡ x
negated_twice true x = neg_neg x
negated_twice false x = refl

negated_not : (b : Bool) (x : Float) → negated_if b x ≡ neg (negated_if (not b) x)
negated_not true x = refl
negated_not false x = sym (neg_neg x)

-- ---- the value

pub reversed_length : (d : ℕ) (a : List Float) → length (reversed d a) ≡ 2 ^ d
unfolding reversed
reversed_length d a = ordered_length _ d

pub inv_reversed_length : (d : ℕ) (a : List Float) → length (inv_reversed d a) ≡ 2 ^ d
unfolding inv_reversed
inv_reversed_length d a = ordered_length _ d

-- Grades 0, 1 mod 4.
abbrev low : ℕ → Bool
low m = ltb (ones m % 4) 2

-- The inverse reverse at a place.
pub inv_reversed_at : (d : ℕ) (a : List Float) (k : ℕ) → k < 2 ^ d → get_or (inv_reversed d a) k nan ≡ negated_if (low (mask_at d k)) (get_or a k nan)
unfolding inv_reversed
inv_reversed_at d a k h =
    get_d_map _ (order d) k 0 nan (omega (arith, length_order d))
    ∙ ap (negated_if (low (mask_at d k))) (coef_inside d (mask_at d k) a (order_at d k h).low ∙ ap (λ (i : ℕ). get_or a i nan) (order_at d k h).back)

map_same : (f g : ℕ → Float) → ((m : ℕ) → f m ≡ g m) → (ms : List ℕ) → map f ms ≡ map g ms
map_same f g e [] = refl
map_same f g e (m ∷ ms) = rw (e m, map_same f g e ms)

-- Reversing twice is the identity, bit for bit.
pub reversed_twice : (d : ℕ) (a : List Float) → length a ≡ 2 ^ d → reversed d (reversed d a) ≡ a
unfolding reversed
reversed_twice d a l =
    ordered _ d a l
    (λ m h. ap (negated_if (not (low m))) (ordered_at (λ (n : ℕ). negated_if (not (low n)) (coef d a n)) d m h) ∙ negated_twice (not (low m)) (coef d a m))

-- The inverse reverse is the reverse negated.
pub inv_reversed_lem : (d : ℕ) (a : List Float) → inv_reversed d a ≡ map neg (reversed d a)
unfolding reversed inv_reversed
inv_reversed_lem d a = map_same _ _ (λ m. negated_not (low m) (coef d a m)) (order d) ∙ sym (map-map neg (λ (m : ℕ). negated_if (not (low m)) (coef d a m)) (order d))

-- ---- the call

-- A copy that is done, of a call that keeps the shape.
module _ (s : Shape) (a : List Float) (t : Shape) (before mid : List Float) (g : Gives (set_dims s s.dims a (length before)) (Ok t) before mid) where
  -- What is changed at the front of the output is the call's value.
  pub copy_turned : (f : List Float → List Float) (after : List Float) → ((xs : List Float) → length (f xs) ≡ 2 ^ s.dims)
      → after ≡ laid (f (take (2 ^ s.dims) mid)) mid → Gives (kept f s a (length before)) (Ok t) before after
  copy_turned f after l e =
      let n : length a ≡ 2 ^ s.dims = (copy_accepted s a t before mid g).counted in
      copy_changed s a t before mid g f after (l a ∙ sym n) (e ∙ ap (λ (k : ℕ). laid (f (take k mid)) mid) (sym n))

  -- The output has room for the change.
  pub copy_roomy : length mid ≡ length before → (s.dims ≤ 9) × (2 ^ s.dims ≤ length mid)
  copy_roomy e = let f = copy_accepted s a t before mid g in (f.small, omega (arith, f.roomy))

-- The same of the call.
pub reverse_twice : (s : Shape) (a : List Float) (room : ℕ) → Accepted s a room → reverse s (reverse s a room).coefs room ≡ value s a
reverse_twice s a room f =
    let d = s.dims in
    let r = reversed d a in
    let again : Accepted s r room = record { small = f.small; counted = reversed_length d a; roomy = f.roomy } in
    ap (λ o. reverse s o.coefs room) (kept_value (reversed d) s a room f)
    ∙ kept_value (reversed d) s r room again ∙ ap (value s) (reversed_twice d a f.counted)
