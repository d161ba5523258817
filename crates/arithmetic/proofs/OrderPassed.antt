-- An order that is built once and passed down: a product that is given it takes the order's masks. Assumes nothing.
use mathlib.Core.Path.{◌≡◌, refl, sym, ap, ◌∙◌, subst}
use mathlib.Core.List.{List, []}
use Prim.Native.Nat.{ℕ, ◌^◌, ◌≤◌, ◌<◌}
use native.Mathlib.Decide.{ℕ_discrete}
use native.Mathlib.Nat.{mod-eq_of_lt}
use native.Mathlib.Omega.{arith}
use lib.Arith.{lt_of_le-ne}
use lib.ListN.{length, get_or, take, replicate, length-replicate}
use lib.Pow.{pow_pos, pow-lt}
use Rattle.std.specs.Prelude.{Result, IsOk}
use Rattle.masks.specs.declared.flavor.Flavor.TheVariants.{Vanilla}
use Rattle.masks.specs.declared.outcome.Refusal.{Refusal}
use Rattle.masks.specs.declared.shape.Shape.{Shape}
use Rattle.masks.specs.Order.{order, GivesOrder}
use Rattle.masks.specs.Outcome.{shape_of}
use Rattle.masks.specs.Shape.{meeting_dims}
use Rattle.masks.proofs.BuildLaws.{put_order_done}
use Rattle.masks.proofs.ListLaws.{take_laid}
use Rattle.masks.proofs.OrderLaws.{length_order, order_at}
use Rattle.product.specs.Given.{given_mask}
use Rattle.product.proofs.GivenLaws.{given_enough, given_few, given_order}
use Rattle.arithmetic.specs.inner.Given.{InOrder}
use Rattle.arithmetic.proofs.OperatorsLaws.{promotes_same}

-- ---- the masks

-- No masks are too few.
pub passed_none : (d : ℕ) → InOrder [] d
passed_none d i h = sym (given_few [] d i (pow_pos d))

-- The order of d dimensions has the masks of d; for more dimensions it is too short.
passed_order : (d n : ℕ) → d ≤ n → InOrder (order d) n
passed_order d n l i h =
    elim (ℕ_discrete d n) [
      | yes e ↦
          let k : i < 2 ^ d = rw e h in
          ap (λ (m : ℕ). given_mask (order d) m i) (sym e)
          ∙ sym (given_enough (order d) d i (omega (arith, length_order d)))
          ∙ mod-eq_of_lt (order_at d i k).low
          ∙ ap (λ (m : ℕ). get_or (order m) i 0) e
      | no w ↦ sym (given_few (order d) n i (omega (arith, length_order d, pow-lt (lt_of_le-ne l w))))
    ]

-- There is room in an array of n items for n of them.
pub array_room : {A : Type 0} {m n : ℕ} (x : A) → m ≤ n → m ≤ length (replicate n x)
array_room {n = n} x h = omega (arith, length-replicate n x)

-- What `put_order` has written, and the part that holds its masks.
module _ {d : ℕ} {r : Result (Unit {0}) Refusal} {before after : List ℕ} (g : GivesOrder d r before after) (h : d ≤ 9) (l : 2 ^ d ≤ length before) where
  pub order_put : IsOk r
  order_put = subst IsOk (sym (put_order_done g h l).0) refl

  pub passed_put : InOrder after d
  passed_put i k = ap (λ (xs : List ℕ). given_mask xs d i) (put_order_done g h l).1 ∙ given_order d before i l k

  pub passed_part : (n k : ℕ) → d ≤ n → k ≡ 2 ^ d → InOrder (take k after) n
  passed_part n k m e =
      let part : take k after ≡ order d = ap (take k) (put_order_done g h l).1 ∙ take_laid k (order d) before (length_order d ∙ sym e) in
      subst (λ (xs : List ℕ). InOrder xs n) (sym part) (passed_order d n m)

-- ---- where values meet

-- A value meets itself in its own dimensions.
pub passed_same : (s : Shape) (given : List ℕ) → InOrder given s.dims → InOrder given (meeting_dims s s)
passed_same s given h =
    let e : meeting_dims s s ≡ s.dims = rw (promotes_same s.flavor) (omega arith) in
    subst (λ (n : ℕ). InOrder given n) (sym e) h

-- So do two Vanilla values of d dimensions.
pub passed_vanilla : (given : List ℕ) (d : ℕ) (v : Shape) → v ≡ shape_of d Vanilla → InOrder given d → InOrder given (meeting_dims v v)
passed_vanilla given d v e h = passed_same v given (subst (λ (n : ℕ). InOrder given n) (sym (ap (λ (s : Shape). s.dims) e)) h)

-- A value of the same flavor and no more dimensions meets another in that one's.
pub passed_grown : (g s : Shape) (given : List ℕ) → g.flavor ≡ s.flavor → s.dims ≤ g.dims → InOrder given g.dims → InOrder given (meeting_dims g s)
passed_grown g s given f m h =
    let e : meeting_dims g s ≡ g.dims = rw (f, promotes_same s.flavor) (omega arith) in
    subst (λ (n : ℕ). InOrder given n) (sym e) h

-- The right one's dimensions are no more than those that both meet in.
pub right_meets : (s t : Shape) → t.dims ≤ meeting_dims s t
right_meets s t = omega arith
