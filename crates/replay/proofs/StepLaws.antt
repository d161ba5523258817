-- A step takes a value to a value, or is refused with 1. Assumes nothing.
use mathlib.Core.Path.{◌≡◌, refl, sym, ap, ◌∙◌, subst}
use mathlib.Core.Bool.{Bool, true, false, not, true≢false}
use mathlib.Core.List.{List, [], ◌∷◌}
use Prim.Native.Nat.{ℕ, ◌^◌, ◌≤◌}
use native.Mathlib.Omega.{arith}
use borrow.Author.Tests.{le-ltb, ltb-false, eq-eqb}
use lib.Dec.{ltb}
use lib.Ieee.{Float}
use lib.ListN.{length}
use Rattle.std.specs.Prelude.{Option, None, Some, is_some}
use Rattle.masks.specs.declared.shape.Shape.{Shape}
use Rattle.masks.specs.Outcome.{Test, Outcome, refusal, too_many, wrong_count, no_room, result_tests, refused_value}
use Rattle.masks.specs.Shape.{set_dims, conformed_shape}
use Rattle.masks.proofs.OrderLaws.{blades_le}
use Rattle.masks.proofs.OutcomeLaws.{refused_first, refused_later, unless_done, unless_number}
use Rattle.masks.proofs.ShapeLaws.{resized_length, set_dims_done, set_dims_taken}
use Rattle.arithmetic.specs.Operators.{result_dims}
use Rattle.arithmetic.specs.Reverse.{reverse}
use Rattle.arithmetic.specs.Compare.{YesNo, compared_tests, refused_yes_no, equals}
use Rattle.arithmetic.proofs.KeptLaws.{Accepted, kept_value}
use Rattle.arithmetic.proofs.OperatorsLaws.{operator_passed, multiply_shape, multiply_number, multiply_length}
use Rattle.arithmetic.proofs.ReverseLaws.{reversed_length}
use Rattle.replay.specs.declared.log.Step.{Step}
use Rattle.replay.specs.declared.log.Step.TheVariants.{Right, Left, Reverse, Dims, Halt}
use Rattle.replay.specs.Log.{names}
use Rattle.replay.specs.Step.{pose_times, is_equal, stepped, fires}

-- an outcome that is a value
pub record IsValue (o : Outcome) : Type 0 where
  pub done : o.number ≡ 0
  pub small : o.shape.dims ≤ 9
  pub counted : length o.coefs ≡ 2 ^ o.shape.dims

-- ---- numbers of refusals

-- a dimension above 9 is refused with 1
at_most_one : (n : ℕ) (ts : List Test) → (n ≤ 9 → refusal ts ≤ 1) → refusal (too_many n ∷ ts) ≤ 1
at_most_one n ts h = go (ltb 9 n) refl
  where
    go : (b : Bool) → ltb 9 n ≡ b → refusal (too_many n ∷ ts) ≤ 1
    go true e = omega (arith, refused_first (too_many n) ts e)
    go false e = omega (arith, refused_later (too_many n) ts e, h (ltb-false 9 n e))

-- counts that are right are not refused
counted_passes : (count d : ℕ) (ts : List Test) → count ≡ 2 ^ d → refusal ts ≤ 1 → refusal (wrong_count count d ∷ ts) ≤ 1
counted_passes count d ts e h = omega (arith, refused_later (wrong_count count d) ts (ap not (eq-eqb count (2 ^ d) e)), h)

-- there is room for any value
any_fits : (n : ℕ) → n ≤ 9 → refusal (no_room 512 (2 ^ n) ∷ []) ≤ 1
unfolding refusal
any_fits n h = rw (le-ltb 512 (2 ^ n) (blades_le n h)) (omega arith)

-- so of two values `*` is refused only with 1
times_number : (p v : Outcome) → IsValue p → IsValue v → (pose_times p v).number ≤ 1
times_number p v a b =
    rw (multiply_number p.shape v.shape p.coefs v.coefs 512)
    (at_most_one p.shape.dims _
    (λ h. at_most_one v.shape.dims _
    (λ k. at_most_one (result_dims p.shape v.shape v.coefs) _
    (λ l. counted_passes _ _ _ a.counted (counted_passes _ _ _ b.counted (any_fits _ l))))))

-- and of a value a change of dimensions
set_dims_number : (p : Outcome) (m : ℕ) → IsValue p → (set_dims p.shape m p.coefs 512).number ≤ 1
unfolding set_dims
set_dims_number p m a =
    let e : (set_dims p.shape m p.coefs 512).number ≡ refusal (result_tests p.shape.dims m (length p.coefs) 512 (2 ^ m)) = unless_number (λ (o : Outcome). o.number) refused_value _ _ refl refl in
    rw e (at_most_one p.shape.dims _ (λ h. at_most_one m _ (λ l. counted_passes _ _ _ a.counted (any_fits m l))))

-- `==` of two values is not refused
pub equal_done : (p v : Outcome) → IsValue p → IsValue v → (is_equal p v).number ≡ 0
unfolding equals refusal
equal_done p v a b =
    unless_number (λ (x : YesNo). x.number) refused_yes_no (refusal (compared_tests p.shape v.shape p.coefs v.coefs)) _ refl refl
    ∙ simp (le-ltb 9 p.shape.dims a.small, le-ltb 9 v.shape.dims b.small, eq-eqb (length p.coefs) (2 ^ p.shape.dims) a.counted, eq-eqb (length v.coefs) (2 ^ v.shape.dims) b.counted)

-- ---- values

-- `*` that is not refused gives a value
times_value : (p v : Outcome) → (pose_times p v).number ≡ 0 → IsValue (pose_times p v)
unfolding conformed_shape
times_value p v e =
    let z = sym (multiply_number p.shape v.shape p.coefs v.coefs 512) ∙ e in
    let d = ap (λ (s : Shape). s.dims) (multiply_shape p.shape v.shape p.coefs v.coefs 512 z) in
    record {
      done = e;
      small = rw d (operator_passed p.shape v.shape p.coefs v.coefs 512 z).result;
      counted = rw d (multiply_length p.shape v.shape p.coefs v.coefs 512 z);
    }

-- reverse of a value is one
reverse_value : (p : Outcome) → IsValue p → IsValue (reverse p.shape p.coefs 512)
reverse_value p a =
    let f : Accepted p.shape p.coefs 512 = record { small = a.small; counted = a.counted; roomy = blades_le p.shape.dims a.small } in
    rw (kept_value _ p.shape p.coefs 512 f) (record { done = refl; small = a.small; counted = reversed_length p.shape.dims p.coefs })

-- a change of dimensions that is not refused gives a value
set_dims_value : (s : Shape) (m : ℕ) (xs : List Float) → (set_dims s m xs 512).number ≡ 0 → IsValue (set_dims s m xs 512)
set_dims_value s m xs e =
    let t = set_dims_taken s m xs 512 e in
    rw (set_dims_done s m xs 512 t) (record { done = refl; small = t.result; counted = resized_length s.dims m xs })

-- halting leaves the pose
pub halt_stays : (k : ℕ) (p v : Outcome) → IsValue p → IsValue v → stepped (Some (Halt k)) p v ≡ p
unfolding stepped
halt_stays k p v a b = unless_done refused_value (is_equal p v).number 0 p (sym (equal_done p v a b)) refl

-- ---- steps

-- a step that is not refused gives a value
pub stepped_value : (s : Option Step) (p v : Outcome) → IsValue p → IsValue v → (stepped s p v).number ≡ 0 → IsValue (stepped s p v)
unfolding stepped
stepped_value (Some (Right k)) p v a b e = times_value p v e
stepped_value (Some (Left k)) p v a b e = times_value v p e
stepped_value (Some Reverse) p v a b e = reverse_value p a
stepped_value (Some (Dims m)) p v a b e = set_dims_value p.shape m p.coefs e
stepped_value (Some (Halt k)) p v a b e = subst IsValue (sym (halt_stays k p v a b)) a
stepped_value None p v a b e = a

-- one that is refused is refused with 1
pub stepped_number : (s : Option Step) (p v : Outcome) → IsValue p → IsValue v → (stepped s p v).number ≤ 1
unfolding stepped
stepped_number (Some (Right k)) p v a b = times_number p v a b
stepped_number (Some (Left k)) p v a b = times_number v p b a
stepped_number (Some Reverse) p v a b = omega (arith, (reverse_value p a).done)
stepped_number (Some (Dims m)) p v a b = set_dims_number p m a
stepped_number (Some (Halt k)) p v a b = omega (arith, ap (λ (o : Outcome). o.number) (halt_stays k p v a b), a.done)
stepped_number None p v a b = omega (arith, a.done)

-- a step that names no value does not look at one
pub unnamed : (s : Step) (p v w : Outcome) → is_some (names s) ≡ false → (stepped (Some s) p v ≡ stepped (Some s) p w) × (fires (Some s) p v ≡ fires (Some s) p w)
unfolding names stepped fires
unnamed (Right k) p v w e = absurd (true≢false e)
unnamed (Left k) p v w e = absurd (true≢false e)
unnamed Reverse p v w e = (refl, refl)
unnamed (Dims m) p v w e = (refl, refl)
unnamed (Halt k) p v w e = absurd (true≢false e)
