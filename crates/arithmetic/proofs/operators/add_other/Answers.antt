use mathlib.Core.Path.{◌≡◌, refl, sym, ap, ◌∙◌}
use mathlib.Core.List.{List}
use Prim.Native.Nat.{ℕ, zero, suc, ◌^◌, ◌≤◌}
use native.Mathlib.Omega.{arith}
use lib.Ieee.{Float}
use lib.ListN.{length, take, drop, length-append}
use lib.Seq.{length-take-le}
use Rattle.std.specs.Prelude.{Ok, Err}
use Rattle.std.proofs.lemmas.Result.{err_from_is_err_and}
use Rattle.masks.specs.declared.outcome.Refusal.{Refusal}
use Rattle.masks.specs.declared.shape.Shape.{Shape}
use Rattle.masks.specs.Outcome.{Pair, Gives, GivesBoth, unless, refused_pair, laid}
use Rattle.masks.specs.Shape.{conformed_shape, conform, meeting_dims}
use Rattle.masks.proofs.ShapeLaws.{paired, conform_dims, conform_lengths}
use Rattle.masks.proofs.ListLaws.{take_laid}
use Rattle.masks.proofs.OrderLaws.{blades_le, none_counted}
use Rattle.masks.proofs.OutcomeLaws.{refuses}
use Rattle.product.proofs.ListLaws.{laid_over}
use Rattle.arithmetic.specs.Operators.{Sum, summed_each, summed_pair}
use Rattle.arithmetic.proofs.OperatorsLaws.{each_length}
use Rattle.arithmetic.proofs.operators.add_other.Goals.{After-blades_or_none}
use Rattle.arithmetic.proofs.operators.add_other.Goals as goal

-- A pair is refused, or is not.
pair_refused : (k : ℕ) (o : Pair) → o.number ≡ 0 → ((unless refused_pair k o).number ≡ 0 → ⊥) → unless refused_pair k o ≡ refused_pair (unless refused_pair k o).number
unfolding unless
pair_refused zero o e h = absurd (h e)
pair_refused (suc k) o e h = refl

pair_done : (k : ℕ) (o : Pair) → (unless refused_pair k o).number ≡ 0 → (k ≡ 0) × (unless refused_pair k o ≡ o)
unfolding unless
pair_done zero o e = (refl, refl)
pair_done (suc k) o e = absurd (omega arith)

-- What conforming left in the output and in the buffer.
module _ (s t : Shape) (a b : List Float) (room : ℕ) (bx ax by ay : List Float) where
  abbrev p : Pair
  p = conform s t a b room 512

  -- What conforming refuses, the sum refuses.
  sum_refused : (e : Refusal) → GivesBoth p (Err e) bx ax by ay → (op : Sum) → Gives (summed_pair op p) (Err e) bx ax
  unfolding conform summed_each
  sum_refused e g op =
      let q : p ≡ refused_pair p.number = pair_refused _ _ refl (λ z. refuses e (sym g.answered ∙ z)) in
      record {
        answered = g.answered;
        left = g.left ∙ ap (λ (o : Pair). laid o.left_coefs bx) q ∙ ap (λ (o : Pair). laid (summed_pair op o).coefs bx) (sym q);
      }

  module _ (u : Shape × Shape) (g : GivesBoth p (Ok u) bx ax by ay) where
    small : u.0.dims ≤ 9
    unfolding conform conformed_shape
    small =
        let q = pair_done _ _ g.answered.0 in
        rw (ap (λ (x : Shape × Shape). x.0.dims) g.answered.1, ap (λ (o : Pair). o.left_shape.dims) q.1)
        (paired s.dims t.dims (meeting_dims s t) (length a) (length b) room 512 q.0).result

    left_length : length p.left_coefs ≡ 2 ^ u.0.dims
    left_length = (conform_lengths s t a b room 512 g.answered.0).0 ∙ ap (λ (x : Shape × Shape). 2 ^ x.0.dims) (sym g.answered.1)

    right_length : length p.right_coefs ≡ 2 ^ u.0.dims
    right_length =
        (conform_lengths s t a b room 512 g.answered.0).1 ∙ ap (λ (d : ℕ). 2 ^ d) (sym (conform_dims s t a b room 512)) ∙ ap (λ (x : Shape × Shape). 2 ^ x.0.dims) (sym g.answered.1)

    left_part : take (length p.right_coefs) ax ≡ p.left_coefs
    left_part = ap (take (length p.right_coefs)) g.left ∙ take_laid (length p.right_coefs) p.left_coefs bx (left_length ∙ sym right_length)

    module _ (n : ℕ) (e : n ≡ 2 ^ u.0.dims) where
      right_part : take n ay ≡ p.right_coefs
      right_part = ap (take n) g.right ∙ take_laid n p.right_coefs by (right_length ∙ sym e)

      fits : length (take n ay) ≤ length ax
      fits =
          omega (arith, ap length right_part, right_length, left_length, ap length g.left, length-append p.left_coefs (drop (length p.left_coefs) bx))

      -- The conformed values are added where the left one lies.
      sum_over : (op : Sum) (after : List Float) → after ≡ laid (summed_each op (take (length (take n ay)) ax) (take n ay)) ax → Gives (summed_pair op p) (Ok u.0) bx after
      sum_over op after l =
          record {
            answered = (g.answered.0, ap (λ (x : Shape × Shape). x.0) g.answered.1);
            left =
                l ∙ ap (λ (ys : List Float). laid (summed_each op (take (length ys) ax) ys) ax) right_part
                ∙ ap (λ (xs : List Float). laid (summed_each op xs p.right_coefs) ax) left_part
                ∙ ap (laid (summed_each op p.left_coefs p.right_coefs)) g.left
                ∙ laid_over (summed_each op p.left_coefs p.right_coefs) p.left_coefs bx (each_length op p.left_coefs p.right_coefs (left_length ∙ sym right_length));
          }

pub returns-in_err-shape : goal.returns-in_err-shape
returns-in_err-shape g c op h =
    let q = err_from_is_err_and c.from_residual.result c.from_residual.ensures.1 in
    rw (q.1, q.2) (sum_refused _ _ _ _ _ _ _ _ _ _ c.in_err-shape.ensures op)

pub slice_bounds-y-end : goal.slice_bounds-y-end
slice_bounds-y-end g c =
    let l = small _ _ _ _ _ _ _ _ _ (c.in_ok-shape.shape, c.in_ok-shape.field-0-1) c.in_ok-shape.ensures in
    omega (arith, none_counted c.blades_or_none.ensures l, blades_le _ l, c.conform.auto.out_right)

pub slice_bounds-sum_each-end : goal.slice_bounds-sum_each-end
slice_bounds-sum_each-end g c =
    let l = small _ _ _ _ _ _ _ _ _ (c.in_ok-shape.shape, c.in_ok-shape.field-0-1) c.in_ok-shape.ensures in
    sym (length-take-le _ _ (omega (arith, none_counted c.blades_or_none.ensures l, blades_le _ l, c.conform.auto.out_right)))

pub sum_each-requires-clause-room : goal.sum_each-requires-clause-room
sum_each-requires-clause-room g c =
    let u : Shape × Shape = (c.in_ok-shape.shape, c.in_ok-shape.field-0-1) in
    let l = small _ _ _ _ _ _ _ _ _ u c.in_ok-shape.ensures in
    fits _ _ _ _ _ _ _ _ _ u c.in_ok-shape.ensures c.blades_or_none.result (none_counted c.blades_or_none.ensures l)

pub returns : goal.returns
returns g c op h =
    let u : Shape × Shape = (c.in_ok-shape.shape, c.in_ok-shape.field-0-1) in
    let l = small _ _ _ _ _ _ _ _ _ u c.in_ok-shape.ensures in
    sum_over _ _ _ _ _ _ _ _ _ u c.in_ok-shape.ensures c.blades_or_none.result (none_counted c.blades_or_none.ensures l) op _ (c.sum_each.ensures op h)
