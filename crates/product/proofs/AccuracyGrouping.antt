-- Demand 3: three factors group either way, and a product reverses, with equal numbers. Assumes nothing.
use mathlib.Core.Path.{◌≡◌, refl, sym, ap, ◌∙◌, subst}
use mathlib.Core.List.{List}
use Prim.Native.Nat.{ℕ, ◌+◌, ◌-◌, ◌^◌, ◌≤◌, ◌<◌}
use native.Mathlib.Nat.{add_assoc}
use native.Mathlib.Omega.{arith}
use lib.Ieee.{Float, nan, binary64}
use lib.IntN.{pos, ◌*ℤ◌}
use lib.ListN.{get_or}
use lib.Pow.{pow-add}
use Rattle.rounding.proofs.TermsLaws.{run_fits}
use Rattle.rounding.proofs.SnapLaws.{snap_fits}
use Rattle.masks.specs.declared.shape.Shape.{Shape}
use Rattle.product.specs.declared.mode.Mode.TheVariants.{All}
use Rattle.product.specs.Pairwise.{mask_at}
use Rattle.product.specs.inner.Pairwise.{gathered, sum_at}
use Rattle.product.specs.Products.{Counted}
use Rattle.product.specs.Whole.{whole}
use Rattle.product.specs.Accuracy.{exact_value_at, Holds, Fitting, ExactCase, IsExactly, EqualNumbers, times}
use Rattle.product.specs.Reverse.{reversed}
use Rattle.product.proofs.ProductsLaws.{multiplied_same}
use Rattle.product.proofs.PairwiseLaws.{product_length, product_at_lem}
use Rattle.product.proofs.AccuracyLaws.{exact}
use Rattle.product.proofs.AccuracyExact.{exact_sum_whole}
use Rattle.product.proofs.WholeLaws.{groups, reverses}
use Rattle.product.proofs.AccuracyUnits.{value_finer, exactly_finer, whole_ext, whole_scaled, equal_numbers}
use Rattle.product.proofs.ReverseLaws.{reversed_holds, reversed_multiples, reversed_value, reverse_ext, reversed_case}

module _ (s : Shape) (room : ℕ) (t : Fitting s room) where
  -- A product is a value again.
  pub times_holds : (a b : List Float) → Holds s.dims a → Holds s.dims b → Holds s.dims (times s room a b)
  unfolding sum_at
  times_holds a b u v =
      rw (ap (λ (c : Counted). c.outcome.coefs) (multiplied_same All s a b room t u.many v.many))
      record {
        many = product_length All s.flavor s.dims binary64 a b;
        held = λ i h. rw (product_at_lem All s.flavor s.dims binary64 a b i h) (snap_fits binary64 _ (run_fits binary64 (gathered All s.flavor s.dims a b i) (2 ^ s.dims)));
      }

  module _ (a b : List Float) (u : Holds s.dims a) (v : Holds s.dims b) (c : ExactCase All s.flavor s.dims a b) where
    -- In the exact case each coefficient is that of the product over the whole numbers, in units finer by r and w binary digits than those of the factors.
    exact_finer : (r w k : ℕ) → k < 2 ^ s.dims
        → IsExactly (c.p + r + (c.q + w)) (get_or (times s room a b) k nan) (whole s.flavor s.dims (exact_value_at (c.p + r) a) (exact_value_at (c.q + w) b) k)
    exact_finer r w k h =
        let f = s.flavor in
        let d = s.dims in
        let x = get_or (times s room a b) k nan in
        let n = whole f d (exact_value_at c.p a) (exact_value_at c.q b) k in
        let e = exact All s room a b t u v c k h in
        let unit : c.p + c.q + (r + w) ≡ c.p + r + (c.q + w) = omega arith in
        let value : n *ℤ pos (2 ^ (r + w)) ≡ whole f d (exact_value_at (c.p + r) a) (exact_value_at (c.q + w) b) k =
        ap (λ (m : ℕ). n *ℤ pos m) (pow-add 2 r w)
        ∙ sym (whole_scaled f d (exact_value_at c.p a) (exact_value_at c.q b) k (pos (2 ^ r)) (pos (2 ^ w)))
        ∙ whole_ext f d _ _ k _ _ (λ i l. sym (value_finer c.p r (get_or a i nan) (c.left i l))) (λ i l. sym (value_finer c.q w (get_or b i nan) (c.right i l))) in
        subst (λ (m : ℕ). IsExactly m x (whole f d (exact_value_at (c.p + r) a) (exact_value_at (c.q + w) b) k)) unit
        (subst (λ z. IsExactly (c.p + c.q + (r + w)) x z) value
        (exactly_finer (c.p + c.q) (r + w) x n (e.0, e.1 ∙ exact_sum_whole f d k c.p c.q a b h)))

    -- In any units that are as fine as those of the factors, or finer.
    pub times_exact : (y z : ℕ) → c.p ≤ y → c.q ≤ z → (k : ℕ) → k < 2 ^ s.dims
        → IsExactly (y + z) (get_or (times s room a b) k nan) (whole s.flavor s.dims (exact_value_at y a) (exact_value_at z b) k)
    times_exact y z l m k h =
        let left : c.p + (y - c.p) ≡ y = omega arith in
        let right : c.q + (z - c.q) ≡ z = omega arith in
        rw (left, right) at (exact_finer (y - c.p) (z - c.q) k h)

  pub grouping : (a b c : List Float) → Holds s.dims a → Holds s.dims b → Holds s.dims c
      → ExactCase All s.flavor s.dims a b → ExactCase All s.flavor s.dims (times s room a b) c
      → ExactCase All s.flavor s.dims b c → ExactCase All s.flavor s.dims a (times s room b c)
      → EqualNumbers s.dims (times s room (times s room a b) c) (times s room a (times s room b c))
  grouping a b c u v w ab abc bc a-bc k h =
      let f = s.flavor in
      let d = s.dims in
      -- one unit that is fine enough for all
      let n = ab.p + ab.q + (abc.p + abc.q) + (bc.p + bc.q) + (a-bc.p + a-bc.q) in
      let left = times_exact (times s room a b) c (times_holds a b u v) w abc (n + n) n (omega arith) (omega arith) k h in
      let right = times_exact a (times s room b c) u (times_holds b c v w) a-bc n (n + n) (omega arith) (omega arith) k h in
      let first = times_exact a b u v ab n n (omega arith) (omega arith) in
      let last = times_exact b c v w bc n n (omega arith) (omega arith) in
      equal_numbers (n + n + n) _ _ left.0 (rw (← add_assoc n n n) at right.0)
      (left.1 ∙ whole_ext f d _ _ k _ _ (λ i l. (first i l).1) (λ i l. refl)
      ∙ groups f d (exact_value_at n a) (exact_value_at n b) (exact_value_at n c) k
      ∙ sym (whole_ext f d _ _ k _ _ (λ i l. refl) (λ i l. (last i l).1)) ∙ sym right.1 ∙ rw (add_assoc n n n))

  pub reversing : (a b : List Float) → Holds s.dims a → Holds s.dims b → ExactCase All s.flavor s.dims a b
      → EqualNumbers s.dims (reversed s.dims (times s room a b)) (times s room (reversed s.dims b) (reversed s.dims a))
  reversing a b u v e k h =
      let f = s.flavor in
      let d = s.dims in
      let c = reversed_case f d a b e in
      -- one unit that is fine enough for both
      let n = e.p + e.q + (c.p + c.q) in
      let left = times_exact a b u v e n n (omega arith) (omega arith) in
      let right = times_exact (reversed d b) (reversed d a) (reversed_holds d b v) (reversed_holds d a u) c n n (omega arith) (omega arith) k h in
      equal_numbers (n + n) _ _ (reversed_multiples d (times s room a b) (n + n) (λ i l. (left i l).0) k h) right.0
      (reversed_value d (times s room a b) (n + n) k h ∙ reverse_ext d (mask_at d) _ _ k (left k h).1
      ∙ reverses f d (exact_value_at n a) (exact_value_at n b) k
      ∙ sym (right.1 ∙ whole_ext f d _ _ k _ _ (λ i l. reversed_value d b n i l) (λ i l. reversed_value d a n i l)))
