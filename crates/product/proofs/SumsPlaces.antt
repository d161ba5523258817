-- Laws of the lists by masks that the code keeps: a laid out, the rows' length, the sums taken back. Assumes nothing.
use mathlib.Core.Path.{◌≡◌, refl, sym, ap, ◌∙◌}
use mathlib.Core.Bool.{Bool, true, false, cond}
use mathlib.Core.List.{List, ◌∷◌, map}
use mathlib.Core.Logic.{◌≢◌}
use Prim.Native.Nat.{ℕ, zero, suc, ◌+◌, ◌^◌, ◌<◌, ◌≤◌}
use native.Mathlib.Nat.{mod-lt, not-suc-le-zero, le_of_suc-le-suc}
use native.Mathlib.Numerals.{add-one}
use native.Mathlib.Omega.{arith}
use lib.Bits.{bit_and, and_comm}
use lib.Dec.{eqb, ltb}
use lib.Ieee.{Float, nan, neg}
use lib.ListN.{length, get_or, set, take, replicate, length-map, length-set, length-replicate}
use lib.Pow.{pow_pos}
use lib.Seq.{get_or-set_same, get_or-set_other}
use borrow.Author.Tests.{eqb-true, eqb-false}
use Rattle.masks.specs.Order.{up_from}
use Rattle.masks.specs.Outcome.{nought}
use Rattle.masks.proofs.OrderLaws.{up_length}
use Rattle.product.specs.declared.mode.Mode.{Mode}
use Rattle.product.specs.declared.metric.Squares.{Squares}
use Rattle.product.specs.declared.plan.Plan.{Plan}
use Rattle.product.specs.inner.Plan.{plan_mask}
use Rattle.product.specs.declared.metric.Blade.{Blade}
use Rattle.product.specs.Given.{at_mask}
use Rattle.product.specs.inner.Metric.{blade_of}
use Rattle.product.specs.inner.Sums.{meets, with_pairs, turned_number, turned_at, rows_below}
use Rattle.product.proofs.ListLaws.{places_length, places_at, places_same}
use Rattle.product.proofs.Subsets.{and_twice}

replicate_at : (n : ℕ) (x : Float) (k : ℕ) → k < n → get_or (replicate n x) k nan ≡ x
replicate_at zero x k h = absurd (not-suc-le-zero h)
replicate_at (suc n) x zero h = refl
replicate_at (suc n) x (suc k) h = replicate_at n x k (le_of_suc-le-suc h)

pub take_replicate : (n m : ℕ) (x : Float) → n ≤ m → take n (replicate m x) ≡ replicate n x
take_replicate zero m x h = refl
take_replicate (suc n) zero x h = absurd (not-suc-le-zero h)
take_replicate (suc n) (suc m) x h = ap (λ (l : List Float). x ∷ l) (take_replicate n m x (le_of_suc-le-suc h))

-- ---- a by mask

module _ (μ : ℕ → ℕ) (d n : ℕ) (a : List Float) where
  -- Before any place, every mask has +0.
  pub lay_start : replicate n nought ≡ map (at_mask μ d a 0) (up_from 0 n)
  unfolding at_mask
  lay_start = places_same n (λ m. nought) (replicate n nought) (length-replicate n nought) (λ m h. replicate_at n nought m h)

  -- One place more leaves its number at its mask.
  pub lay_more : (i : ℕ) → μ i < n → set (map (at_mask μ d a i) (up_from 0 n)) (μ i) (get_or a i nan) ≡ map (at_mask μ d a (i + 1)) (up_from 0 n)
  unfolding at_mask
  lay_more i h =
      rw (add-one i)
      (places_same n (at_mask μ d a (suc i)) (set old (μ i) (get_or a i nan)) (length-set old (μ i) (get_or a i nan) ∙ places_length n (at_mask μ d a i))
      (λ m l. go m l (eqb (μ i) m) refl))
    where
      old : List Float
      old = map (at_mask μ d a i) (up_from 0 n)

      go : (m : ℕ) → m < n → (t : Bool) → eqb (μ i) m ≡ t → get_or (set old (μ i) (get_or a i nan)) m nan ≡ cond (eqb (μ i) m) (get_or a i nan) (at_mask μ d a i m)
      go m l true e =
          let q : μ i ≡ m = eqb-true _ _ e in
          rw (e, ← q) (get_or-set_same old (μ i) (get_or a i nan) nan (omega (arith, places_length n (at_mask μ d a i))))
      go m l false e =
          let q : μ i ≢ m = eqb-false _ _ e in
          rw e (get_or-set_other old (μ i) m (get_or a i nan) nan (λ z. q (sym z)) ∙ places_at n (at_mask μ d a i) m l)

-- ---- rows

pub pairs_long : (t : ℕ → Bool) (b : Blade) (y : Float) (am r : List Float) → length (with_pairs t b y am r) ≡ length r
unfolding with_pairs
pairs_long t b y am r = length-map (up_from 0 (length r)) _ ∙ up_length 0 (length r)

pub rows_length : (n : ℕ) (μ : ℕ → ℕ) (turn : ℕ) (mode : Mode) (s : Squares) (am b : List Float) (j : ℕ) → length (rows_below n μ turn mode s am b j) ≡ n
unfolding rows_below
rows_length n μ turn mode s am b zero = length-replicate n nought
rows_length n μ turn mode s am b (suc j) = pairs_long _ _ _ am _ ∙ rows_length n μ turn mode s am b j

-- One blade of b more is one row more.
pub rows_next : (n : ℕ) (μ : ℕ → ℕ) (turn : ℕ) (mode : Mode) (s : Squares) (am b : List Float) (j m : ℕ) (blade : Blade) (y : Float) (r after : List Float)
    → m ≡ μ j → blade ≡ blade_of s m → y ≡ turned_number turn m (get_or b j nan) → r ≡ rows_below n μ turn mode s am b j → after ≡ with_pairs (meets mode blade) blade y am r
    → after ≡ rows_below n μ turn mode s am b (j + 1)
unfolding rows_below
rows_next n μ turn mode s am b j m blade y r after em eb ey er e = e ∙ rw (eb, ey, er, em, add-one j)

-- ---- a blade of b

module _ (r : Blade) (s : Squares) (m : ℕ) (e : r ≡ blade_of s m) where
  pub blade_mask : r.mask ≡ m
  unfolding blade_of
  blade_mask = ap (λ (x : Blade). x.mask) e

  -- Its null vectors are its own.
  pub blade_null : bit_and r.mask r.null ≡ r.null
  unfolding blade_of
  blade_null =
      ap (λ (x : Blade). bit_and x.mask x.null) e ∙ and_comm m (bit_and m s.null) ∙ ap (λ (x : ℕ). bit_and x m) (and_comm m s.null)
      ∙ and_twice s.null m ∙ and_comm s.null m ∙ sym (ap (λ (x : Blade). x.null) e)

-- ---- the turned mask

pub turned_length : (change : Float → Float) (turn n : ℕ) (xs before after : List Float) → before ≡ xs → length xs ≡ n → after ≡ turned_at change turn before → length after ≡ n
turned_length change turn n xs before after b l e = ap length e ∙ go (ltb turn (length before)) ∙ ap length b ∙ l
  where
    go : (t : Bool) → length (cond t (set before turn (change (get_or before turn nan))) before) ≡ length before
    go true = length-set before turn _
    go false = refl

-- What is laid out, turned, summed and turned again, by the names of each step.
pub turned_sums : (n : ℕ) (μ : ℕ → ℕ) (mode : Mode) (b : List Float) (back : Float → Float) (turn turn' : ℕ) (s s' : Squares) (laid_out laid-out' am sums after : List Float)
    → turn ≡ turn' → s ≡ s' → laid_out ≡ laid-out' → am ≡ turned_at neg turn laid_out → sums ≡ rows_below n μ turn mode s am b n → after ≡ turned_at back turn sums
    → after ≡ turned_at back turn' (rows_below n μ turn' mode s' (turned_at neg turn' laid-out') b n)
turned_sums n μ mode b back turn turn' s s' l l' am sums after et es el ea er e = e ∙ rw (er, ea, el, es, et)

-- ---- a plan

-- A place's mask has no bit outside.
pub plan_low : (p : Plan) (i : ℕ) → plan_mask p i < 2 ^ p.shape.dims
plan_low p i = mod-lt (get_or p.given.now i 0) (pow_pos p.shape.dims)
