-- Steps, one after the other, and when a log is refused. Assumes nothing.
use mathlib.Core.Path.{◌≡◌, refl, sym, ap, ap₂, ◌∙◌}
use mathlib.Core.Bool.{Bool, true, false, not, ◌&&◌, cond, true≢false, false≢true, and-false}
use mathlib.Core.List.{List, [], ◌∷◌}
use Prim.Native.Nat.{ℕ, zero, suc, ◌+◌, ◌*◌, ◌/◌, ◌%◌, ◌≤◌, ◌<◌, suc-le-suc}
use native.Mathlib.Nat.{zero-lt-suc, le_of_suc-le-suc, not-suc-le-zero}
use native.Mathlib.Omega.{arith}
use borrow.Author.Tests.{ltb-true, ltb-false, le-ltb, eqb-true, eqb-false, ne_eqb, not-false}
use lib.Dec.{eqb, ltb}
use lib.ListN.{length, get_or, take, drop, replicate}
use lib.Seq.{get_or-take, get_or-drop}
use Rattle.std.specs.List.{list_all}
use Rattle.std.specs.Prelude.{Option, None, Some, is_some}
use Rattle.masks.specs.Outcome.{refusal}
use Rattle.masks.proofs.ListLaws.{both_true}
use Rattle.masks.proofs.OutcomeLaws.{past}
use Rattle.sheets.specs.Bytes.{parts}
use Rattle.sheets.proofs.BytesLaws.{get_d-parts}
use Rattle.replay.specs.declared.log.Step.{Step}
use Rattle.replay.specs.declared.log.Step.TheVariants.{Right, Left, Reverse, Dims, Halt}
use Rattle.replay.specs.Log.{step_of, steps_of, names, fits, all_fit, log_tests}
use Rattle.replay.specs.Step.{named}

-- ---- the steps of a log

pub steps_length : (log : List ℕ) → length (steps_of log) ≡ length log / 2 + length log % 2
unfolding steps_of
steps_length [] = refl
steps_length (kind ∷ []) = refl
steps_length (kind ∷ k ∷ log) = omega (arith, steps_length log)

-- the step at an index
pub step_at : (log : List ℕ) (i : ℕ) → 2 * i + 1 < length log → get_or (steps_of log) i None ≡ step_of (get_or log (2 * i) 0) (get_or log (2 * i + 1) 0)
unfolding steps_of
step_at [] i h = absurd (omega arith)
step_at (kind ∷ []) i h = absurd (omega arith)
step_at (kind ∷ k ∷ log) zero h = refl
step_at (kind ∷ k ∷ log) (suc i) h =
    let e : 2 * suc i ≡ suc (suc (2 * i)) = omega arith in
    let f : 2 * suc i + 1 ≡ suc (suc (2 * i + 1)) = omega arith in
    rw (f, e) (step_at log i (omega arith))

-- the first k of them are those of the first 2k bytes
pub steps_take : (log : List ℕ) (k : ℕ) → 2 * k ≤ length log → steps_of (take (2 * k) log) ≡ take k (steps_of log)
unfolding steps_of
steps_take log zero h = refl
steps_take [] (suc k) h = absurd (omega arith)
steps_take (kind ∷ []) (suc k) h = absurd (omega arith)
steps_take (kind ∷ j ∷ log) (suc k) h =
    let e : 2 * suc k ≡ suc (suc (2 * k)) = omega arith in
    rw e (ap (λ (ss : List (Option Step)). step_of kind j ∷ ss) (steps_take log k (omega arith)))

-- ---- steps that fit

pub fit_at : (n : ℕ) (ss : List (Option Step)) (i : ℕ) → i < length ss → all_fit n ss ≡ true → fits n (get_or ss i None) ≡ true
unfolding all_fit
fit_at n [] i h e = absurd (not-suc-le-zero h)
fit_at n (s ∷ ss) zero h e = (both_true (fits n s) (all_fit n ss) e).0
fit_at n (s ∷ ss) (suc i) h e = fit_at n ss i (le_of_suc-le-suc h) (both_true (fits n s) (all_fit n ss) e).1

-- the test of the library's `all`, pair by pair
pub fit_every : (n : ℕ) (log : List ℕ) → length log % 2 ≡ 0 → list_all (λ c. fits n (step_of (get_or c 0 0) (get_or c 1 0))) (parts 2 (length log / 2) log) ≡ all_fit n (steps_of log)
unfolding all_fit steps_of parts
fit_every n [] h = refl
fit_every n (kind ∷ []) h = absurd (omega arith)
fit_every n (kind ∷ k ∷ log) h =
    let m : length (kind ∷ k ∷ log) / 2 ≡ suc (length log / 2) = omega arith in
    rw m (ap (λ (b : Bool). fits n (step_of kind k) && b) (fit_every n log (omega arith)))

-- a pair of the log's bytes
pub pair_at : (log : List ℕ) (i j : ℕ) → i < length log / 2 → j < 2 → get_or (get_or (parts 2 (length log / 2) log) i []) j 0 ≡ get_or log (2 * i + j) 0
pair_at log i j h l = rw (get_d-parts 2 (length log / 2) log i h) (get_or-take 2 (drop (2 * i) log) j 0 l ∙ get_or-drop (2 * i) log j 0)

-- a step that does not fit
pub record Unfit (n : ℕ) (ss : List (Option Step)) : Type 0 where
  pub index : ℕ
  pub inside : index < length ss
  pub misfits : fits n (get_or ss index None) ≡ false

-- where not all fit, there is one
pub unfit_one : (n : ℕ) (ss : List (Option Step)) → all_fit n ss ≡ false → Unfit n ss
unfolding all_fit
unfit_one n [] e = absurd (true≢false e)
unfit_one n (s ∷ ss) e = go (fits n s) refl e (unfit_one n ss)
  where
    go : (b : Bool) → fits n s ≡ b → (b && all_fit n ss) ≡ false → (all_fit n ss ≡ false → Unfit n ss) → Unfit n (s ∷ ss)
    go true q r f = let u = f r in record { index = suc u.index; inside = suc-le-suc u.inside; misfits = u.misfits }
    go false q r f = record { index = 0; inside = zero-lt-suc (length ss); misfits = q }

pub fit_take : (n : ℕ) (ss : List (Option Step)) (k : ℕ) → all_fit n ss ≡ true → all_fit n (take k ss) ≡ true
unfolding all_fit
fit_take n ss zero e = refl
fit_take n [] (suc k) e = refl
fit_take n (s ∷ ss) (suc k) e =
    let b = both_true (fits n s) (all_fit n ss) e in
    ap₂ ◌&&◌ b.0 (fit_take n ss k b.1)

-- a byte that is left over does not fit
pub odd_misfit : (n : ℕ) (log : List ℕ) → (length log % 2 ≡ 0 → ⊥) → all_fit n (steps_of log) ≡ false
unfolding all_fit steps_of fits
odd_misfit n [] h = absurd (h refl)
odd_misfit n (kind ∷ []) h = refl
odd_misfit n (kind ∷ k ∷ log) h = rw (odd_misfit n log (λ e. h (omega arith))) (and-false (fits n (step_of kind k)))

-- so where all fit, there are two bytes to a step
pub two_bytes : (n : ℕ) (log : List ℕ) → all_fit n (steps_of log) ≡ true → length log ≡ 2 * length (steps_of log)
unfolding all_fit steps_of fits
two_bytes n [] e = refl
two_bytes n (kind ∷ []) e = absurd (false≢true e)
two_bytes n (kind ∷ k ∷ log) e = omega (arith, two_bytes n log (both_true (fits n (step_of kind k)) (all_fit n (steps_of log)) e).1)

-- the value that a fitting step names is in the sheet
pub named_lt : (n : ℕ) (s : Option Step) → 0 < n → fits n s ≡ true → named s < n
unfolding fits named names
named_lt n (Some (Right k)) h e = ltb-true k n e
named_lt n (Some (Left k)) h e = ltb-true k n e
named_lt n (Some Reverse) h e = h
named_lt n (Some (Dims m)) h e = h
named_lt n (Some (Halt k)) h e = ltb-true k n e
named_lt n None h e = h

-- a step that fits has a kind that is known
pub fits_known : (n : ℕ) (s : Option Step) → fits n s ≡ true → is_some s ≡ true
unfolding fits
fits_known n None e = absurd (false≢true e)
fits_known n (Some s) e = refl

-- ---- 10, exactly when

-- a log that is not refused
pub record Accepted (n : ℕ) (ss : List (Option Step)) : Type 0 where
  pub some : 0 < n
  pub few : length ss ≤ 200
  pub fitting : all_fit n ss ≡ true

pub accepted : (n : ℕ) (ss : List (Option Step)) → refusal (log_tests n ss) ≡ 0 → Accepted n ss
accepted n ss e =
    let p = past _ _ (λ q. omega arith) e in
    let q = past _ _ (λ q. omega arith) p.1 in
    let r = past _ _ (λ q. omega arith) q.1 in
    record {
      some = omega (arith, eqb-false n 0 p.0);
      few = ltb-false 200 (length ss) q.0;
      fitting = not-false (all_fit n ss) r.0;
    }

pub accepted_done : (n : ℕ) (ss : List (Option Step)) → Accepted n ss → refusal (log_tests n ss) ≡ 0
unfolding refusal
accepted_done n ss a =
    simp (ne_eqb n 0 (λ e. omega (arith, a.some)), le-ltb 200 (length ss) a.few, a.fitting)

-- the number by the three tests of a log
abbrev number : Bool → Bool → Bool → ℕ
number none many fit = cond none 10 (cond many 10 (cond (not fit) 10 0))

pub zero_or_ten : (n : ℕ) (ss : List (Option Step)) → (refusal (log_tests n ss) ≡ 0 → ⊥) → refusal (log_tests n ss) ≡ 10
unfolding refusal
zero_or_ten n ss h = go (eqb n 0) (ltb 200 (length ss)) (all_fit n ss) h
  where
    go : (a b d : Bool) → (number a b d ≡ 0 → ⊥) → number a b d ≡ 10
    go true b d g = refl
    go false true d g = refl
    go false false true g = absurd (g refl)
    go false false false g = refl

-- what is refused is refused with 10
pub refused_ten : (n : ℕ) (ss : List (Option Step)) → (Accepted n ss → ⊥) → refusal (log_tests n ss) ≡ 10
refused_ten n ss h = zero_or_ten n ss (λ e. h (accepted n ss e))

-- why a log is refused: the sheet has no values, there are more than 200 steps, or a step does not fit
pub data Refusable (n : ℕ) (ss : List (Option Step)) : Type 0 where
  empty : n ≡ 0 → Refusable n ss
  long : 200 < length ss → Refusable n ss
  unfit : Unfit n ss → Refusable n ss

pub log_ten_when : (n : ℕ) (ss : List (Option Step)) → Refusable n ss → refusal (log_tests n ss) ≡ 10
log_ten_when n ss (empty e) = refused_ten n ss (λ a. omega (arith, a.some))
log_ten_when n ss (long h) = refused_ten n ss (λ a. omega (arith, a.few))
log_ten_when n ss (unfit u) = refused_ten n ss (λ a. true≢false (sym (fit_at n ss u.index u.inside a.fitting) ∙ u.misfits))

pub log_ten_only : (n : ℕ) (ss : List (Option Step)) → refusal (log_tests n ss) ≡ 10 → Accepted n ss → ⊥
log_ten_only n ss e a = omega (arith, accepted_done n ss a)

-- and then for one of these reasons
pub log_ten_why : (n : ℕ) (ss : List (Option Step)) → refusal (log_tests n ss) ≡ 10 → Refusable n ss
unfolding refusal
log_ten_why n ss e = go (eqb n 0) (ltb 200 (length ss)) (all_fit n ss) refl refl refl e
  where
    go : (a b d : Bool) → eqb n 0 ≡ a → ltb 200 (length ss) ≡ b → all_fit n ss ≡ d → number a b d ≡ 10 → Refusable n ss
    go true b d p q r t = empty (eqb-true n 0 p)
    go false true d p q r t = long (ltb-true 200 (length ss) q)
    go false false true p q r t = absurd (omega arith)
    go false false false p q r t = unfit (unfit_one n ss r)

-- ---- logs of both kinds

pub longest_accepted : Accepted 1 (replicate 200 (Some Reverse))
unfolding refusal all_fit fits names
longest_accepted = accepted 1 (replicate 200 (Some Reverse)) refl

pub one_too_many : Refusable 1 (replicate 201 (Some Reverse))
unfolding refusal
one_too_many = log_ten_why 1 (replicate 201 (Some Reverse)) refl

-- behind a step that halts, too
pub outside_unfit : Refusable 1 (Some (Halt 0) ∷ Some (Right 1) ∷ [])
unfolding fits names
outside_unfit = unfit (record { index = 1; inside = omega arith; misfits = refl })
