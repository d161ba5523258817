-- What a call reports of the answer that it was given is what it reports of the outcome. Assumes nothing.
use mathlib.Core.Path.{◌≡◌, refl, sym, ap, ◌∙◌, subst}
use mathlib.Core.List.{List, [], ◌∷◌}
use Prim.Native.Nat.{ℕ, zero, suc}
use lib.Ieee.{Float}
use lib.ListN.{length}
use Rattle.std.specs.Prelude.{Option, Some, None, Result, Ok, Err}
use Rattle.masks.specs.declared.outcome.Refusal.{Refusal}
use Rattle.masks.specs.declared.shape.Shape.{Shape}
use Rattle.masks.specs.Outcome.{Outcome, Pair, Written, unless, number_of, IsAnswer, Gives, GivesBoth, Writes}
use Rattle.masks.specs.ShapeBytes.{shape_bytes}
use Rattle.masks.proofs.OutcomeLaws.{refuses}
use Rattle.product.specs.declared.outcome.Product.{Product}
use Rattle.product.specs.Products.{Counted, product_of, GivesProduct}
use Rattle.arithmetic.specs.declared.outcome.Taken.{Taken}
use Rattle.arithmetic.specs.Kept.{Halves, taken_of, GivesTaken}
use Rattle.replay.specs.declared.outcome.Replay.{Replay}
use Rattle.replay.specs.Replay.{Replayed, IsStop, IsReplay, Replays}
use Rattle.exports.specs.inner.Answers.{IsReported, stop_number}
use Rattle.exports.specs.Reports.{reported, Reports, ReportsValue, ReportsPair, ReportsProduct, ReportsTaken, ReportsList, ReportsReplay}

-- ---- references

-- A refused call keeps what they held.
pub kept_reported : {A : Type 0} (k : ℕ) {x held : A} → (k ≡ 0 → ⊥) → Reports k x k held held
unfolding reported unless
kept_reported zero h = absurd (h refl)
kept_reported (suc k) h = record { returned = refl; holding = refl }

-- So does one with the number of a refusal.
pub refused_reported : {A : Type 0} (k : ℕ) (e : Refusal) (n : ℕ) {x held : A} → k ≡ number_of e → n ≡ number_of e → Reports k x n held held
refused_reported k e n g h = rw (g, h) (kept_reported (number_of e) (refuses e))

-- A call that is done reports.
pub done_reported : {A : Type 0} (k : ℕ) {x held holds : A} → k ≡ 0 → holds ≡ x → Reports k x 0 held holds
unfolding reported unless
done_reported k e h = rw e (record { returned = refl; holding = h })

-- ---- from the answer to the outcome

-- An answer r of which f is reported, with the number k and the value a.
pub answer_reported : {A B : Type 0} (f : A → B) (k : ℕ) (a : A) {P : A → Type 0} (r : Result A Refusal) (n : ℕ) (held holds : B) → IsAnswer k a r → ((x : A) → P x → holds ≡ f x) → IsReported P r n held holds → Reports k (f a) n held holds
answer_reported f k a (Ok x) n held holds g w (e, p) = rw e (done_reported k g.0 (w x p ∙ ap f g.1))
answer_reported f k a (Err e) n held holds g w (q, h) = rw h (refused_reported k e n g q)

-- The same of an outcome with a number and a value, and no output.
pub same_reported : {O A B : Type 0} (number : O → ℕ) (value : O → A) (f : A → B) {o p : O} {P : A → Type 0} (r : Result A Refusal) (n : ℕ) (held holds : B) → o ≡ p → IsAnswer (number o) (value o) r → ((x : A) → P x → holds ≡ f x) → IsReported P r n held holds → Reports (number p) (f (value p)) n held holds
same_reported {O} number value f {o = o} r n held holds e g w t =
    subst (λ (q : O). Reports (number q) (f (value q)) n held holds) e (answer_reported f (number o) (value o) r n held holds g w t)

-- References that are seen together in another way.
pub seen_reported : {A B C : Type 0} (see : B → C) (P : A → Type 0) (r : Result A Refusal) (n : ℕ) (held holds : B) → IsReported P r n held holds → IsReported P r n (see held) (see holds)
seen_reported see P (Ok x) n held holds t = t
seen_reported see P (Err e) n held holds (q, h) = (q, ap see h)

pub value_reported : {o p : Outcome} {P : Shape → Type 0} {r : Result Shape Refusal} {n : ℕ} {before after : List Float} {held holds : List ℕ} → o ≡ p → Gives o r before after → ((s : Shape) → P s → holds ≡ shape_bytes s) → IsReported P r n held holds → ReportsValue p n before after held holds
value_reported {o = o} {r = r} {n = n} {before = before} {after = after} {held = held} {holds = holds} e g w t =
    subst (λ (q : Outcome). ReportsValue q n before after held holds) e (record { reports = answer_reported shape_bytes o.number o.shape r n held holds g.answered w t; left = g.left })

abbrev pair_face : Shape × Shape → List ℕ × List ℕ
pair_face s = (shape_bytes s.0, shape_bytes s.1)

pub pair_reported : {o p : Pair} {P : Shape × Shape → Type 0} {r : Result (Shape × Shape) Refusal} {n : ℕ} {before after beforeRight afterRight : List Float} {held holds : List ℕ × List ℕ} → o ≡ p → GivesBoth o r before after beforeRight afterRight → ((s : Shape × Shape) → P s → holds ≡ (shape_bytes s.0, shape_bytes s.1)) → IsReported P r n held holds → ReportsPair p n before after beforeRight afterRight held holds
pair_reported {o = o} {r = r} {n = n} {before = before} {after = after} {beforeRight = beforeRight} {afterRight = afterRight} {held = held} {holds = holds} e g w t =
    subst (λ (q : Pair). ReportsPair q n before after beforeRight afterRight held holds) e
    (record {
      reports = answer_reported pair_face o.number (o.left_shape, o.right_shape) r n held holds g.answered w t;
      left = g.left;
      right = g.right;
    })

abbrev product_face : Product → List ℕ × ℕ
product_face x = (shape_bytes x.shape, x.pairs)

pub product_reported : {o p : Counted} {P : Product → Type 0} {r : Result Product Refusal} {n : ℕ} {before after : List Float} {held holds : List ℕ × ℕ} → o ≡ p → GivesProduct o r before after → ((x : Product) → P x → holds ≡ (shape_bytes x.shape, x.pairs)) → IsReported P r n held holds → ReportsProduct p n before after held holds
product_reported {o = o} {r = r} {n = n} {before = before} {after = after} {held = held} {holds = holds} e g w t =
    subst (λ (q : Counted). ReportsProduct q n before after held holds) e (record { reports = answer_reported product_face o.outcome.number (product_of o) r n held holds g.answered w t; left = g.left })

abbrev taken_face : Taken → List ℕ × Float
taken_face x = (shape_bytes x.shape, x.value)

pub taken_reported : {o p : Halves} {P : Taken → Type 0} {r : Result Taken Refusal} {n : ℕ} {before after : List Float} {held holds : List ℕ × Float} → o ≡ p → GivesTaken o r before after → ((x : Taken) → P x → holds ≡ (shape_bytes x.shape, x.value)) → IsReported P r n held holds → ReportsTaken p n before after held holds
taken_reported {o = o} {r = r} {n = n} {before = before} {after = after} {held = held} {holds = holds} e g w t =
    subst (λ (q : Halves). ReportsTaken q n before after held holds) e (record { reports = answer_reported taken_face o.outcome.number (taken_of o) r n held holds g.answered w t; left = g.left })

pub list_reported : {A : Type 0} {o p : Written A} {P : ℕ → Type 0} {r : Result ℕ Refusal} {n : ℕ} {before after : List A} {held holds : ℕ} → o ≡ p → Writes o r before after → ((k : ℕ) → P k → holds ≡ k) → IsReported P r n held holds → ReportsList p n before after held holds
list_reported {A = A} {o = o} {r = r} {n = n} {before = before} {after = after} {held = held} {holds = holds} e g w t =
    subst (λ (q : Written A). ReportsList q n before after held holds) e (record { reports = answer_reported (λ (k : ℕ). k) o.number (length o.items) r n held holds g.counted w t; left = g.left })

-- ---- a replay

abbrev replay_face : Replay → List ℕ × List ℕ
replay_face x = (shape_bytes x.shape, x.steps ∷ stop_number x.stopped ∷ [])

stopped_as : (k : ℕ) (stopped : Option Refusal) → IsStop k stopped → stop_number stopped ≡ k
stopped_as k None h = sym h
stopped_as k (Some e) h = sym h

faced : (o : Replayed) (x : Replay) → IsReplay o x → replay_face x ≡ (shape_bytes o.pose.shape, o.steps ∷ o.stopped ∷ [])
faced o x h = rw (h.shape, h.steps, stopped_as o.stopped x.stopped h.stopped)

pub replay_reported : {o : Replayed} {P : Replay → Type 0} (r : Result Replay Refusal) {n : ℕ} {before after : List Float} {held holds : List ℕ × List ℕ} → Replays o r before after → ((x : Replay) → P x → holds ≡ (shape_bytes x.shape, x.steps ∷ stop_number x.stopped ∷ [])) → IsReported P r n held holds → ReportsReplay o n before after held holds
replay_reported {o = o} (Ok x) g w (e, p) =
    record { reports = rw e (done_reported o.pose.number g.answered.done (w x p ∙ faced o x g.answered)); left = g.left }
replay_reported {o = o} (Err e) {n = n} g w (q, h) = record { reports = rw h (refused_reported o.pose.number e n g.answered q); left = g.left }
