use mathlib.Core.Path.{◌≡◌, refl, ◌∙◌}
use mathlib.Core.Bool.{cond}
use mathlib.Core.Logic.{⊎_elim}
use Prim.Native.Nat.{ℕ, ◌<◌, ◌≤◌}
use native.Mathlib.Omega.{arith}
use lib.Dec.{eqb, ltb}
use lib.ListN.{length}
use borrow.Author.Tests.{lt-ltb, le-ltb, ne_eqb}
use Rattle.std.specs.declared.cmp.Ordering.{Ordering}
use Rattle.std.specs.declared.cmp.Ordering.TheVariants.{Less, Equal, Greater}
use Rattle.masks.proofs.ListLaws.{split}
use Rattle.arithmetic.specs.Compare.{or_else, compared_counts, compared_places}
use Rattle.arithmetic.proofs.compare.compare_counts.Goals as goal

by_counts : (m n : ℕ) (o : Ordering) → (m ≡ n → ⊥) → cond (ltb m n) Less (cond (eqb m n) Equal Greater) ≡ or_else (compared_counts m n) o
unfolding compared_counts
by_counts m n o h =
    ⊎_elim (λ (l : m < n). rw (lt-ltb m n l) refl)
    (λ (l : n ≤ m). let g : n < m = omega (arith, h) in rw (le-ltb m n l, ne_eqb m n h, lt-ltb n m g) refl)
    (split m n)

pub returns : goal.returns
returns c = c.cmp.ensures ∙ by_counts (length c.args.a.now) (length c.args.b.now) (compared_places c.args.a.now c.args.b.now) c.requires
