use mathlib.Core.Path.{◌≡◌, refl, sym, ◌∙◌}
use mathlib.Core.Logic.{⊎_elim}
use Prim.Native.Nat.{ℕ, ◌+◌, ◌*◌, ◌≤◌}
use native.Mathlib.Omega.{arith}
use Rattle.masks.specs.declared.flavor.Flavor.{Flavor}
use Rattle.masks.specs.Flavor.{null_flavor}
use Rattle.product.specs.declared.mode.Mode.TheVariants.{All, Left, Right, Outer}
use Rattle.product.specs.Mode.{takes, flavor_for}
use Rattle.product.specs.Pairwise.{pairs_of}
use Rattle.product.proofs.PairsLaws.{pairs_all, pairs_left, pairs_right, pairs_inner}
use Rattle.product.proofs.PairsBounds.{nulls_le}
use Rattle.product.proofs.pairs.pair_count.Goals.{After-null_count-null, After-power}
use Rattle.product.proofs.pairs.pair_count.Goals as goal

-- The null vectors are not more than the dimensions.
few : (c : After-null_count-null) → c.null_count-null.result ≤ c.args.dims
few c = rw c.null_count-null.ensures (nulls_le _ _)

-- Inner's pairs and those of equal masks together are Left's and Right's.
inner : (c : After-power) →
    let a = c.args in
    pairs_of a.mode a.flavor a.dims + c.power.result ≡ 2 * c.choices-in-Inner.result
unfolding flavor_for
inner c =
    rw (c.power.ensures, c.choices-in-Inner.ensures.0, c.null_count-null.ensures, c.flavor_for.ensures, c.in-Inner.is) (pairs_inner _ _)

-- Outer takes all pairs, under the null flavor.
outer : (f : Flavor) (d : ℕ) → pairs_of Outer f d ≡ pairs_of All null_flavor d
unfolding pairs_of takes flavor_for
outer f d = refl

pub choices-requires : goal.choices-requires
choices-requires c = (omega arith, omega arith, few (goal.at.choices-requires c).After-null_count-null, c.requires)

pub choices-requires-in-Left : goal.choices-requires-in-Left
choices-requires-in-Left c = (omega arith, omega arith, few (goal.at.choices-requires-in-Left c).After-null_count-null, c.requires)

pub choices-requires-in-Inner : goal.choices-requires-in-Inner
choices-requires-in-Inner c = (omega arith, omega arith, few (goal.at.choices-requires-in-Inner c).After-null_count-null, c.requires)

pub overflow_sub-dims : goal.overflow_sub-dims
overflow_sub-dims c = few (goal.at.overflow_sub-dims c).After-null_count-null

pub overflow_sub-result : goal.overflow_sub-result
overflow_sub-result c = omega (arith, inner c)

pub returns-in-All : goal.returns-in-All
unfolding flavor_for
returns-in-All c =
    let e = rw (c.null_count-null.ensures, c.flavor_for.ensures) at c.choices.ensures.0 in
    ⊎_elim (λ (m : c.args.mode ≡ All). e ∙ rw m (sym (pairs_all _ _))) (λ (m : c.args.mode ≡ Outer). e ∙ rw m (sym (outer _ _ ∙ pairs_all _ _))) c.in-All.is

pub returns-in-Left : goal.returns-in-Left
unfolding flavor_for
returns-in-Left c =
    let e = rw (c.null_count-null.ensures, c.flavor_for.ensures) at c.choices-in-Left.ensures.0 in
    ⊎_elim (λ (m : c.args.mode ≡ Left). e ∙ rw m (sym (pairs_left _ _))) (λ (m : c.args.mode ≡ Right). e ∙ rw m (sym (pairs_right _ _))) c.in-Left.is

pub returns-in-Inner : goal.returns-in-Inner
returns-in-Inner c = omega (arith, inner c)
