use mathlib.Core.Path.{◌≡◌, sym, ap, ◌∙◌}
use mathlib.Core.List.{List, ◌++◌}
use Prim.Native.Nat.{ℕ, ◌+◌, ◌^◌, ◌≤◌}
use native.Mathlib.Omega.{arith}
use borrow.Author.Tests.{eq-eqb, ne_eqb}
use lib.Ieee.{Float}
use lib.ListN.{length, drop}
use Rattle.masks.specs.declared.shape.Shape.{Shape}
use Rattle.masks.specs.Flavor.{added_dims}
use Rattle.masks.specs.Outcome.{laid}
use Rattle.masks.proofs.ListLaws.{lay_whole}
use Rattle.arithmetic.specs.Inverse.{square_of}
use Rattle.arithmetic.specs.Power.{is_direct, power_dims, by_digits, raised_to}
use Rattle.arithmetic.proofs.PowerLaws.{first_taken}
use Rattle.arithmetic.proofs.power.raise.Goals as goal

module _ (s : Shape) (p : ℕ) (x : List Float) where
  raised_one : p ≡ 1 → raised_to s p x ≡ x
  unfolding raised_to
  raised_one e = rw (eq-eqb p 1 e)

  module _ (h : p ≡ 1 → ⊥) where
    module _ (e : p ≡ 2) where
      dims_two : power_dims s p ≡ s.dims
      unfolding power_dims is_direct
      dims_two = rw (ne_eqb p 1 h, eq-eqb p 2 e)

      raised_two : raised_to s p x ≡ square_of s x
      unfolding raised_to
      raised_two = rw (ne_eqb p 1 h, eq-eqb p 2 e)

    module _ (k : p ≡ 2 → ⊥) where
      dims_other : power_dims s p ≡ s.dims + added_dims s.flavor
      unfolding power_dims is_direct
      dims_other = rw (ne_eqb p 1 h, ne_eqb p 2 k)

      raised_other : raised_to s p x ≡ by_digits s p x
      unfolding raised_to
      raised_other = rw (ne_eqb p 1 h, ne_eqb p 2 k)

-- Room for a power of n dimensions is room for one of m, which are as many.
room : {m n out : ℕ} → n ≡ m → 2 ^ n ≤ out → 2 ^ m ≤ out
room e h = rw (sym e) h

laid_as : (out : List Float) {after xs ys : List Float} → xs ≡ ys → after ≡ laid ys out → after ≡ laid xs out
laid_as out e h = rw e h

pub returns-then-power-eq1 : goal.returns-then-power-eq1
returns-then-power-eq1 c =
    let a = c.args in
    laid_as a.out.now (raised_one a.value.shape a.power a.value.numbers.now c.if-power-eq1.true) (ap (λ (xs : List Float). xs ++ drop (length a.value.numbers.now) a.out.now) (c.lay.ensures ∙ lay_whole _ _ (first_taken a.value.shape a.power a.value.numbers.now a.out.now c.if-power-eq1.true a.value.counted c.requires.room)))

pub put_square-requires-clause-room : goal.put_square-requires-clause-room
put_square-requires-clause-room c = room (dims_two c.args.value.shape c.args.power c.args.value.numbers.now c.if-power-eq1.false c.if-power-eq2.true) c.requires.room

pub returns-then-power-eq2 : goal.returns-then-power-eq2
returns-then-power-eq2 c =
    let a = c.args in
    laid_as a.out.now (raised_two a.value.shape a.power a.value.numbers.now c.if-power-eq1.false c.if-power-eq2.true) c.put_square.ensures

pub raise_by_digits-requires-clause-flavor_bound : goal.raise_by_digits-requires-clause-flavor_bound
raise_by_digits-requires-clause-flavor_bound c =
    let d = dims_other c.args.value.shape c.args.power c.args.value.numbers.now c.if-power-eq1.false c.if-power-eq2.false in
    (omega (arith, d, c.requires.power_bound.0), c.requires.power_bound.1)

pub raise_by_digits-requires-clause-room : goal.raise_by_digits-requires-clause-room
raise_by_digits-requires-clause-room c =
    let d = dims_other c.args.value.shape c.args.power c.args.value.numbers.now c.if-power-eq1.false c.if-power-eq2.false in
    room d c.requires.room

pub returns : goal.returns
returns c =
    let a = c.args in
    laid_as a.out.now (raised_other a.value.shape a.power a.value.numbers.now c.if-power-eq1.false c.if-power-eq2.false) c.raise_by_digits.ensures
