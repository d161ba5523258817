use mathlib.Core.Path.{◌≡◌, ◌∙◌}
use mathlib.Core.List.{List}
use Prim.Native.Nat.{ℕ, ◌^◌, ◌≤◌}
use native.Mathlib.Omega.{arith}
use lib.Ieee.{Float, of_bits, binary64}
use lib.ListN.{length, replicate, length-replicate}
use lib.Seq.{length-take-le}
use Rattle.std.specs.Prelude.{Result, Ok}
use Rattle.std.proofs.lemmas.Result.{err_from_is_err_and}
use Rattle.masks.specs.declared.outcome.Refusal.{Refusal}
use Rattle.masks.specs.declared.shape.Shape.{Shape}
use Rattle.masks.specs.Outcome.{GivesBoth}
use Rattle.masks.specs.Shape.{conform}
use Rattle.masks.proofs.OrderLaws.{none_counted}
use Rattle.product.specs.Given.{multiplied_by_of}
use Rattle.product.proofs.ProductsLaws.{gives_unconformed, conformed_small, conformed_fits, gives_no_room, gives_conformed}
use Rattle.product.proofs.ProductsGiven.{gives_made}
use Rattle.product.proofs.products.multiply_in.Goals.{In_err-shape, After-blades_or_none-n}
use Rattle.product.proofs.products.multiply_in.Goals as goal

-- What both arrays are filled with.
abbrev blank : Float
blank = of_bits binary64 0

-- Both arrays have n numbers.
gave : (s t : Shape) (a b : List Float) (n : ℕ) (x : Float) {after after_right : List Float} {r : Result (Shape × Shape) Refusal}
    → GivesBoth (conform s t a b (length (replicate n x)) (length (replicate n x))) r (replicate n x) after (replicate n x) after_right
    → GivesBoth (conform s t a b n n) r (replicate n x) after (replicate n x) after_right
gave s t a b n x g = rw (length-replicate n x) at g

-- The count of the blades is that of dimensions that are at most 9.
module _ {g : _} (c : After-blades_or_none-n g) where
  abbrev both : Shape × Shape
  both = (c.in_ok-shape.shape, c.in_ok-shape.field-0-1)

  given : GivesBoth (conform c.args.left c.args.right c.args.a.now c.args.b.now g.row.N g.row.N) (Ok both) (replicate g.row.N blank) c.conform.new.out (replicate g.row.N blank) c.conform.new.out_right
  given = gave _ _ _ _ g.row.N blank c.in_ok-shape.ensures

  small : c.in_ok-shape.shape.dims ≤ 9
  small = let a = c.args in conformed_small a.left a.right a.a.now a.b.now _ _ _ _ g.row.N c.requires.0 both given

  counted : c.blades_or_none-n.result ≡ 2 ^ c.in_ok-shape.shape.dims
  counted = none_counted c.blades_or_none-n.ensures small

  fits : c.blades_or_none-n.result ≤ g.row.N
  fits = let a = c.args in omega (arith, counted, conformed_fits a.left a.right a.a.now a.b.now _ _ _ _ g.row.N c.requires.0 both given)

  long : (xs : List Float) → length xs ≡ length (replicate g.row.N blank) → c.blades_or_none-n.result ≤ length xs
  long xs e = omega (arith, fits, e, length-replicate g.row.N blank)

pub returns-in_err-shape : goal.returns-in_err-shape
returns-in_err-shape g c =
    let a = c.args in
    let p = err_from_is_err_and c.from_residual.result c.from_residual.ensures.1 in
    rw (p.1, p.2)
    (gives_made a.mode a.left a.right a.a.now a.b.now (length a.out.now) _ a.out.now a.out.now a.given.now
    (gives_unconformed a.left a.right a.a.now a.b.now _ _ _ _ g.row.N c.requires.0 c.in_err-shape.field-0.0 (gave _ _ _ _ g.row.N blank c.in_err-shape.ensures)
    (multiplied_by_of a.given.now a.mode) (length a.out.now) a.out.now))

pub returns-then-out-n : goal.returns-then-out-n
returns-then-out-n g c =
    let a = c.args in
    let s = (goal.at.returns-then-out-n g c).After-blades_or_none-n in
    gives_made a.mode a.left a.right a.a.now a.b.now (length a.out.now) _ a.out.now a.out.now a.given.now
    (gives_no_room a.left a.right a.a.now a.b.now _ _ _ _ g.row.N c.requires.0 (both s) (given s) c.blades_or_none-n.result (counted s)
    (multiplied_by_of a.given.now a.mode) (length a.out.now) a.out.now c.if-out-n.true)

pub shared_whole_as_front-multiply_same : goal.shared_whole_as_front-multiply_same
shared_whole_as_front-multiply_same g c = (fits (goal.at.shared_whole_as_front-multiply_same g c).After-blades_or_none-n, omega arith)

pub multiply_same-requires : goal.multiply_same-requires
multiply_same-requires g c =
    let s = (goal.at.multiply_same-requires g c).After-blades_or_none-n in
    (small s, length-take-le _ _ (long s _ c.conform.auto.out) ∙ counted s, length-take-le _ _ (long s _ c.conform.auto.out_right) ∙ counted s, omega (arith, counted s))

pub returns : goal.returns
returns g c =
    let a = c.args in
    let s = (goal.at.returns g c).After-blades_or_none-n in
    gives_made a.mode a.left a.right a.a.now a.b.now (length a.out.now) _ a.out.now _ a.given.now
    (gives_conformed a.left a.right a.a.now a.b.now _ _ _ _ g.row.N c.requires.0 (both s) (given s) c.blades_or_none-n.result (counted s)
    (multiplied_by_of a.given.now a.mode) (length a.out.now) _ a.out.now _ c.if-out-n.false c.multiply_same.ensures)
