use mathlib.Core.Path.{sym, ap, ◌∙◌}
use Prim.Native.Nat.{ℕ, ◌^◌}
use lib.ListN.{length}
use Rattle.std.proofs.lemmas.Result.{err_from_is_err_and}
use Rattle.masks.proofs.OutcomeLaws.{passed}
use Rattle.product.specs.Given.{multiplied_by_of}
use Rattle.product.proofs.ProductsLaws.{Agreeing, agreeing, gives_agreeing_refused, gives_agreeing}
use Rattle.product.proofs.ProductsGiven.{gives_made}
use Rattle.product.proofs.products.multiply.Goals.{After-pair_refusal}
use Rattle.product.proofs.products.multiply.Goals as goal

-- The values agree, since the first test held.
agree_as_they_stand : (b : After-pair_refusal) → Agreeing b.args.left b.args.right
agree_as_they_stand b = agreeing b.args.left b.args.right (sym b.agrees.ensures ∙ b.if-not-agrees.false)

pub returns-in_err-pair_refusal : goal.returns-in_err-pair_refusal
returns-in_err-pair_refusal c =
    let a = c.args in
    let f = c.in_err-pair_refusal in
    let p = err_from_is_err_and c.from_residual.result c.from_residual.ensures.1 in
    rw (p.1, p.2)
    (gives_made a.mode a.left a.right a.a.now a.b.now (length a.out.now) _ a.out.now a.out.now a.given.now
    (gives_agreeing_refused (multiplied_by_of a.given.now a.mode) a.left a.right a.a.now a.b.now (length a.out.now) (agree_as_they_stand (goal.at.returns-in_err-pair_refusal c).After-pair_refusal)
    f.field-0.0 a.out.now f.ensures))

pub multiply_same-requires : goal.multiply_same-requires
multiply_same-requires c =
    let a = c.args in
    let p = passed a.left.dims a.right.dims a.left.dims (length a.a.now) (length a.b.now) (length a.out.now) c.in_ok-pair_refusal.ensures.0 in
    (p.small, p.counted, p.counted_right ∙ ap (λ (n : ℕ). 2 ^ n) (sym (agree_as_they_stand (goal.at.multiply_same-requires c).After-pair_refusal).same), p.roomy)

pub returns : goal.returns
returns c =
    let a = c.args in
    gives_made a.mode a.left a.right a.a.now a.b.now (length a.out.now) _ a.out.now _ a.given.now
    (gives_agreeing (multiplied_by_of a.given.now a.mode) a.left a.right a.a.now a.b.now (length a.out.now) (agree_as_they_stand (goal.at.returns c).After-pair_refusal)
    _ a.out.now _ c.in_ok-pair_refusal.ensures.0 c.multiply_same.ensures)
