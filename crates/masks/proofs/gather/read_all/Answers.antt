use mathlib.Core.Path.{◌≡◌, refl, sym, ap, ◌∙◌}
use mathlib.Core.List.{map}
use native.Mathlib.Omega.{arith}
use Rattle.std.proofs.lemmas.Grind.{common_steps}
use Rattle.masks.specs.Order.{order}
use Rattle.masks.specs.Outcome.{laid}
use Rattle.masks.specs.Shape.{coef}
use Rattle.masks.proofs.ShapeLaws.{ordered}
use Rattle.masks.proofs.gather.read_all.Goals as goal

pub returns-in-Equal : goal.returns-in-Equal
returns-in-Equal c =
    let a = c.args in
    let e : a.value.dims ≡ a.d = grind (arith, common_steps) in
    c.copy_all.ensures
    ∙ ap (λ xs. laid xs a.out.now)
    (sym (ordered (coef a.value.dims a.value.numbers.now) a.value.dims a.value.numbers.now c.args.value.counted (λ m l. refl)) ∙ ap (λ n. map (coef a.value.dims a.value.numbers.now) (order n)) e)
