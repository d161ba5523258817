use mathlib.Core.Path.{ap, ◌∙◌}
use Rattle.masks.specs.Shape.{with_dims, with_flavor, conformed_shape}
use Rattle.masks.proofs.ShapeLaws.{flavor_one}
use Rattle.masks.proofs.shape.Shape.conformed.Goals as goal

pub returns-then-up-eq0 : goal.returns-then-up-eq0
unfolding conformed_shape
returns-then-up-eq0 c = rw c.if-up-eq0.true c.with_dims-grown.ensures

pub returns : goal.returns
unfolding conformed_shape
returns c =
    let s = c.args in
    c.with_flavor.ensures ∙ rw c.with_dims-grown.ensures (ap (with_flavor (with_dims s.self s.dims)) (flavor_one s.up s.self.flavor c.if-up-eq0.false))
