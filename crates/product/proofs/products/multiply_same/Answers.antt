use mathlib.Core.Path.{ap, refl}
use Rattle.product.proofs.products.multiply_same.Goals as goal

pub returns : goal.returns
returns c = record { answered = (refl, ap (λ n. record { shape = c.args.shape; pairs = n }) c.pair_count.ensures); left = c.fill.ensures }
