use mathlib.Core.Path.{◌≡◌, refl, ap, ◌∙◌}
use mathlib.Core.List.{List}
use Prim.Native.Nat.{ℕ, ◌≤◌, ◌^◌}
use native.Mathlib.Omega.{arith}
use lib.Ieee.{Float, binary64}
use lib.ListN.{length, replicate, length-replicate}
use Rattle.std.specs.Prelude.{Ok}
use Rattle.masks.specs.Order.{order}
use Rattle.masks.specs.Outcome.{laid}
use Rattle.masks.proofs.BuildLaws.{put_order_done}
use Rattle.product.specs.Given.{product_by}
use Rattle.product.specs.inner.Sums.{low_mask}
use Rattle.product.proofs.GivenLaws.{by_laid}
use Rattle.product.proofs.products.fill_ordered.Goals.{After-put_order}
use Rattle.product.proofs.products.fill_ordered.Goals as goal

-- The order has room, so it is written.
module _ {g : _} (c : After-put_order g) where
  room : 2 ^ c.args.shape.dims ≤ length {A = ℕ} (replicate g.row.N 0)
  room = omega (arith, length-replicate {A = ℕ} g.row.N 0)

  done : (c.put_order.result ≡ Ok tt) × (c.put_order.new.out ≡ laid (order c.args.shape.dims) (replicate g.row.N 0))
  done = put_order_done c.put_order.ensures c.requires.a_len.0 room

pub unwrap-requires : goal.unwrap-requires
unwrap-requires g c = rw (done (goal.at.unwrap-requires g c).After-put_order).0 refl

pub returns : goal.returns
returns g c =
    let a = c.args in
    c.fill_given.ensures
    ∙ ap (λ (l : List ℕ). laid (product_by (low_mask l a.shape.dims) a.shape.dims a.mode a.shape.flavor binary64 a.a.now a.b.now) a.out.now) (done (goal.at.returns g c).After-put_order).1
    ∙ ap (λ (l : List Float). laid l a.out.now) (by_laid (replicate g.row.N 0) a.shape.dims a.mode a.shape.flavor binary64 a.a.now a.b.now)
