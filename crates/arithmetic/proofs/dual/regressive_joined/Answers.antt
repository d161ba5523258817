use mathlib.Core.Path.{◌≡◌, subst}
use Prim.Native.Nat.{◌≤◌}
use native.Mathlib.Omega.{arith}
use Rattle.masks.specs.Shape.{meeting_dims}
use Rattle.masks.proofs.OrderLaws.{blades_le}
use Rattle.arithmetic.specs.inner.Given.{InOrder}
use Rattle.arithmetic.proofs.OrderPassed.{order_put, passed_put}
use Rattle.arithmetic.proofs.dual.regressive_joined.Goals.{After-joined_dims-n}
use Rattle.arithmetic.proofs.dual.regressive_joined.Goals as goal

-- The dimensions that are found are those that the values meet in.
module _ (b : After-joined_dims-n) where
  meets : b.joined_dims-n.result ≡ meeting_dims b.args.left.now.shape b.args.right.now.shape
  meets = b.joined_dims-n.ensures b.args.left.now.small b.args.right.now.small

  small : b.joined_dims-n.result ≤ 9
  small = omega (arith, meets, b.requires.meeting.0)

pub unwrap-requires : goal.unwrap-requires
unwrap-requires c = let l = small (goal.at.unwrap-requires c).After-joined_dims-n in order_put c.put_order.ensures l (blades_le _ l)

pub regressive_by-requires-2-clause-in_order : goal.regressive_by-requires-2-clause-in_order
regressive_by-requires-2-clause-in_order c =
    let b = (goal.at.regressive_by-requires-2-clause-in_order c).After-joined_dims-n in
    let l = small b in
    (c.requires.in_order.0, c.requires.in_order.1, subst (InOrder c.put_order.new.out) (meets b) (passed_put c.put_order.ensures l (blades_le _ l)))
