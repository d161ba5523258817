use Prim.Native.Nat.{◌-◌}
use Rattle.masks.proofs.shape.Shape.+set_blade.Given as goal

-- a value is grown to at most nine dimensions
abbrev pub decreases-set_blade : goal.decreases-set_blade
decreases-set_blade l = 9 - l.self.dims
