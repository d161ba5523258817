use mathlib.Core.Path.{◌≡◌, ap, ◌∙◌}
use Prim.Native.Nat.{ℕ, ◌^◌}
use native.Mathlib.Omega.{arith}
use lib.Ieee.{of_bits, of_fields}
use lib.ListN.{length, take, replicate}
use Rattle.masks.specs.Outcome.{nought}
use Rattle.product.proofs.SumsPlaces.{take_replicate}
use Rattle.product.proofs.sums.fill_in.Goals.{Start}
use Rattle.product.proofs.sums.fill_in.Goals as goal

-- The front of an array of +0.
front_zeros : {g : _} (s : Start g) → take (length s.args.a.now) (replicate g.row.N nought) ≡ replicate (2 ^ s.args.plan.shape.dims) nought
front_zeros {g} s = take_replicate _ g.row.N nought (omega (arith, s.requires.a_len.0)) ∙ ap (λ (m : ℕ). replicate m nought) s.requires.a_len.0

pub fill_by-requires-clause-am_value : goal.fill_by-requires-clause-am_value
unfolding of_bits of_fields
fill_by-requires-clause-am_value g c = let s = (goal.at.fill_by-requires-clause-am_value g c).Start in (front_zeros s, front_zeros s)
