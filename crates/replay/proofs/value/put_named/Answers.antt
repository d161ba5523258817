use mathlib.Core.Path.{◌≡◌, sym, ap, ◌∙◌}
use mathlib.Core.Bool.{true, false}
use Prim.Native.Nat.{ℕ}
use native.Mathlib.Omega.{arith}
use Rattle.std.specs.Prelude.{is_some}
use Rattle.masks.specs.Outcome.{laid}
use Rattle.masks.proofs.OrderLaws.{none_counted}
use Rattle.replay.specs.Log.{names}
use Rattle.replay.specs.inner.Turns.{numbers_at}
use Rattle.replay.proofs.value.put_named.Goals as goal

pub put_value-requires : goal.put_value-requires
put_value-requires c =
    let n = none_counted c.blades_or_none.ensures c.requires.0 in
    (omega arith, omega (arith, n), omega (arith, n), omega (arith, n))

pub returns-then-is_some : goal.returns-then-is_some
returns-then-is_some c =
    let a = c.args in
    let t : is_some (names a.step) ≡ true = sym (c.is_some.ensures ∙ ap is_some c.names.ensures) ∙ c.if-is_some.true in
    rw t
    (c.put_value.ensures
    ∙ ap (λ (k : ℕ). laid (numbers_at a.sheet.now a.count a.start k) a.out.now) (none_counted c.blades_or_none.ensures c.requires.0))

pub returns-else-is_some : goal.returns-else-is_some
returns-else-is_some c =
    let f : is_some (names c.args.step) ≡ false = sym (c.is_some.ensures ∙ ap is_some c.names.ensures) ∙ c.if-is_some.false in
    rw f
