use mathlib.Core.Path.{◌≡◌, sym, ap, ◌∙◌}
use Prim.Native.Nat.{ℕ}
use lib.Dec.{ltb}
use Rattle.std.specs.Prelude.{Option, Some}
use Rattle.replay.specs.declared.log.Step.{Step}
use Rattle.replay.specs.Log.{names, among, fits}
use Rattle.replay.proofs.log.step_fits.Goals as goal

-- a step that is known, by what it names
known : (n : ℕ) (s : Step) (o : Option ℕ) → o ≡ names s → among n o ≡ fits n (Some s)
unfolding fits
known n s o e = ap (among n) e

pub returns-in-Some-names : goal.returns-in-Some-names
returns-in-Some-names c =
    let a = c.args in
    rw c.in-Some.is (ap (λ (k : ℕ). ltb k a.count) c.from.ensures ∙ known a.count c.in-Some.step _ (sym c.in-Some-names.is ∙ c.names.ensures))

pub returns-in-None-names : goal.returns-in-None-names
returns-in-None-names c = rw c.in-Some.is (known c.args.count c.in-Some.step _ (sym c.in-None-names.is ∙ c.names.ensures))

pub returns-in-None : goal.returns-in-None
unfolding fits
returns-in-None c = rw c.in-None.is
