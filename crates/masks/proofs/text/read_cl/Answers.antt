use mathlib.Core.Path.{◌≡◌, sym, ap, ◌∙◌}
use mathlib.Core.List.{List}
use Prim.Native.Nat.{ℕ, ◌≤◌}
use native.Mathlib.Omega.{arith}
use lib.ListN.{length, get_or, drop}
use Rattle.masks.specs.declared.outcome.Refusal.TheVariants.{NoFlavor}
use Rattle.masks.specs.Text.{trimmed, refused_read}
use Rattle.masks.specs.inner.Text.{spec_of, read_cl}
use Rattle.masks.proofs.TextScan.{two_are, two_not, rest_all}
use Rattle.masks.proofs.TextLaws.{read_refused}
use Rattle.masks.proofs.text.read_cl.Goals as goal

module _ (t : List ℕ) where
  is_cl : 2 ≤ length t → get_or t 0 0 ≡ 67 → get_or t 1 0 ≡ 108 → read_cl t ≡ spec_of (trimmed (drop 2 t))
  unfolding read_cl
  is_cl h e f = rw (two_are t 67 108 h e f)

  not_cl : (2 ≤ length t → get_or t 0 0 ≡ 67 → get_or t 1 0 ≡ 108 → ⊥) → read_cl t ≡ refused_read 7
  unfolding read_cl
  not_cl h = rw (two_not t 67 108 h)

pub returns-in-67 : goal.returns-in-67
returns-in-67 c =
    let t : List ℕ = c.args.t.now in
    let e : get_or t 0 0 ≡ 67 = grind arith in
    let f : get_or t 1 0 ≡ 108 = grind arith in
    let s : read_cl t ≡ spec_of c.trim.result.now = is_cl t c.in-67.len_at_least e f ∙ ap spec_of (sym (c.trim.ensures ∙ ap trimmed (rest_all 2 t))) in
    rw s c.read_spec.ensures

pub returns-in_default : goal.returns-in_default
returns-in_default c = read_refused (read_cl c.args.t.now) NoFlavor (not_cl c.args.t.now (λ h e f. grind arith))

pub returns-in_default-2 : goal.returns-in_default-2
returns-in_default-2 c = read_refused (read_cl c.args.t.now) NoFlavor (not_cl c.args.t.now (λ h e f. grind arith))

pub returns-in_default-3 : goal.returns-in_default-3
returns-in_default-3 c = read_refused (read_cl c.args.t.now) NoFlavor (not_cl c.args.t.now (λ h e f. grind arith))
