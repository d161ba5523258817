use mathlib.Core.Path.{◌≡◌, refl, ◌∙◌}
use mathlib.Core.Bool.{true, false}
use mathlib.Core.List.{List}
use Prim.Native.Nat.{ℕ}
use native.Mathlib.Omega.{arith}
use lib.ListN.{length, get_or}
use Rattle.masks.specs.declared.flavor.Flavor.TheVariants.{Vanilla, Projective}
use Rattle.masks.specs.declared.outcome.Refusal.TheVariants.{NoFlavor}
use Rattle.masks.specs.Text.{same, vga, pga, read_flavor}
use Rattle.masks.specs.inner.Text.{read_cl}
use Rattle.masks.proofs.TextScan.{three_are, three_not}
use Rattle.masks.proofs.TextLaws.{read_text, read_steps, read_done, read_refused}
use Rattle.masks.proofs.flavor.Flavor.try_from_str.Goals.{in_default-via-then-t-lt3, in_default-via-else-t-lt3+then-t-lt4+in-86+in-71+in_default-1, in_default-via-else-t-lt3+then-t-lt4+in-86+in_default-1, in_default-via-else-t-lt3+then-t-lt4+in-80+in-71+in_default-1, in_default-via-else-t-lt3+then-t-lt4+in-80+in_default-1, in_default-via-else-t-lt3+then-t-lt4+in_default-1, in_default-via-else-t-lt3+else-t-lt4}
use Rattle.masks.proofs.flavor.Flavor.try_from_str.Goals as goal

pub returns-then-not-is_ascii : goal.returns-then-not-is_ascii
unfolding read_text
returns-then-not-is_ascii c =
    read_refused (read_flavor c.args.t.now) NoFlavor (read_steps c.args.t.now ∙ rw (← c.is_ascii.ensures, c.if-not-is_ascii.true) refl)

pub returns-in-VGA : goal.returns-in-VGA
unfolding read_text
returns-in-VGA c =
    let t : List ℕ = c.args.t.now in
    let l : length t ≡ 3 = omega arith in
    let a : get_or t 0 0 ≡ 86 = grind arith in
    let b : get_or t 1 0 ≡ 71 = grind arith in
    let d : get_or t 2 0 ≡ 65 = grind arith in
    let e : same t vga ≡ true = three_are t 86 71 65 l a b d in
    read_done (read_flavor t) Vanilla (read_steps t ∙ rw (← c.is_ascii.ensures, c.if-not-is_ascii.false, e) refl)

pub returns-in-PGA : goal.returns-in-PGA
unfolding read_text
returns-in-PGA c =
    let t : List ℕ = c.args.t.now in
    let l : length t ≡ 3 = omega arith in
    let a : get_or t 0 0 ≡ 80 = grind arith in
    let b : get_or t 1 0 ≡ 71 = grind arith in
    let d : get_or t 2 0 ≡ 65 = grind arith in
    let n : same t vga ≡ false = three_not t 86 71 65 (λ h e f g. omega arith) in
    let e : same t pga ≡ true = three_are t 80 71 65 l a b d in
    read_done (read_flavor t) Projective (read_steps t ∙ rw (← c.is_ascii.ensures, c.if-not-is_ascii.false, n, e) refl)

pub returns-in_default : goal.returns-in_default
unfolding read_text
returns-in_default c =
    let t : List ℕ = c.args.t.now in
    let n : (length t ≡ 3 → get_or t 0 0 ≡ 86 → get_or t 1 0 ≡ 71 → get_or t 2 0 ≡ 65 → ⊥) × (length t ≡ 3 → get_or t 0 0 ≡ 80 → get_or t 1 0 ≡ 71 → get_or t 2 0 ≡ 65 → ⊥) =
    elim c.in_default.branch [
      | in_default-via-then-t-lt3 w ↦ (λ h e f g. grind arith, λ h e f g. grind arith)
      | in_default-via-else-t-lt3+then-t-lt4+in-86+in-71+in_default-1 w ↦ (λ h e f g. grind arith, λ h e f g. grind arith)
      | in_default-via-else-t-lt3+then-t-lt4+in-86+in_default-1 w ↦ (λ h e f g. grind arith, λ h e f g. grind arith)
      | in_default-via-else-t-lt3+then-t-lt4+in-80+in-71+in_default-1 w ↦ (λ h e f g. grind arith, λ h e f g. grind arith)
      | in_default-via-else-t-lt3+then-t-lt4+in-80+in_default-1 w ↦ (λ h e f g. grind arith, λ h e f g. grind arith)
      | in_default-via-else-t-lt3+then-t-lt4+in_default-1 w ↦ (λ h e f g. grind arith, λ h e f g. grind arith)
      | in_default-via-else-t-lt3+else-t-lt4 w ↦ (λ h e f g. grind arith, λ h e f g. grind arith)
    ] in
    let e : read_flavor t ≡ read_cl t = read_steps t ∙ rw (← c.is_ascii.ensures, c.if-not-is_ascii.false, three_not t 86 71 65 n.0, three_not t 80 71 65 n.1) refl in
    rw e c.read_cl.ensures
