use mathlib.Core.Path.{◌≡◌, sym, ap, ◌∙◌}
use mathlib.Core.List.{List, [], ◌∷◌}
use Prim.Native.Nat.{ℕ, ◌<◌}
use native.Mathlib.Omega.{arith}
use lib.ListN.{length, get_or}
use Rattle.masks.specs.Text.{octet_of, octet}
use Rattle.masks.proofs.TextScan.{rest_all}
use Rattle.masks.proofs.TextLaws.{unsigned_plus, unsigned_not}
use Rattle.masks.proofs.text.octet_in.Goals.{in_default-via-then-t-lt1, in_default-via-else-t-lt1+in_default-1}
use Rattle.masks.proofs.text.octet_in.Goals as goal

-- where there is no byte, the first is no +
not_plus : (t : List ℕ) → length t < 1 → get_or t 0 0 ≡ 43 → ⊥
not_plus [] h e = omega arith
not_plus (c ∷ cs) h e = omega arith

pub returns-in-43 : goal.returns-in-43
unfolding octet
returns-in-43 c =
    let t = c.args.t.now in
    let h : get_or t 0 0 ≡ 43 = grind arith in
    c.digits.ensures ∙ ap octet_of (rest_all 1 t ∙ sym (unsigned_plus t c.in-43.len_at_least h))

pub returns-in_default : goal.returns-in_default
unfolding octet
returns-in_default c =
    let t = c.args.t.now in
    let h : get_or t 0 0 ≡ 43 → ⊥ =
    elim c.in_default.branch [ in_default-via-then-t-lt1 w ↦ not_plus t (grind arith) | in_default-via-else-t-lt1+in_default-1 w ↦ (λ e. grind arith) ] in
    c.digits-in_default.ensures ∙ ap octet_of (sym (unsigned_not t h))
