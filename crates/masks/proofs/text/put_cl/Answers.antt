use mathlib.Core.Path.{◌≡◌, ◌∙◌}
use mathlib.Core.List.{List, ◌∷◌, ◌++◌}
use Prim.Native.Nat.{ℕ, ◌≤◌}
use native.Mathlib.Omega.{arith}
use lib.ListN.{length, set, length-set, length-append}
use lib.Seq.{sets}
use Rattle.masks.specs.declared.flavor.Flavor.{Flavor}
use Rattle.masks.specs.declared.flavor.Flavor.TheVariants.{Cl}
use Rattle.masks.specs.Outcome.{laid}
use Rattle.masks.specs.Text.{decimal, spaced, text_of}
use Rattle.masks.proofs.ListLaws.{sets_laid}
use Rattle.masks.proofs.TextLaws.{text_one, text_two, text_three, one_length, two_length, three_length, two_le, sets_more}
use Rattle.masks.proofs.text.put_cl.Goals as goal

-- the two letters, and then w
letters : {m : List ℕ} (f : Flavor) (w out : List ℕ) → text_of f ≡ 67 ∷ 108 ∷ w → length (text_of f) ≤ length out → m ≡ sets (set (set out 0 67) 1 108) 2 w → m ≡ laid (text_of f) out
letters f w out e h g = g ∙ rw e (sets_laid (67 ∷ 108 ∷ w) out (rw e at h))

-- the output keeps its length
long : (n : ℕ) (out : List ℕ) → n ≡ length (set (set out 0 67) 1 108) → n ≡ length out
long n out e = e ∙ simp length-set

pub bounds-out-0 : goal.bounds-out-0
bounds-out-0 c = omega (arith, two_le c.args.p c.args.n c.args.z)

pub bounds-out-1 : goal.bounds-out-1
bounds-out-1 c = simp length-set (omega (arith, two_le c.args.p c.args.n c.args.z))

pub put_decimal-requires : goal.put_decimal-requires
put_decimal-requires c =
    let a = c.args in
    simp length-set (omega (arith, one_length a.p a.n a.z c.if-z-ne0.false c.if-n-ne0.false))

pub returns-else-n-ne0 : goal.returns-else-n-ne0
returns-else-n-ne0 c =
    let a = c.args in
    letters (Cl a.p a.n a.z) (decimal a.p) a.out.now
    (text_one a.p a.n a.z c.if-z-ne0.false c.if-n-ne0.false) c.requires c.put_decimal.ensures.1

pub put_spaced-at-requires-then-n-ne0 : goal.put_spaced-at-requires-then-n-ne0
put_spaced-at-requires-then-n-ne0 c =
    let a = c.args in
    simp length-set (omega (arith, two_length a.p a.n a.z c.if-z-ne0.false c.if-n-ne0.true))

pub put_spaced-requires-then-n-ne0 : goal.put_spaced-requires-then-n-ne0
put_spaced-requires-then-n-ne0 c =
    let a = c.args in
    let p = c.put_spaced-at-then-n-ne0 in
    omega (arith, long _ a.out.now p.auto.out, p.ensures.0, c.requires, two_length a.p a.n a.z c.if-z-ne0.false c.if-n-ne0.true)

pub returns-then-n-ne0 : goal.returns-then-n-ne0
returns-then-n-ne0 c =
    let a = c.args in
    let p = c.put_spaced-at-then-n-ne0 in
    let o = set (set a.out.now 0 67) 1 108 in
    letters (Cl a.p a.n a.z) (spaced a.p ++ spaced a.n) a.out.now
    (text_two a.p a.n a.z c.if-z-ne0.false c.if-n-ne0.true) c.requires
    (sets_more o (spaced a.p) (spaced a.n) 2 p.result p.ensures.1 (omega (arith, p.ensures.0)) c.put_spaced-then-n-ne0.ensures.1)

pub put_spaced-at-requires : goal.put_spaced-at-requires
put_spaced-at-requires c =
    let a = c.args in
    simp length-set (omega (arith, three_length a.p a.n a.z c.if-z-ne0.true))

pub put_spaced-next-requires : goal.put_spaced-next-requires
put_spaced-next-requires c =
    let a = c.args in
    omega (arith, long _ a.out.now c.put_spaced-at.auto.out, c.put_spaced-at.ensures.0, c.requires, three_length a.p a.n a.z c.if-z-ne0.true)

pub put_spaced-requires : goal.put_spaced-requires
put_spaced-requires c =
    let a = c.args in
    omega (arith, long _ a.out.now c.put_spaced-at.auto.out, c.put_spaced-at.ensures.0, c.put_spaced-next.ensures.0, c.requires, three_length a.p a.n a.z c.if-z-ne0.true)

pub returns-then-z-ne0 : goal.returns-then-z-ne0
returns-then-z-ne0 c =
    let a = c.args in
    let o = set (set a.out.now 0 67) 1 108 in
    let both = sets_more o (spaced a.p) (spaced a.n) 2 c.put_spaced-at.result c.put_spaced-at.ensures.1 (omega (arith, c.put_spaced-at.ensures.0)) c.put_spaced-next.ensures.1 in
    letters (Cl a.p a.n a.z) (spaced a.p ++ spaced a.n ++ spaced a.z) a.out.now
    (text_three a.p a.n a.z c.if-z-ne0.true) c.requires
    (sets_more o (spaced a.p ++ spaced a.n) (spaced a.z) 2 c.put_spaced-next.result both
    (omega (arith, c.put_spaced-at.ensures.0, c.put_spaced-next.ensures.0, length-append (spaced a.p) (spaced a.n))) c.put_spaced.ensures.1)
