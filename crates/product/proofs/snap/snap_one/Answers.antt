use mathlib.Core.Path.{◌≡◌, sym, ap, ap₂, ◌∙◌}
use mathlib.Core.Bool.{Bool, true, false, cond, ◌&&◌}
use lib.Dec.{T}
use lib.Ieee.{Float, binary64, add, sub, mul, neg, lt, eq, of_bits, fits}
use Rattle.rounding.specs.Snap.{snap}
use Rattle.rounding.proofs.SnapNearest.{snap_stepped}
use borrow.Author.Rules.{rules}
use Rattle.product.proofs.snap.snap_one.Goals.{Start, then-r, else-r}
use Rattle.product.proofs.snap.snap_one.Goals as goal

-- ---- The code's r, its test of e, and its w, by whether r is 0.
abbrev rounded : Float → Float
rounded x = sub binary64 (add binary64 x (of_bits binary64 0x4338000000000000)) (of_bits binary64 0x4338000000000000)

abbrev test : Float → Bool
test x = lt (sub binary64 x (rounded x)) (of_bits binary64 0x3d06849b86a12b9b) && lt (neg (of_bits binary64 0x3d06849b86a12b9b)) (sub binary64 x (rounded x))

abbrev whole : Float → Bool → Float
whole x z = cond z (mul binary64 (of_bits binary64 0) x) (rounded x)

module _ (x : Float) (t : T (fits binary64 x)) where
  by_code : snap binary64 x ≡ cond (test x) (whole x (eq (rounded x) (of_bits binary64 0))) x
  unfolding of_bits neg
  by_code = snap_stepped binary64 x t

  moved : (z : Bool) → test x ≡ true → eq (rounded x) (of_bits binary64 0) ≡ z → whole x z ≡ snap binary64 x
  moved z p q = sym (by_code ∙ ap₂ (λ (a b : Bool). cond a (whole x b) x) p q)

  kept : test x ≡ false → x ≡ snap binary64 x
  kept p = sym (by_code ∙ ap (λ (a : Bool). cond a (whole x (eq (rounded x) (of_bits binary64 0))) x) p)

-- The format holds the argument.
held : (c : Start) → T (fits binary64 c.args.x)
held c = search rules

pub returns-then-e : goal.returns-then-e
returns-then-e c =
    let m = moved c.args.x (held (goal.at.returns-then-e c).Start) in
    elim c.if-r.branch [ then-r w ↦ w.w-is ∙ m true c.if-e.true w.if-r.true | else-r w ↦ w.w-is ∙ m false c.if-e.true w.if-r.false ]

pub returns-else-e : goal.returns-else-e
returns-else-e c = kept c.args.x (held (goal.at.returns-else-e c).Start) c.if-e.false
