use mathlib.Core.Path.{◌≡◌, sym, ◌∙◌}
use native.Mathlib.Omega.{arith}
use borrow.Author.Tests.{eqb-true, eqb-false}
use lib.ListN.{length}
use Rattle.masks.proofs.TextLaws.{octet_empty, digits_word, digits_large, digits_on, digits_end}
use Rattle.masks.proofs.text.digits.Goals as goal

pub returns-then-is_empty : goal.returns-then-is_empty
returns-then-is_empty c = sym (octet_empty c.args.t.now (eqb-true _ _ (sym c.is_empty.ensures ∙ c.if-is_empty.true)))

pub returns-then-not-is_ascii_digit : goal.returns-then-not-is_ascii_digit
returns-then-not-is_ascii_digit c =
    sym (digits_word c.args.t.now c.loop-c.v c.loop-c.c-index c.loop-c.invariant (omega arith) (sym c.is_ascii_digit.ensures.value ∙ c.if-not-is_ascii_digit.true))

pub returns-then-v-gt255 : goal.returns-then-v-gt255
returns-then-v-gt255 c = sym (digits_large c.args.t.now c.loop-c.v c.loop-c.c-index c.loop-c.invariant (omega arith) c.if-v-gt255.true)

pub loop-c-preserved : goal.loop-c-preserved
loop-c-preserved c =
    digits_on c.args.t.now c.loop-c.v c.loop-c.c-index c.loop-c.invariant (omega arith) (sym c.is_ascii_digit.ensures.value ∙ c.if-not-is_ascii_digit.false) c.if-v-gt255.false

pub returns : goal.returns
returns c =
    let f : length c.args.t.now ≡ 0 → ⊥ = eqb-false _ _ (sym c.is_empty.ensures ∙ c.if-is_empty.false) in
    sym (digits_end c.args.t.now c.loop-c.v c.loop-c.c-index c.loop-c.invariant (omega arith) (omega arith))
