use native.Mathlib.Omega.{arith}
use Rattle.masks.proofs.TextLaws.{decimal_long, one_length, two_length, three_length}
use Rattle.masks.proofs.text.cl_length.Goals as goal

pub overflow_add-result : goal.overflow_add-result
overflow_add-result c = omega (arith, c.decimal_length.ensures, (decimal_long c.args.p).1)

pub overflow_add-result-then-z-ne0 : goal.overflow_add-result-then-z-ne0
overflow_add-result-then-z-ne0 c =
    let a = c.args in
    omega (arith, c.decimal_length.ensures, c.decimal_length-then-z-ne0.ensures, (decimal_long a.p).1, (decimal_long a.n).1)

pub overflow_add-result-then-z-ne0-2 : goal.overflow_add-result-then-z-ne0-2
overflow_add-result-then-z-ne0-2 c =
    let a = c.args in
    omega (arith, c.decimal_length.ensures, c.decimal_length-then-z-ne0.ensures, c.decimal_length-then-z-ne0-2.ensures, (decimal_long a.p).1, (decimal_long a.n).1, (decimal_long a.z).1)

pub overflow_add-result-then-n-ne0 : goal.overflow_add-result-then-n-ne0
overflow_add-result-then-n-ne0 c = omega (arith, c.decimal_length-then-n-ne0.ensures, (decimal_long c.args.p).1)

pub overflow_add-result-then-n-ne0-2 : goal.overflow_add-result-then-n-ne0-2
overflow_add-result-then-n-ne0-2 c =
    let a = c.args in
    omega (arith, c.decimal_length-then-n-ne0.ensures, c.decimal_length-then-n-ne0-2.ensures, (decimal_long a.p).1, (decimal_long a.n).1)

pub overflow_add-result-else-n-ne0 : goal.overflow_add-result-else-n-ne0
overflow_add-result-else-n-ne0 c = omega (arith, c.decimal_length-else-n-ne0.ensures, (decimal_long c.args.p).1)

pub returns-then-z-ne0 : goal.returns-then-z-ne0
returns-then-z-ne0 c =
    let a = c.args in
    omega (arith, c.decimal_length.ensures, c.decimal_length-then-z-ne0.ensures, c.decimal_length-then-z-ne0-2.ensures, three_length a.p a.n a.z c.if-z-ne0.true)

pub returns-then-n-ne0 : goal.returns-then-n-ne0
returns-then-n-ne0 c =
    let a = c.args in
    omega (arith, c.decimal_length-then-n-ne0.ensures, c.decimal_length-then-n-ne0-2.ensures, two_length a.p a.n a.z c.if-z-ne0.false c.if-n-ne0.true)

pub returns-else-n-ne0 : goal.returns-else-n-ne0
returns-else-n-ne0 c =
    let a = c.args in
    omega (arith, c.decimal_length-else-n-ne0.ensures, one_length a.p a.n a.z c.if-z-ne0.false c.if-n-ne0.false)
