-- What is done with each two numbers. A reader need not believe this page: no public contract cites it. Assumes nothing.
use Rattle.std.specs.Prelude.{◌≡◌, Float}
use Rattle.arithmetic.specs.Operators.{Sum, summed}

-- A call that may give `post x y r` sums x and y.
abbrev pub Sums : (Float → Float → Float → Type 0) → Sum → Type 0
Sums post op = (x y r : Float) → post x y r → r ≡ summed op x y
