use Rattle.std.proofs.Common.{◌≡◌, true, not, T, sym, true≢false}
use lib.Ieee.{Float, nan, inf, fin, eq, is_nan}
use Rattle.answers.proofs.words.bits_of.Goals as goal

equals_itself : (x : Float) → eq x x ≡ true → T (not (is_nan x))
unfolding eq is_nan
equals_itself nan e = absurd (true≢false (sym e))
equals_itself (inf s) e = tt
equals_itself (fin s m k) e = tt

pub float_to_bits-result : goal.float_to_bits-result
float_to_bits-result c = equals_itself c.args.x c.if-x.true
