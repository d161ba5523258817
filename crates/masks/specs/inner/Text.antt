-- How the code reads a text step by step. Assumes nothing.
use Rattle.std.specs.Prelude.{cond, List, [], ℕ, Option, None, Some}
use Rattle.masks.specs.declared.flavor.Flavor.TheVariants.{Cl}
use Rattle.masks.specs.Text.{same, part, after_part, octet, or_zero, Read, read_as, refused_read, begins_cl, spec_in}

-- The first part must be a u8; a fourth refuses.
abbrev pub spec : Option ℕ → List ℕ → Read
spec None rest = refused_read 8
spec (Some p) rest =
    cond (same (part (after_part (after_part rest))) [])
    (read_as (Cl p (or_zero (octet (part rest))) (or_zero (octet (part (after_part rest))))))
    (refused_read 8)

unfoldable pub spec_of : List ℕ → Read
spec_of t = spec (octet (part t)) (after_part t)

-- Text begins with Cl, or is refused.
unfoldable pub read_cl : List ℕ → Read
read_cl t = cond (begins_cl t) (spec_of (spec_in t)) (refused_read 7)
