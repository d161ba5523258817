use mathlib.Core.Path.{sym, ap, ◌∙◌, subst}
use lib.Dec.{T}
use lib.Ieee.{binary64, to_bits}
use Rattle.sheets.proofs.PatternsLaws.{is_nan_lem, nan_pattern}
use Rattle.sheets.proofs.patterns.pattern_of.Goals as goal

pub returns-then-is_nan : goal.returns-then-is_nan
returns-then-is_nan c =
    let is_nan = is_nan_lem c.args.number (subst T (sym c.if-is_nan.true ∙ c.is_nan.ensures.value) tt) in
    sym (ap (to_bits binary64) is_nan ∙ nan_pattern)
