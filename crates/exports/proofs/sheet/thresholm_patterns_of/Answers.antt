use mathlib.Core.Path.{refl}
use Rattle.std.proofs.Common.{rules}
use Rattle.exports.proofs.ReportsLaws.{list_reported}
use Rattle.exports.proofs.sheet.thresholm_patterns_of.Goals as goal

pub returns : goal.returns
returns c = list_reported refl c.patterns_of.ensures (λ k p. search rules) c.report.ensures
