use mathlib.Core.Path.{ap}
use lib.ListN.{length}
use Rattle.std.proofs.Common.{rules}
use Rattle.masks.specs.declared.shape.Shape.{Shape}
use Rattle.masks.specs.Unpack.{unpack_vector}
use Rattle.exports.proofs.ReportsLaws.{list_reported}
use Rattle.exports.proofs.unpack.thresholm_unpack_vector.Goals as goal

pub returns : goal.returns
returns c =
    let given = c.args in
    list_reported (ap (λ (s : Shape). unpack_vector s given.a.now (length given.out.now)) c.shape_from.ensures) c.unpack_vector.ensures (λ k p. search rules) c.report.ensures
