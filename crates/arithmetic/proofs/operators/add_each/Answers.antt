use mathlib.Core.Path.{refl, sym, ◌∙◌}
use lib.ListN.{length}
use Rattle.arithmetic.specs.Operators.Sum.{Plus}
use Rattle.arithmetic.proofs.OperatorsLaws.{agreed_counts, agreed_room, agreed_sum}
use Rattle.arithmetic.proofs.operators.add_each.Goals as goal

pub put_sums-requires-clause-room : goal.put_sums-requires-clause-room
put_sums-requires-clause-room g c =
    let e = sym c.agrees.ensures ∙ c.if-not-agrees.false in (
      agreed_counts Plus c.args.left c.args.right c.args.a.now c.args.b.now (length c.args.out.now) e c.requires.accepted,
      agreed_room Plus c.args.left c.args.right c.args.a.now c.args.b.now (length c.args.out.now) e c.requires.accepted,
    )

pub returns : goal.returns
returns g c op h =
    let e = sym c.agrees.ensures ∙ c.if-not-agrees.false in
    rw (agreed_sum op c.args.left c.args.right c.args.a.now c.args.b.now (length c.args.out.now) e c.requires.accepted)
    (record { answered = (refl, refl); left = c.put_sums.ensures op h })
