use Rattle.sheets.proofs.PatternsLaws.{converted_refused, converted_done}
use Rattle.sheets.proofs.patterns.convert.Goals as goal

pub returns-then-out-items : goal.returns-then-out-items
returns-then-out-items g c h made = converted_refused h c.args.items.now c.args.out.now c.if-out-items.true

pub returns : goal.returns
returns g c h made = converted_done h c.args.items.now c.args.out.now _ c.if-out-items.false (c.put_made.ensures h made)
