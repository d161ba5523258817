use Rattle.exports.proofs.SheetLaws.{short_ok, short_err}
use Rattle.exports.proofs.sheet.short_refusal.Goals as goal

pub returns-in-Ok : goal.returns-in-Ok
returns-in-Ok c = short_ok c.args.bytes.now c.in-Ok.ensures.answered.0

pub returns-in-Err : goal.returns-in-Err
returns-in-Err c = short_err c.args.bytes.now c.in-Err.refusal c.in-Err.ensures.answered
