use Rattle.arithmetic.proofs.QuotientLaws.{planar_refused, planar_five}
use Rattle.arithmetic.proofs.quotient.planar_refusal.Goals as goal

pub returns-in-Err : goal.returns-in-Err
returns-in-Err c = let a = c.args in planar_refused a.left a.right a.a.now a.b.now a.room c.in-Err.lower c.in-Err.ensures

pub returns-in-Ok : goal.returns-in-Ok
returns-in-Ok c = let a = c.args in planar_five a.left a.right a.a.now a.b.now a.room c.in-Ok.ensures.0
