use Rattle.ap_speculate.proofs.Placing.{row_more}
use Rattle.ap_speculate.proofs.gathering.rows_of.Goals as goal

pub loop-row-preserved : goal.loop-row-preserved
loop-row-preserved g c = row_more g.D.Deques.all c.loop-row.made.items c.push.new.self.items c.in-Some.row.dealers c.in-Ok.ensures.items c.loop-row.invariant c.in-Some.row.is
