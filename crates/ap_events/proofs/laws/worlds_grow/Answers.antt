use Rattle.ap_events.proofs.Sounding.{worked_grows, worked_tells}
use Rattle.ap_events.proofs.laws.worlds_grow.Goals as goal

pub returns-clause-grows : goal.returns-clause-grows
returns-clause-grows c = worked_grows

pub returns-clause-tells : goal.returns-clause-tells
returns-clause-tells c = worked_tells
