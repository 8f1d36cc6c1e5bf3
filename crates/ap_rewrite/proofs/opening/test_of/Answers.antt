use Rattle.ap_rewrite.proofs.Tested.{if_there}
use Rattle.ap_rewrite.proofs.opening.test_of.Goals as goal

pub returns-in-If : goal.returns-in-If
returns-in-If c = (c.in-If.field-1.now, c.in-If.field-2.now, if_there _ _ _ _ c.in-If.ensures)
