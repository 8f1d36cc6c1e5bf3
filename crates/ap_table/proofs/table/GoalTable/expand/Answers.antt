use Rattle.ap_table.proofs.table.GoalTable.expand.Goals as goal

pub returns : goal.returns
returns g c = record { old = _; new = _; allowed = c.recall_allowed.ensures; done = c.expand_step-grown.ensures.grows }
