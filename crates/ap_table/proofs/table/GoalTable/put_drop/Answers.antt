use Rattle.ap_table.proofs.table.GoalTable.put_drop.Goals as goal

pub returns : goal.returns
returns g c = record { old = _; new = _; allowed = c.recall_allowed.ensures; done = c.drop_step-taken.ensures.drops }
