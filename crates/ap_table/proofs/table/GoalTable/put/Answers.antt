use Rattle.ap_table.proofs.table.GoalTable.put.Goals as goal

pub returns : goal.returns
returns g c = record { old = _; new = _; allowed = c.recall_allowed.ensures; done = c.keep_walk-taken.ensures.puts }
