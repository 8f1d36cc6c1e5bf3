use Rattle.ap_table.proofs.table.GoalTable.wait_more.Goals as goal

pub returns : goal.returns
returns g c = record { run = _; allowed = c.length.ensures.allowed; said = c.length.ensures.is }
