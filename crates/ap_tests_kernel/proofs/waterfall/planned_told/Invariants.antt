use Rattle.ap_tests_kernel.proofs.waterfall.planned_told.Given as goal

-- the brand of the tasks is the plan
abbrev pub ghosts-walk_told : goal.ghosts-walk_told
ghosts-walk_told a = record { plan = a.plan.now }
