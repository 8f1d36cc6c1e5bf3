use Rattle.ap_tests_kernel.proofs.waterfall.inductions_stop_or_split_and_are_other_tasks.Given as goal

-- the brand of the tasks is the plan
abbrev pub ghosts-expect_all : goal.ghosts-expect_all
ghosts-expect_all g a = record { plan = a.plan.now }
