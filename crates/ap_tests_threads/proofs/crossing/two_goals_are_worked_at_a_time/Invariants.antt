use Rattle.ap_tests_threads.proofs.crossing.two_goals_are_worked_at_a_time.Given as goal

-- the brand of the tasks is the plan
abbrev pub ghosts-waterfall_by_two : goal.ghosts-waterfall_by_two
ghosts-waterfall_by_two g a = record { plan = a.plan.now }
