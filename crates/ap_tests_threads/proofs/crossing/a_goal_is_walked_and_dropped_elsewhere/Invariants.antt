use Rattle.ap_tests_threads.proofs.crossing.a_goal_is_walked_and_dropped_elsewhere.Given as goal

-- the brand of the tasks is the plan
abbrev pub ghosts-waterfall_elsewhere : goal.ghosts-waterfall_elsewhere
ghosts-waterfall_elsewhere g a = record { plan = a.plan.now }
