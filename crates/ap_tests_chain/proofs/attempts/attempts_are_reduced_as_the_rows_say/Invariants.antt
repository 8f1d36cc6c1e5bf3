use Rattle.ap_tests_chain.proofs.attempts.attempts_are_reduced_as_the_rows_say.Given as goal

-- the brand of the tasks is the plan
abbrev pub ghosts-rows_told : goal.ghosts-rows_told
ghosts-rows_told g a = record { plan = a.plan.now }
