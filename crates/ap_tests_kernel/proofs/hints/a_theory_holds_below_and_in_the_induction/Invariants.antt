use Rattle.ap_tests_kernel.proofs.hints.a_theory_holds_below_and_in_the_induction.Given as goal

-- the brand of the tasks is the plan
abbrev pub ghosts-expect_theory : goal.ghosts-expect_theory
ghosts-expect_theory g a = record { plan = a.plan.now }
