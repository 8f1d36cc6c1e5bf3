use Rattle.ap_plain.proofs.attempting.attempt_moved.Given as goal

-- the brand of the tasks is the plan
abbrev pub ghosts-attempt_as : goal.ghosts-attempt_as
ghosts-attempt_as g a = record { plan = a.plan.now }
