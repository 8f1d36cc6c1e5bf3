use Rattle.std.proofs.Common.{◌≡◌, drop}
use Rattle.ap_strategy.specs.Steps.{first_solved}
use Rattle.ap_strategy.proofs.simplifying.solvable_place.Given as goal

-- no literal so far solves a variable
abbrev pub invariant-loop-place : goal.invariant-loop-place
invariant-loop-place l = first_solved l.c l.place (drop l.place l.c.0) ≡ first_solved l.c 0 l.c.0
