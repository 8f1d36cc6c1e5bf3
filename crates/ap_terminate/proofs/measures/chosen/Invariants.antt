use Rattle.std.proofs.Common.{◌≡◌, drop}
use Rattle.ap_world.specs.Recursion.{first_suiting}
use Rattle.ap_terminate.proofs.measures.chosen.Given as goal

-- the first of those that are left is the first of all
abbrev pub invariant-loop-x : goal.invariant-loop-x
invariant-loop-x l = first_suiting l.formals (drop l.x-index l.formals) l.cases ≡ first_suiting l.formals l.formals l.cases
