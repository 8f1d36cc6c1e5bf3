use Rattle.std.proofs.Common.{◌≡◌, length, take}
use Rattle.ap_list.specs.Lists.{Each}
use Rattle.ap_kernel.specs.Reductions.{claims, all_from}
use Rattle.ap_chain.specs.Closing.{Closes}
use Rattle.ap_chain.proofs.closing.+closed.Given as goal

abbrev pub decreases-closed : goal.decreases-closed
decreases-closed g l = length l.marks.now

-- there is a reduction to none from each of the clauses so far
abbrev pub invariant-loop-goal : goal.invariant-loop-goal
invariant-loop-goal g l = Each (Closes g.J.Planned.plan.world) l.rest × (all_from (claims l.rest) ≡ take l.goal-index l.goal-items)
