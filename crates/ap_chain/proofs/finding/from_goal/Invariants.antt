use Rattle.std.proofs.Common.{◌≡◌, length}
use Rattle.ap_chain.specs.Marks.{from_goal}
use Rattle.ap_chain.proofs.finding.from_goal.Given as goal

-- none of the marks so far is such a one
abbrev pub invariant-loop-left : goal.invariant-loop-left
invariant-loop-left g l = from_goal l.clause l.induct l.left ≡ from_goal l.clause l.induct l.marks

abbrev pub decreases-loop-left : goal.decreases-loop-left
decreases-loop-left g l = length l.left
