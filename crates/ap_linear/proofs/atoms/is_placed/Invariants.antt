use Rattle.std.proofs.Common.{◌≡◌, length}
use Rattle.ap_linear.specs.Steps.{is_placed}
use Rattle.ap_linear.proofs.atoms.is_placed.Given as goal

-- what is left has the answer
abbrev pub invariant-loop-left : goal.invariant-loop-left
invariant-loop-left l = is_placed l.t l.left ≡ is_placed l.t l.atoms

abbrev pub decreases-loop-left : goal.decreases-loop-left
decreases-loop-left l = length l.left
