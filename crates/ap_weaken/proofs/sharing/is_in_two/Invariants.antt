use Rattle.std.proofs.Common.{◌≡◌, length}
use Rattle.ap_weaken.specs.Generalize.{is_in_two}
use Rattle.ap_weaken.proofs.sharing.is_in_two.Given as goal

-- those that are left decide
abbrev pub invariant-loop-left : goal.invariant-loop-left
invariant-loop-left l = is_in_two l.t l.left ≡ is_in_two l.t l.literals

abbrev pub decreases-loop-left : goal.decreases-loop-left
decreases-loop-left l = length l.left
