use Rattle.std.proofs.Common.{◌≡◌, ◌≤◌, drop, length}
use Rattle.std.specs.Option.{option_copied}
use Rattle.ap_weaken.specs.Generalize.{may_generalise, smallest}
use Rattle.ap_weaken.proofs.generalizing.smallest.Given as goal

-- the smallest of those behind
abbrev pub invariant-loop-i : goal.invariant-loop-i
invariant-loop-i g l = (option_copied l.found ≡ smallest (may_generalise l.w l.literals) (drop l.i l.calls)) × (l.i ≤ length l.calls)

abbrev pub decreases-loop-i : goal.decreases-loop-i
decreases-loop-i g l = l.i
