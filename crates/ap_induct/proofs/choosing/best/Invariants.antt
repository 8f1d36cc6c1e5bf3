use Rattle.std.proofs.Common.{◌≡◌, ◌≤◌, drop, length}
use Rattle.std.specs.Option.{option_copied}
use Rattle.ap_induct.specs.Choosing.{best}
use Rattle.ap_induct.proofs.choosing.best.Given as goal

-- the best of those behind
abbrev pub invariant-loop-i : goal.invariant-loop-i
invariant-loop-i l = (option_copied l.found ≡ best l.all (drop l.i l.all)) × (l.i ≤ length l.all)

abbrev pub decreases-loop-i : goal.decreases-loop-i
decreases-loop-i l = l.i
